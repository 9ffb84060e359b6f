-- What a text says, and its first refusal, are those of the grammar's rules.

use Rattle.std.specs.Prelude.{option_map}
use Rattle.std.proofs.Common.{◌≡◌, ◌≢◌, ◌∙◌, ℕ, List, [], Option, Some, None, Result, Ok, Err, IfErr, refl, sym, ap, subst}
use Rattle.std.specs.Option.{option_or}
use Rattle.std.specs.Result.{result_unwrap_or}
use Rattle.c2po_lexer.specs.declared.fault.LexFault.{LexFault}
use Rattle.c2po_lexer.specs.declared.token.Token.{Token}
use Rattle.c2po_lexer.specs.Tokens.{tokens_of}
use Rattle.c2po_ast.specs.ItemShape.{ItemShape}
use Rattle.c2po_parse.specs.declared.fault.ParseFault.{ParseFault}
use Rattle.c2po_parse.specs.Specification.{spec_of}
use Rattle.c2po_parse.proofs.ItemCuts.{fault_sound, trees_complete, trees_sound}
use Rattle.c2po_types.specs.declared.fault.TypeFault.{TypeFault}
use Rattle.c2po_types.specs.FirstFault.{first_fault}
use Rattle.c2po_compile.specs.declared.fault.CompileFault.{CompileFault}
use Rattle.c2po_compile.specs.declared.fault.CompileFault.TheVariants.{Refused, BadHeader, Memory}
use Rattle.c2po_compile.specs.Refusals.{IsFirstRefusal, token_refusal, tree_refusal, check_refusal}
use Rattle.c2po_compile.specs.Front.{Says, IsRefusedBy, by_token, by_tree, by_check, tokens_in, items_in, refusal_in, first_refusal}
use Rattle.c2po_compile.proofs.TellingLaws.{map_none, second_none}

first_none : (o p : Option CompileFault) → option_or o p ≡ None → o ≡ None
first_none (Some fault) p h = absurd (cc)
first_none None p h = refl

-- what isn't refused was found
found : {A E : Type 0} (refusal : E → CompileFault) (r : Result A E) (other : A) → refusal_in refusal r ≡ None → r ≡ Ok (result_unwrap_or r other)
found refusal (Ok x) other h = refl
found refusal (Err fault) other h = absurd (cc)

pub says : (text : List ℕ) → first_refusal text ≡ None → Says text (items_in text)
says text h =
    let later : Option CompileFault = option_or (refusal_in tree_refusal (spec_of (tokens_in text))) (option_map check_refusal (first_fault (items_in text))) in
    let rest : later ≡ None = second_none (refusal_in token_refusal (tokens_of text)) later h in
    record {
      tokens = tokens_in text;
      are_tokens = found token_refusal (tokens_of text) [] (first_none (refusal_in token_refusal (tokens_of text)) later h);
      grammar = trees_sound (tokens_in text) (items_in text) (found tree_refusal (spec_of (tokens_in text)) [] (first_none (refusal_in tree_refusal (spec_of (tokens_in text))) _ rest));
      faultless = map_none (first_fault (items_in text)) (second_none (refusal_in tree_refusal (spec_of (tokens_in text))) _ rest);
    }

pub alone : (text : List ℕ) (items : List ItemShape) → Says text items → (first_refusal text ≡ None) × (items ≡ items_in text)
alone text items s =
    let same : tokens_in text ≡ s.tokens = ap (λ r. result_unwrap_or r []) s.are_tokens in
    let tree : spec_of (tokens_in text) ≡ Ok items = ap spec_of same ∙ trees_complete s.tokens items s.grammar in
    let own : items_in text ≡ items = ap (λ r. result_unwrap_or r []) tree in
    let later : Option CompileFault = option_or (refusal_in tree_refusal (spec_of (tokens_in text))) (option_map check_refusal (first_fault (items_in text))) in
    let tokens : first_refusal text ≡ later = ap (λ r. option_or (refusal_in token_refusal r) later) s.are_tokens in
    let trees : later ≡ option_map check_refusal (first_fault (items_in text)) = ap (λ r. option_or (refusal_in tree_refusal r) (option_map check_refusal (first_fault (items_in text)))) tree in
    let none : first_fault (items_in text) ≡ None = ap first_fault own ∙ s.faultless in
    (tokens ∙ trees ∙ ap (option_map check_refusal) none, sym own)

-- the first refusal is that of a rule
module _ (text : List ℕ) (fault : CompileFault) where
  in_items : (tokens : List Token) (o : Option TypeFault) → tokens_of text ≡ Ok tokens → (items : List ItemShape) → spec_of tokens ≡ Ok items → first_fault items ≡ o → option_map check_refusal o ≡ Some fault
      → IsRefusedBy text fault
  in_items tokens None are items tree is h = absurd (cc)
  in_items tokens (Some wrong) are items tree is h =
      let same : check_refusal wrong ≡ fault = cc in
      subst (IsRefusedBy text) same (by_check text tokens items wrong are (trees_sound tokens items tree) is)

  in_trees : (tokens : List Token) (s : Result (List ItemShape) ParseFault) → tokens_of text ≡ Ok tokens → spec_of tokens ≡ s
      → option_or (refusal_in tree_refusal s) (option_map check_refusal (first_fault (result_unwrap_or s []))) ≡ Some fault → IsRefusedBy text fault
  in_trees tokens (Err wrong) are tree h =
      let same : tree_refusal wrong ≡ fault = cc in
      subst (IsRefusedBy text) same (by_tree text tokens wrong are (fault_sound tokens wrong tree))
  in_trees tokens (Ok items) are tree h = in_items tokens (first_fault items) are items tree refl h

  in_tokens : (r : Result (List Token) LexFault) → tokens_of text ≡ r
      → option_or (refusal_in token_refusal r) (option_or (refusal_in tree_refusal (spec_of (result_unwrap_or r []))) (option_map check_refusal (first_fault (result_unwrap_or (spec_of (result_unwrap_or r [])) [])))) ≡ Some fault
      → IsRefusedBy text fault
  in_tokens (Err wrong) are h = let same : token_refusal wrong ≡ fault = cc in subst (IsRefusedBy text) same (by_token text wrong are)
  in_tokens (Ok tokens) are h = in_trees tokens (spec_of tokens) are refl h

  pub refused_by : first_refusal text ≡ Some fault → IsRefusedBy text fault
  refused_by h = in_tokens (tokens_of text) refl h

-- so is what a call answers
pub answered_by : (text : List ℕ) (fault : CompileFault) → IsFirstRefusal (first_refusal text) fault → fault ≢ Memory → IsRefusedBy text fault
answered_by text (Refused line why) h some = refused_by text (Refused line why) h
answered_by text (BadHeader why) h some = absurd h
answered_by text Memory h some = absurd (some refl)

pub said : (text : List ℕ) (items : List ItemShape) → first_refusal text ≡ None → items ≡ items_in text → Says text items
said text items h is = subst (Says text) (sym is) (says text h)
