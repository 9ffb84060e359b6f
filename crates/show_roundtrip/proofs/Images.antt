-- The images of texts without a fault have words of their own.

use Rattle.std.proofs.Common.{◌≡◌, ◌∙◌, ℕ, ◌+◌, Bool, true, false, List, [], ◌∷◌, ◌++◌, length, map, All, Option, Some, None, Result, Ok, Err, if◌then◌else◌, refl, ap, sym, subst, arith, inl, inr}
use Rattle.std.specs.Prelude.{◌⊎◌, decimal, ⊤}
use Rattle.std.specs.Option.{option_or}
use Rattle.std.specs.Result.{result_unwrap_or}
use Rattle.mltl_base.specs.declared.interval.Engine.{Engine}
use Rattle.mltl_base.specs.declared.program.Columns.{Columns}
use Rattle.mltl_base.specs.declared.program.Program.{Program}
use Rattle.mltl_base.specs.declared.signal.Signal.{Signal}
use Rattle.mltl_base.specs.Programs.{out_name as name_in_program}
use Rattle.mltl_base.specs.Reports.{Output, formula, contract}
use Rattle.mltl_base.specs.Formula.{Core}
use Rattle.mltl_base.specs.Subformulas.{Asked, IsTensed, out_by, subformulas}
use Rattle.c2po_ast.specs.Outputs.{asked_over}
use Rattle.c2po_compile.specs.Images.{IsImageOf, stored_signals}
use Rattle.obs_verify.specs.Layout.{HasLayout}
use Rattle.obs_verify.specs.WellFormed.{IsWellFormed}
use Rattle.c2po_lexer.specs.Tokens.{tokens_of}
use Rattle.c2po_ast.specs.ItemShape as item
use Rattle.c2po_ast.specs.ItemShape.{TypeShape, BodyShape, ItemShape}
use Rattle.c2po_parse.specs.Specification.{spec_of}
use Rattle.c2po_types.specs.Signals.{is_bool, body_signals, signals_of}
use Rattle.c2po_types.specs.Outputs as expanding
use Rattle.c2po_types.specs.Outputs.{Place, before, place_after, asked_at, asked_from, outputs_of}
use Rattle.mltl_simplify.specs.Outputs.{simple_outputs}
use Rattle.c2po_compile.specs.declared.fault.CompileFault.{CompileFault}
use Rattle.c2po_compile.specs.Refusals.{token_refusal, tree_refusal}
use Rattle.c2po_compile.specs.Front.{tokens_in, items_in, refusal_in, first_refusal}
use Rattle.c2po_compile.specs.Compiled.{signals_in, outputs_in}
use Rattle.c2po_compile.specs.Image.{over_columns, image}
use Rattle.c2po_compile.specs.ImageFiles.{compile_over, stored_columns}
use Rattle.c2po_compile.specs.Simplified.{are_smaller, smaller_outputs, compile_simplified_over}
use Rattle.c2po_compile.proofs.ImageLaws.{image_of}
use Rattle.c2po_compile.proofs.TellingLaws.{second_none, tensed}
use Rattle.mltl_simplify.proofs.Ending.{simple_tensed}
use Rattle.obs_show.specs.Text.{text}
use Rattle.show_roundtrip.specs.Written.{IsName, IsToken}
use Rattle.show_roundtrip.specs.Said.{HasName}
use Rattle.show_roundtrip.specs.Named.{AreNamed, AreLabelled, HasOwnWords}
use Rattle.show_roundtrip.proofs.GoodTokens.{tokens_good}
use Rattle.c2po_parse.proofs.Words.{words-all}
use Rattle.show_roundtrip.proofs.GoodItems.{AreNames, GoodBody, GoodItems, spec-names}
use Rattle.show_roundtrip.proofs.Naturals.{outputs_natural}
use Rattle.show_roundtrip.proofs.Constants.{image_counted, simple_counted}
use Rattle.show_roundtrip.proofs.Words.{program_words}
use Rattle.show_roundtrip.proofs.Returning.{program_returns}

-- ---- items of a text that isn't refused

first_none : (o p : Option CompileFault) → option_or o p ≡ None → o ≡ None
first_none (Some fault) p h = absurd (cc)
first_none None p h = refl

read_ok : {A E : Type 0} (refusal : E → CompileFault) (r : Result (List A) E) → refusal_in refusal r ≡ None → r ≡ Ok (result_unwrap_or r [])
read_ok refusal (Ok x) h = refl
read_ok refusal (Err e) h = absurd (cc)

pub items_good : (source : List ℕ) → first_refusal source ≡ None → GoodItems (items_in source)
items_good source h =
    let lexed : tokens_of source ≡ Ok (tokens_in source) = read_ok token_refusal (tokens_of source) (first_none (refusal_in token_refusal (tokens_of source)) _ h) in
    let others = second_none (refusal_in token_refusal (tokens_of source)) _ h in
    let parsed : spec_of (tokens_in source) ≡ Ok (items_in source) = read_ok tree_refusal (spec_of (tokens_in source)) (first_none (refusal_in tree_refusal (spec_of (tokens_in source))) _ others) in
    spec-names (tokens_in source) (items_in source) parsed (words-all IsToken (tokens_in source) (tokens_good source (tokens_in source) lexed))

-- ---- names of signals

abbrev AreNamedSignals : List Signal → Type 0
AreNamedSignals [] = ⊤
AreNamedSignals (s ∷ ss) = IsName s.name × AreNamedSignals ss

more_named : (left right : List Signal) → AreNamedSignals left → AreNamedSignals right → AreNamedSignals (left ++ right)
more_named [] right h k = k
more_named (s ∷ left) right h k = (h.0, more_named left right h.1 k)

input_named : (xs : List (List ℕ)) (t : TypeShape) → AreNames xs → AreNamedSignals (map (λ x. record { name = x; truth = is_bool t }) xs)
input_named [] t h = tt
input_named (x ∷ xs) t h = (h.0, input_named xs t h.1)

body_named : (body : BodyShape) → GoodBody body → AreNamedSignals (body_signals body)
body_named (item.input xs t) h = input_named xs t h.0
body_named _ h = tt

signals_named : (items : List ItemShape) → GoodItems items → AreNamedSignals (signals_of items)
signals_named [] h = tt
signals_named (i ∷ items) h = more_named (body_signals i.body) (signals_of items) (body_named i.body h.0) (signals_named items h.1)

stored_named : (signals : List Signal) (columns : List ℕ) → AreNamedSignals signals → AreNamed (stored_signals signals columns)
stored_named (s ∷ signals) (c ∷ columns) h = (h.0, stored_named signals columns h.1)
stored_named _ _ h = tt

-- ---- names of outputs

abbrev IsLabel : ℕ → List ℕ → Type 0
IsLabel k name = (name ≡ decimal k) ⊎ IsName name

abbrev AreLabels : ℕ → List Asked → Type 0
AreLabels k [] = ⊤
AreLabels k (a ∷ outs) = IsLabel k a.name × AreLabels (k + 1) outs

labels_append : (left right : List Asked) (k n : ℕ) → AreLabels k left → k + length left ≡ n → AreLabels n right → AreLabels k (left ++ right)
labels_append [] right k n h e g = let same : n ≡ k = omega arith in subst (λ (m : ℕ). AreLabels m right) same g
labels_append (a ∷ left) right k n h e g = (h.0, labels_append left right (k + 1) n h.1 (omega arith) g)

label_is : (k : ℕ) (label : Option (List ℕ)) → HasName label → IsLabel k (expanding.name_of k label)
label_is k None h = inl refl
label_is k (Some x) h = inr h

asked_labelled : (body : BodyShape) (p : Place) → GoodBody body → AreLabels p.outputs (asked_at body p)
asked_labelled (item.formula engine label e) p h = (label_is p.outputs label h.0, tt)
asked_labelled (item.contract engine label e f) p h = (label_is p.outputs label h.0, tt)
asked_labelled _ p h = tt

items_labelled : (items : List ItemShape) (p : Place) → GoodItems items → AreLabels p.outputs (asked_from items p)
unfolding asked_from
items_labelled [] p h = tt
items_labelled (i ∷ items) p h =
    labels_append (asked_at i.body p) (asked_from items (place_after i.body p)) p.outputs (place_after i.body p).outputs (asked_labelled i.body p h.0) refl (items_labelled items (place_after i.body p) h.1)

outputs_labelled : (items : List ItemShape) → GoodItems items → AreLabels 0 (outputs_of items)
unfolding outputs_of
outputs_labelled items h = items_labelled items before h

out_name : (ps : List Core) (engine : Engine) (name : List ℕ) (o : Output) → name_in_program (out_by ps engine name o) ≡ name
out_name ps engine name (formula p) = refl
out_name ps engine name (contract p q) = refl

outs_labelled : (all outs : List Asked) (k : ℕ) → AreLabels k outs → AreLabelled k (map (λ asked. out_by (subformulas asked.engine all) asked.engine asked.name asked.output) outs)
outs_labelled all [] k h = tt
outs_labelled all (a ∷ outs) k h =
    (subst (IsLabel k) (sym (out_name (subformulas a.engine all) a.engine a.name a.output)) h.0, outs_labelled all outs (k + 1) h.1)

over_labelled : (columns : List ℕ) (outs : List Asked) (k : ℕ) → AreLabels k outs → AreLabels k (map (asked_over columns) outs)
over_labelled columns [] k h = tt
over_labelled columns (a ∷ outs) k h = (h.0, over_labelled columns outs (k + 1) h.1)

simple_labelled : (outs : List Asked) (k : ℕ) → AreLabels k outs → AreLabels k (simple_outputs outs)
simple_labelled [] k h = tt
simple_labelled (a ∷ outs) k h = (h.0, simple_labelled outs (k + 1) h.1)

smaller_labelled : (columns : Columns) (outs : List Asked) → AreLabels 0 outs → AreLabels 0 (smaller_outputs columns outs)
unfolding smaller_outputs
smaller_labelled columns outs h = go (are_smaller (over_columns columns (simple_outputs outs)) (over_columns columns outs))
  where
    go : (b : Bool) → AreLabels 0 (if b then simple_outputs outs else outs)
    go true = simple_labelled outs 0 h
    go false = h

pub smaller_tensed : (columns : Columns) (outs : List Asked) → All IsTensed outs → All IsTensed (smaller_outputs columns outs)
unfolding smaller_outputs
smaller_tensed columns outs h = go (are_smaller (over_columns columns (simple_outputs outs)) (over_columns columns outs))
  where
    go : (b : Bool) → All IsTensed (if b then simple_outputs outs else outs)
    go true = simple_tensed outs h
    go false = h

-- ---- images

pub image_words : (source : List ℕ) (columns : Columns) → first_refusal source ≡ None → HasOwnWords (compile_over source columns)
unfolding image
image_words source columns h =
    let good : GoodItems (items_in source) = items_good source h in
    let over : List Asked = over_columns columns (outputs_in source) in
    record {
      signals = stored_named (signals_in source) columns.of_signal (signals_named (items_in source) good);
      outputs = outs_labelled over over 0 (over_labelled columns.of_signal (outputs_in source) 0 (outputs_labelled (items_in source) good));
      constants = image_counted columns (outputs_in source) (outputs_natural (items_in source) good);
    }

pub simple_words : (source : List ℕ) (columns : Columns) → first_refusal source ≡ None → HasOwnWords (compile_simplified_over source columns)
unfolding image
simple_words source columns h =
    let good : GoodItems (items_in source) = items_good source h in
    let outs : List Asked = smaller_outputs columns (outputs_in source) in
    let over : List Asked = over_columns columns outs in
    record {
      signals = stored_named (signals_in source) columns.of_signal (signals_named (items_in source) good);
      outputs = outs_labelled over over 0 (over_labelled columns.of_signal outs 0 (smaller_labelled columns (outputs_in source) (outputs_labelled (items_in source) good)));
      constants = simple_counted columns (outputs_in source) (outputs_natural (items_in source) good);
    }

-- an image returns
pub image_returns : (source : List ℕ) (columns : Columns) (program : Program) → first_refusal source ≡ None → program ≡ compile_over source columns → HasLayout program → IsWellFormed program → first_refusal (text program) ≡ None
    → compile_over (text program) (stored_columns program) ≡ program
image_returns source columns program h is few formed none =
    let of = image_of columns (signals_in source) (outputs_in source) in
    let same = sym is in
    program_returns (signals_in source) columns (outputs_in source) program (subst (λ (p : Program). IsImageOf (signals_in source) columns (outputs_in source) p) same of) (tensed source h) formed
    (program_words program few formed (ap (λ (p : Program). p.version) is ∙ of.version) (subst HasOwnWords same (image_words source columns h))) none

pub simple_returns : (source : List ℕ) (columns : Columns) (program : Program) → first_refusal source ≡ None → program ≡ compile_simplified_over source columns → HasLayout program → IsWellFormed program → first_refusal (text program) ≡ None
    → compile_over (text program) (stored_columns program) ≡ program
simple_returns source columns program h is few formed none =
    let outs : List Asked = smaller_outputs columns (outputs_in source) in
    let of = image_of columns (signals_in source) outs in
    let same = sym is in
    program_returns (signals_in source) columns outs program (subst (λ (p : Program). IsImageOf (signals_in source) columns outs p) same of) (smaller_tensed columns (outputs_in source) (tensed source h)) formed
    (program_words program few formed (ap (λ (p : Program). p.version) is ∙ of.version) (subst HasOwnWords same (simple_words source columns h))) none
