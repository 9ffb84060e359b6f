-- The items of a text and its first refusal: as values, and by the rules of the grammar.

use Rattle.std.specs.Prelude.{◌≡◌, ℕ, List, [], Option, Some, None, option_map, Result, Ok, Err}
use Rattle.std.specs.Option.{option_or}
use Rattle.std.specs.Result.{result_unwrap_or}
use Rattle.c2po_lexer.specs.declared.fault.LexFault.{LexFault}
use Rattle.c2po_lexer.specs.declared.token.Token.{Token}
use Rattle.c2po_lexer.specs.Tokens.{tokens_of}
use Rattle.c2po_ast.specs.ItemShape.{ItemShape}
use Rattle.c2po_parse.specs.declared.fault.ParseFault.{ParseFault}
use Rattle.c2po_parse.specs.Items.{HasFirstFault, IsSpecification}
use Rattle.c2po_parse.specs.Specification.{spec_of}
use Rattle.c2po_types.specs.declared.fault.TypeFault.{TypeFault}
use Rattle.c2po_types.specs.FirstFault.{first_fault}
use Rattle.c2po_compile.specs.declared.fault.CompileFault.{CompileFault}
use Rattle.c2po_compile.specs.Refusals.{token_refusal, tree_refusal, check_refusal}

-- the tokens of a text; none if a token has a fault
abbrev pub tokens_in : List ℕ → List Token
tokens_in text = result_unwrap_or (tokens_of text) []

-- the items of a text; none if an item has no tree
abbrev pub items_in : List ℕ → List ItemShape
items_in text = result_unwrap_or (spec_of (tokens_in text)) []

-- the refusal for a fault, if the result is one
abbrev pub refusal_in : {A E : Type 0} → (E → CompileFault) → Result A E → Option CompileFault
refusal_in refusal (Ok found) = None
refusal_in refusal (Err fault) = Some (refusal fault)

-- the first refusal of a text: for its tokens, else for the trees of its items, else for the items' names, kinds, weights,
-- ranges and tenses
abbrev pub first_refusal : List ℕ → Option CompileFault
first_refusal text =
    option_or (refusal_in token_refusal (tokens_of text))
    (option_or (refusal_in tree_refusal (spec_of (tokens_in text)))
    (option_map check_refusal (first_fault (items_in text))))

-- by the rules of the grammar the text says these items, and they have no fault
pub record Says (text : List ℕ) (items : List ItemShape) : Type 0 where
  pub tokens : List Token
  pub are_tokens : tokens_of text ≡ Ok tokens
  pub grammar : IsSpecification tokens items
  pub faultless : first_fault items ≡ None

-- the text is refused by the rules: for a fault of its tokens, for the first item without a tree, or for the first fault of
-- its items
pub data IsRefusedBy : List ℕ → CompileFault → Type 0 where
  by_token : (text : List ℕ) (fault : LexFault) → tokens_of text ≡ Err fault → IsRefusedBy text (token_refusal fault)
  by_tree : (text : List ℕ) (tokens : List Token) (fault : ParseFault) →
      tokens_of text ≡ Ok tokens → HasFirstFault tokens fault → IsRefusedBy text (tree_refusal fault)
  by_check : (text : List ℕ) (tokens : List Token) (items : List ItemShape) (fault : TypeFault) →
      tokens_of text ≡ Ok tokens → IsSpecification tokens items → first_fault items ≡ Some fault →
      IsRefusedBy text (check_refusal fault)
