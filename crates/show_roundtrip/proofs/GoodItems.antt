use Rattle.std.proofs.Common.{◌≡◌, ℕ, List, Ok}
use Rattle.std.specs.Prelude.{⊤}
use Rattle.c2po_lexer.specs.declared.token.Token.{Token}
use Rattle.c2po_ast.specs.ItemShape.{TypeShape, BodyShape, ItemShape}
use Rattle.c2po_parse.specs.Specification.{spec_of}
use Rattle.c2po_parse.proofs.ItemWalk.{NamesHave, BodyHas, ItemsHave, spec-have}
use Rattle.show_roundtrip.specs.Written.{IsName, IsToken}
use Rattle.show_roundtrip.specs.Said.{HasName}
use Rattle.show_roundtrip.proofs.GoodWords.{GoodWords, word-named}
use Rattle.show_roundtrip.proofs.GoodTrees.{HasNumbers, tree-numbers}

-- The names and numbers of items stand among their tokens.

-- what is known of the names and numbers of items; nothing is asked of their types
abbrev pub GoodType : TypeShape → Type 0
GoodType k = ⊤

abbrev pub AreNames : List (List ℕ) → Type 0
AreNames xs = NamesHave IsName xs

abbrev pub GoodBody : BodyShape → Type 0
GoodBody b = BodyHas IsName GoodType HasName HasNumbers b

abbrev pub GoodItems : List ItemShape → Type 0
GoodItems is = ItemsHave IsName GoodType HasName HasNumbers is

pub spec-names : (ts : List Token) (items : List ItemShape) → spec_of ts ≡ Ok items → GoodWords ts → GoodItems items
spec-names = spec-have IsToken IsName GoodType HasName HasNumbers word-named (λ x h. tt) tt tt (λ k h. tt) tt (λ x h. h) tree-numbers
