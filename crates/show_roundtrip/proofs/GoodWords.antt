use Rattle.std.proofs.Common.{ℕ, ◌≡◌, List, subst}
use Rattle.c2po_lexer.specs.declared.token.What.{What}
use Rattle.c2po_lexer.specs.declared.token.What.TheVariants as what
use Rattle.c2po_lexer.specs.declared.token.Token.{Token}
use Rattle.c2po_parse.proofs.Words.{AllHave}
use Rattle.show_roundtrip.specs.Written.{IsName, IsToken}

-- Token lists whose tokens are tokens of the language.
abbrev pub GoodWords : List Token → Type 0
GoodWords ts = AllHave IsToken ts

-- a token that is a name
pub word-named : (w : What) (x : List ℕ) → w ≡ what.Word x → IsToken w → IsName x
word-named w x is h = subst IsToken is h
