use Rattle.std.proofs.Common.{ℕ, suc, ◌≡◌, List, [], ◌∷◌, ◌++◌, arith, subst}
use Rattle.std.specs.Prelude.{All, ⊤}
use Rattle.c2po_lexer.specs.declared.token.What.{What}
use Rattle.c2po_lexer.specs.declared.token.What.TheVariants as what
use Rattle.c2po_lexer.specs.declared.token.Token.{Token}
use Rattle.c2po_lexer.specs.Tokens.{HasPlainLetters}
use Rattle.c2po_ast.specs.Names.{IsPlainName}

-- Token lists whose tokens all have something.
pub AllHave : (What → Type 0) → List Token → Type 0
AllHave Has [] = ⊤
AllHave Has (t ∷ ts) = Has t.what × AllHave Has ts

module _ (Has : What → Type 0) where
  pub words-all : (ts : List Token) → All (λ t. Has t.what) ts → AllHave Has ts
  unfolding AllHave
  words-all [] h = tt
  words-all (t ∷ ts) h = (h 0 t (omega arith), words-all ts (λ k d within. h (suc k) d (omega arith)))

  pub words-nil : AllHave Has []
  unfolding AllHave
  words-nil = tt

  pub words-head : (t : Token) (ts : List Token) → AllHave Has (t ∷ ts) → Has t.what
  unfolding AllHave
  words-head t ts h = h.0

  pub words-tail : (t : Token) (ts : List Token) → AllHave Has (t ∷ ts) → AllHave Has ts
  unfolding AllHave
  words-tail t ts h = h.1

  pub words-cons : (t : Token) (ts : List Token) → Has t.what → AllHave Has ts → AllHave Has (t ∷ ts)
  unfolding AllHave
  words-cons t ts h hs = (h, hs)

  pub words-left : (x y : List Token) → AllHave Has (x ++ y) → AllHave Has x
  unfolding AllHave
  words-left [] y h = tt
  words-left (t ∷ x) y h = (h.0, words-left x y h.1)

  pub words-right : (x y : List Token) → AllHave Has (x ++ y) → AllHave Has y
  unfolding AllHave
  words-right [] y h = h
  words-right (t ∷ x) y h = words-right x y h.1

  pub words-append : (x y : List Token) → AllHave Has x → AllHave Has y → AllHave Has (x ++ y)
  unfolding AllHave
  words-append [] y hx hy = hy
  words-append (t ∷ x) y hx hy = (hx.0, words-append x y hx.1 hy)

-- those whose names are made of letters, digits and `_`
abbrev pub PlainWords : List Token → Type 0
PlainWords ts = AllHave HasPlainLetters ts

-- a token that is a name
pub word-plain : (w : What) (x : List ℕ) → w ≡ what.Word x → HasPlainLetters w → IsPlainName x
word-plain w x is h = subst HasPlainLetters is h
