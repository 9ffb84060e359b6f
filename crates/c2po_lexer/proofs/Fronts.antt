-- Sizes of what a text begins with.
use Rattle.std.proofs.Common.{◌≡◌, ℕ, ◌≤◌, Bool, true, false, cond, List, [], ◌∷◌, length, take, Some, refl, ap, arith, nat_eq}
use Rattle.std.specs.Prelude.{find}
use Rattle.std.specs.List.{starts_with}
use Rattle.std.proofs.lemmas.Slice.Eq.{bytes_eq-Decides}
use Rattle.std.proofs.lemmas.List.{length-take}
use Rattle.c2po_lexer.specs.Spelling.{sign_text, sign_at, signs}
use Rattle.c2po_lexer.specs.declared.token.Sign.{Sign}

found : {X : Type 0} (p : X → Bool) (y : X) (ys : List X) (x : X) → ((z : X) → find p ys ≡ Some z → p z ≡ true) → (b : Bool) → p y ≡ b → cond b (Some y) (find p ys) ≡ Some x → p x ≡ true
found p y ys x rest true passes e = cc
found p y ys x rest false fails e = rest x e

-- what is found passes the test
pub find_passes : {X : Type 0} (p : X → Bool) (xs : List X) (x : X) → find p xs ≡ Some x → p x ≡ true
find_passes p [] x e = cc
find_passes p (y ∷ ys) x e = found p y ys x (find_passes p ys) (p y) refl e

pub length-starts_with : (text needle : List ℕ) → starts_with nat_eq text needle ≡ true → length needle ≤ length text
length-starts_with text needle h =
    let same : needle ≡ take (length needle) text = (bytes_eq-Decides needle (take (length needle) text)).0 h in
    omega (arith, ap length same, length-take (length needle) text)

-- a sign at the front fits the text
pub size_of_sign : (text : List ℕ) (s : Sign) → sign_at text ≡ Some s → length (sign_text s) ≤ length text
size_of_sign text s e = length-starts_with text (sign_text s) (find_passes (λ t. starts_with nat_eq text (sign_text t)) signs s e)
