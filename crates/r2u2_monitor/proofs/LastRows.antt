-- The last row of rows.

use Rattle.std.proofs.Common.{◌≡◌, ◌+◌, ◌<◌, List, [], ◌∷◌, ◌++◌, length, refl, ap, subst, arith, length-append}
use Rattle.std.specs.Prelude.{All}
use Rattle.std.proofs.lemmas.List.{get_or-append-add}
use Rattle.std.proofs.lemmas.List.Elements.{All-get_or}

-- lists that end with these are equal only where these are, and what stands before them
pub same_last : {X : Type 0} (xs ys : List X) (x y : X) → xs ++ x ∷ [] ≡ ys ++ y ∷ [] → x ≡ y
same_last [] [] x y is = cc
same_last [] (b ∷ ys) x y is = absurd (omega (arith, ap (λ some. length some) is, length-append ys (y ∷ [])))
same_last (a ∷ xs) [] x y is = absurd (omega (arith, ap (λ some. length some) is, length-append xs (x ∷ [])))
same_last (a ∷ xs) (b ∷ ys) x y is =
    let rest : xs ++ x ∷ [] ≡ ys ++ y ∷ [] = cc in
    same_last xs ys x y rest

-- rows that aren't none end with a last one
pub ends_with : {X : Type 0} (xs : List X) → 0 < length xs → (before : List X) × (x : X) × (xs ≡ before ++ x ∷ [])
ends_with [] some = absurd (omega (arith, some))
ends_with (x ∷ []) some = ([], x, refl)
ends_with (x ∷ y ∷ xs) some =
    let rest = ends_with (y ∷ xs) (omega arith) in
    (x ∷ rest.0, rest.1, ap (λ more. x ∷ more) rest.2)

-- no rows have no last one
pub none_before : {X : Type 0} (before : List X) (x : X) → [] ≡ before ++ x ∷ [] → ⊥
none_before before x is = omega (arith, ap (λ some. length some) is, length-append before (x ∷ []))

-- what all have, the last one has
pub all_last : {X : Type 0} (P : X → Type 0) (xs before : List X) (x : X) → xs ≡ before ++ x ∷ [] → All P xs → P x
all_last P xs before x is all =
    let inside : length before + 0 < length (before ++ x ∷ []) = omega (arith, length-append before (x ∷ [])) in
    subst P (get_or-append-add before (x ∷ []) 0 x) (All-get_or P (before ++ x ∷ []) (length before + 0) x inside (subst (All P) is all))
