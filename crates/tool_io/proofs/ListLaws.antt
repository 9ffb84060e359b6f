-- Laws of the fronts of a list, and of a list that holds something.
use Rattle.std.proofs.Common.{◌≡◌, ◌≢◌, ℕ, ◌+◌, ◌≤◌, List, ◌++◌, take, drop, sym, ◌∙◌, ap, arith, ◌<◌, false, [], ◌∷◌, length, refl}
use Rattle.std.proofs.lemmas.List.{take-append-drop, take-take, drop-take}
use Rattle.tool_io.specs.Log.{is_empty}

-- a longer front is a front and what follows it
pub take-plus : (i n : ℕ) (xs : List ℕ) → take (i + n) xs ≡ take i xs ++ take n (drop i xs)
take-plus i n xs =
    let within : i ≤ i + n = omega arith in
    sym (take-append-drop i (take (i + n) xs)) ∙ ap (λ front. front ++ drop i (take (i + n) xs)) (take-take i (i + n) xs within) ∙ ap (λ rest. take i xs ++ rest) (drop-take i n xs)

-- a list that holds something
pub is_empty-some : (xs : List ℕ) → 0 < length xs → is_empty xs ≡ false
is_empty-some [] some = absurd (omega arith)
is_empty-some (x ∷ xs) some = refl

-- with more after it, it still holds something
pub some-append : (xs more : List ℕ) → xs ≢ [] → xs ++ more ≢ []
some-append [] more some none = some refl
some-append (x ∷ xs) more some none = cc
