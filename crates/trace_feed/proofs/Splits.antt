-- A list of which no element passes a test is one part.
use Rattle.std.proofs.Common.{◌≡◌, ◌≤◌, ◌+◌, Bool, true, false, cond, List, [], ◌∷◌, length, refl, arith, ap}
use Rattle.std.specs.Prelude.{not}
use Rattle.std.specs.List.{before_first, onto_first, position_or_len, slice_split}
use Rattle.std.proofs.lemmas.List.{take_all}

alone_step : {X : Type 0} (p : X → Bool) (x : X) (xs : List X) → (length xs ≤ position_or_len p xs → slice_split p xs ≡ xs ∷ []) → (b : Bool) → p x ≡ b
    → length (x ∷ xs) ≤ cond (not b) (1 + position_or_len p xs) 0 → cond b ([] ∷ slice_split p xs) (onto_first x (slice_split p xs)) ≡ (x ∷ xs) ∷ []
alone_step p x xs rest true e past = absurd (omega arith)
alone_step p x xs rest false e past = ap (onto_first x) (rest (omega arith))

-- where no element passes, all is one part
pub split_alone : {X : Type 0} (p : X → Bool) (xs : List X) → length xs ≤ position_or_len p xs → slice_split p xs ≡ xs ∷ []
split_alone p [] past = refl
split_alone p (x ∷ xs) past = alone_step p x xs (split_alone p xs) (p x) refl past

-- and its first part
pub first_alone : {X : Type 0} (p : X → Bool) (xs : List X) → length xs ≤ position_or_len p xs → before_first p xs ≡ xs
first_alone p xs past = take_all (position_or_len p xs) xs past
