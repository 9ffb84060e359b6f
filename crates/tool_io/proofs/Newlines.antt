-- The first place of a byte, as a search tells it.

use Rattle.std.proofs.Common.{◌≡◌, cond, nat_lt, ℕ, ◌<◌, ◌≤◌, inl, inr, Bool, true, false, Option, Some, None, List, length, slice_index, refl, sym, ap, ◌∙◌, arith}
use Rattle.std.specs.Prelude.{position}
use Rattle.std.specs.List.{position_or_len}
use Rattle.std.proofs.lemmas.Bool.{cases_lt, true≢false}
use Rattle.std.proofs.lemmas.List.Quantifiers.{position-Some}
use Rattle.std.proofs.lemmas.List.Sums.{fails_before_first}
use Rattle.std.proofs.lemmas.Bool.Decides.{nat_tests}
use Rattle.memchr.specs.Find.{IsFirstByte}

-- where there is no place, no byte passes
none_passes : (p : ℕ → Bool) (xs : List ℕ) (k : ℕ) → position p xs ≡ None → k < length xs → p (slice_index xs k) ≡ false
none_passes p xs k none inside =
    let n = position_or_len p xs in
    let past : nat_lt n (length xs) ≡ false = elim (nat_lt n (length xs)) as (λ v. cond v (Some n) None ≡ None → v ≡ false) [
      | true ↦ λ is. cc
      | false ↦ λ is. refl
    ] none in
    let all : length xs ≤ n = grind (arith, nat_tests) in
    fails_before_first p xs k 0 (omega arith)

pub first_is_position : (p : ℕ → Bool) (xs : List ℕ) (found : Option ℕ) → IsFirstByte p xs found → found ≡ position p xs
first_is_position p xs found first = go (position p xs) found refl first
  where
    go : (there found : Option ℕ) → position p xs ≡ there → IsFirstByte p xs found → found ≡ there
    go None None is first = refl
    go (Some j) None is first =
        let at = position-Some p xs j 0 is in
        absurd (first j (omega arith) at.0 at.1)
    go None (Some k) is first =
        let none : p (slice_index xs k) ≡ false = none_passes p xs k is first.0.high in
        absurd (true≢false (sym first.1 ∙ none))
    go (Some j) (Some k) is first =
        let at = position-Some p xs j 0 is in
        elim (cases_lt k j) [
          | inl before ↦ let none : p (slice_index xs k) ≡ false = at.2 k before in absurd (true≢false (sym first.1 ∙ none))
          | inr later ↦ elim (cases_lt j k) [
            | inl before ↦ absurd (first.0.before j (omega arith) before at.1)
            | inr same ↦ ap Some (omega arith)
          ]
        ]
