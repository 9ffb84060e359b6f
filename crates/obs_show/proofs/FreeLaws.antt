-- Free numbers: as many as are needed, each of a name that no signal has, and no name twice.
use Rattle.std.proofs.Common.{◌≡◌, ℕ, zero, suc, ◌+◌, ◌<◌, ◌≤◌, ◌^◌, Bool, true, false, cond, not, List, [], ◌∷◌, length, slice_index, filter, refl, ap, sym, ◌∙◌, arith}
use Rattle.std.specs.Prelude.{◌||◌, All, decimal}
use Rattle.std.specs.List.{range_with_len}
use Rattle.std.specs.List.Sorted.{IsStrictlyIncreasing}
use Rattle.std.specs.Str.{bytes_eq}
use Rattle.std.proofs.lemmas.Fmt.{decimal_injective}
use Rattle.std.proofs.lemmas.List.Elements.{All-filter, filter_passes}
use Rattle.std.proofs.lemmas.List.Filters.{length-filter_both}
use Rattle.std.proofs.lemmas.List.FromFn.{get_or-range_with_len, length-range_with_len}
use Rattle.std.proofs.lemmas.List.Kept.{AllPairs-from_increasing, IsStrictlyIncreasing-filter}
use Rattle.std.proofs.lemmas.List.Sums.{count_by-le-length}
use Rattle.std.proofs.lemmas.Slice.Eq.{bytes_eq-Decides}
use Rattle.mltl_base.specs.declared.program.Program.{Program}
use Rattle.mltl_base.specs.declared.program.StoredSignal.{StoredSignal}
use Rattle.obs_verify.specs.Layout.{HasLayout}
use Rattle.obs_show.specs.Naming.{defined_name, free_numbers, is_future_operation, is_operation, is_past_operation, is_signal_name, numbered_name, operations}

refuted : (b : Bool) → (b ≡ true → ⊥) → b ≡ false
refuted true h = absurd (h refl)
refuted false h = refl

not_true : (b : Bool) → not b ≡ true → b ≡ false
not_true true h = absurd (cc)
not_true false h = refl

tail_of : List ℕ → List ℕ
tail_of [] = []
tail_of (x ∷ xs) = xs

tails : (x y : ℕ) (xs ys : List ℕ) → x ∷ xs ≡ y ∷ ys → xs ≡ ys
unfolding tail_of
tails x y xs ys h = ap tail_of h

-- numbers with one name are one
pub same_name : (m n : ℕ) → m < 2 ^ 64 → n < 2 ^ 64 → numbered_name m ≡ numbered_name n → m ≡ n
same_name m n few more h = decimal_injective m n few more (tails 100 100 (decimal m) (decimal n) h)

unlike : (xs ys : List ℕ) → (xs ≡ ys → ⊥) → bytes_eq xs ys ≡ false
unlike xs ys h = refuted (bytes_eq xs ys) (λ e. h ((bytes_eq-Decides xs ys).0 e))

-- a name that a number has isn't that of a later one
none_later : (name : List ℕ) (at from n : ℕ) → at < from → from + n < 2 ^ 64 → numbered_name at ≡ name → length (filter (λ k. bytes_eq (numbered_name k) name) (range_with_len from n)) ≡ 0
none_later name at from zero before few is = refl
none_later name at from (suc n) before few is =
    let rest : List ℕ = filter (λ k. bytes_eq (numbered_name k) name) (range_with_len (from + 1) n) in
    let apart : bytes_eq (numbered_name from) name ≡ false = unlike (numbered_name from) name (λ same.
    let one : from ≡ at = same_name from at (omega arith) (omega arith) (same ∙ sym is) in omega arith) in
    ap (λ b. length (cond b (from ∷ rest) rest)) apart ∙ none_later name at (from + 1) n (omega arith) (omega arith) is

one_step : (b : Bool) (from : ℕ) (rest : List ℕ) → (b ≡ true → length rest ≡ 0) → length rest ≤ 1 → length (cond b (from ∷ rest) rest) ≤ 1
one_step true from rest none few = omega (arith, none refl)
one_step false from rest none few = few

-- so at most one number has a name
one_at_most : (name : List ℕ) (from n : ℕ) → from + n < 2 ^ 64 → length (filter (λ k. bytes_eq (numbered_name k) name) (range_with_len from n)) ≤ 1
one_at_most name from zero few = omega arith
one_at_most name from (suc n) few =
    one_step (bytes_eq (numbered_name from) name) from (filter (λ k. bytes_eq (numbered_name k) name) (range_with_len (from + 1) n))
    (λ e. none_later name from (from + 1) n (omega arith) (omega arith) ((bytes_eq-Decides (numbered_name from) name).0 e))
    (one_at_most name (from + 1) n (omega arith))

either_step : (a b : Bool) (x : ℕ) (both ps qs : List ℕ) → length both ≤ length ps + length qs → length (cond (a || b) (x ∷ both) both) ≤ length (cond a (x ∷ ps) ps) + length (cond b (x ∷ qs) qs)
either_step true true x both ps qs h = omega arith
either_step true false x both ps qs h = omega arith
either_step false true x both ps qs h = omega arith
either_step false false x both ps qs h = h

either_few : (p q : ℕ → Bool) (xs : List ℕ) → length (filter (λ x. p x || q x) xs) ≤ length (filter p xs) + length (filter q xs)
either_few p q [] = omega arith
either_few p q (x ∷ xs) = either_step (p x) (q x) x (filter (λ x. p x || q x) xs) (filter p xs) (filter q xs) (either_few p q xs)

none_pass : (xs : List ℕ) → length (filter (λ x. false) xs) ≡ 0
none_pass [] = refl
none_pass (x ∷ xs) = none_pass xs

-- each signal takes one number at most
taken_few : (signals : List StoredSignal) (n : ℕ) → n < 2 ^ 64 → length (filter (λ k. is_signal_name signals (numbered_name k)) (range_with_len 0 n)) ≤ length signals
taken_few [] n few = omega (arith, none_pass (range_with_len 0 n))
taken_few (s ∷ signals) n few = omega (
  arith,
  either_few (λ k. bytes_eq (numbered_name k) s.name) (λ k. is_signal_name signals (numbered_name k)) (range_with_len 0 n),
  one_at_most s.name 0 n (omega arith),
  taken_few signals n few,
)

module _ (signals : List StoredSignal) (needed : ℕ) (few : needed + length signals < 2 ^ 64) where
  -- enough numbers are free
  pub enough_numbers : needed ≤ length (free_numbers signals needed)
  enough_numbers =
      let all : List ℕ = range_with_len 0 (needed + length signals) in
      omega (
        arith,
        length-filter_both (λ k. is_signal_name signals (numbered_name k)) (λ k. not (is_signal_name signals (numbered_name k))) (λ k. refl) all,
        taken_few signals (needed + length signals) few,
        length-range_with_len 0 (needed + length signals),
      )

  -- no signal has the name of one
  pub free_is_new : (k : ℕ) → k < length (free_numbers signals needed) → is_signal_name signals (numbered_name (slice_index (free_numbers signals needed) k)) ≡ false
  free_is_new k inside = not_true _ (filter_passes (λ n. not (is_signal_name signals (numbered_name n))) (range_with_len 0 (needed + length signals)) k 0 inside)

  all_small : All (λ n. n < 2 ^ 64) (range_with_len 0 (needed + length signals))
  all_small k d inside =
      let below : k < needed + length signals = omega (arith, length-range_with_len 0 (needed + length signals)) in
      omega (arith, get_or-range_with_len 0 (needed + length signals) k d below)

  free_small : (k : ℕ) → k < length (free_numbers signals needed) → slice_index (free_numbers signals needed) k < 2 ^ 64
  free_small k inside = All-filter (λ n. not (is_signal_name signals (numbered_name n))) (λ n. n < 2 ^ 64) (range_with_len 0 (needed + length signals)) all_small k 0 inside

  all_rise : IsStrictlyIncreasing (range_with_len 0 (needed + length signals))
  all_rise k inside =
      let below : k + 1 < needed + length signals = omega (arith, length-range_with_len 0 (needed + length signals)) in
      omega (arith, get_or-range_with_len 0 (needed + length signals) k 0 (omega arith), get_or-range_with_len 0 (needed + length signals) (k + 1) 0 below)

  -- they rise
  pub free_rise : (j k : ℕ) → j < k → k < length (free_numbers signals needed) → slice_index (free_numbers signals needed) j < slice_index (free_numbers signals needed) k
  free_rise j k before inside =
      AllPairs-from_increasing (free_numbers signals needed)
      (IsStrictlyIncreasing-filter (λ n. not (is_signal_name signals (numbered_name n))) (range_with_len 0 (needed + length signals)) all_rise) j k 0 before inside

  -- so their names differ
  pub free_differ : (j k : ℕ) → j < k → k < length (free_numbers signals needed)
      → numbered_name (slice_index (free_numbers signals needed) j) ≡ numbered_name (slice_index (free_numbers signals needed) k) → ⊥
  free_differ j k before inside same =
      let one : slice_index (free_numbers signals needed) j ≡ slice_index (free_numbers signals needed) k =
      same_name _ _ (free_small j (omega arith)) (free_small k inside) same in
      omega (arith, one, free_rise j k before inside)

-- a program has fewer operations and signals than numbers of 64 bits
pub few_operations : (program : Program) → HasLayout program → operations program + length program.signals < 2 ^ 64
few_operations program layout = omega (
  arith,
  layout.few_bz,
  layout.few_ft,
  layout.few_pt,
  layout.few_signals,
  count_by-le-length is_operation program.bz,
  count_by-le-length is_future_operation program.ft,
  count_by-le-length is_past_operation program.pt,
)

-- no signal has the defined name of an operation
pub defined_is_new : (program : Program) → HasLayout program → (k : ℕ) → k < operations program → is_signal_name program.signals (defined_name program k) ≡ false
defined_is_new program layout k inside =
    let few = few_operations program layout in
    free_is_new program.signals (operations program) few k (omega (arith, enough_numbers program.signals (operations program) few))

-- two operations have different defined names
pub defined_differ : (program : Program) → HasLayout program → (j k : ℕ) → j < k → k < operations program → defined_name program j ≡ defined_name program k → ⊥
defined_differ program layout j k before inside same =
    let few = few_operations program layout in
    free_differ program.signals (operations program) few j k before (omega (arith, enough_numbers program.signals (operations program) few)) same
