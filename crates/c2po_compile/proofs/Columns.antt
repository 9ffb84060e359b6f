-- Stored signals: their columns are of their kinds, and no column and no name comes twice.

use Rattle.std.proofs.Common.{◌≡◌, ◌≢◌, ℕ, zero, suc, ◌<◌, ◌≤◌, ◌==◌, Bool, true, false, not, if◌then◌else◌, Some, None, List, [], ◌∷◌, ◌++◌, All, length, take, slice_get, slice_index, slice_index_or, eqb, refl, sym, ap, ◌∙◌, arith, inl, inr, eq-eqb}
use Rattle.std.specs.Prelude.{◌&&◌}
use Rattle.std.specs.List.{list_any, AllByRecursion, IsDistinct}
use Rattle.std.specs.Option.{option_map}
use Rattle.std.specs.Str.{bytes_eq}
use Rattle.std.proofs.lemmas.Bool.{eqb-true, lt-ltb, and_from, or_right}
use Rattle.std.proofs.lemmas.Bool.Decides.{eqb_tells}
use Rattle.std.proofs.lemmas.List.{get_or-take, length-map, length-take-le}
use Rattle.std.proofs.lemmas.List.Folds.{Any-from_list_any, list_any_at, list_any_none}
use Rattle.std.proofs.lemmas.Map.Steps.{length-le_from_distinct_below}
use Rattle.std.proofs.lemmas.Option.{same_Some, slice_get-get_or, slice_get-map, slice_get_within}
use Rattle.std.proofs.lemmas.Slice.Eq.{bytes_eq-Decides}
use Rattle.mltl_base.specs.declared.program.Program.{Program}
use Rattle.mltl_base.specs.declared.program.StoredSignal.{StoredSignal}
use Rattle.mltl_base.specs.declared.signal.Signal.{Signal}
use Rattle.obs_verify.specs.declared.fault.VerifyFault.{VerifyFault}
use Rattle.obs_verify.specs.declared.fault.VerifyFault.TheVariants.{Signal as BadSignal}
use Rattle.obs_verify.specs.Bound.{AreDifferent}
use Rattle.obs_verify.specs.WellFormed.{first_in, has_kind, is_new_signal, signal_fault, unless}
use Rattle.obs_verify.proofs.WellBound.{from_each}
use Rattle.mltl_base.specs.Kinds.{HaveOwnNames, kinds_of}
use Rattle.c2po_compile.specs.Images.{stored, stored_signals}
use Rattle.c2po_compile.proofs.Reading.{AreOfKinds}

-- a test that holds brings no fault
pub passes : (test : Bool) (fault : VerifyFault) → test ≡ true → unless test fault ≡ None
passes true fault h = refl
passes false fault h = absurd (cc)

-- what stands in the place of a signal that isn't there
pub no_signal : Signal
no_signal = record { name = []; truth = false }

nothing_stored : StoredSignal
nothing_stored = record { name = []; truth = false; column = 0 }

stored_at : (signals : List Signal) (columns : List ℕ) (i : ℕ) (d : StoredSignal) → length columns ≡ length signals → i < length signals →
    slice_index_or (stored_signals signals columns) i d ≡ stored (slice_index_or signals i no_signal, slice_index columns i)
stored_at (s ∷ signals) (c ∷ columns) zero d same inside = refl
stored_at (s ∷ signals) (c ∷ columns) (suc i) d same inside = stored_at signals columns i d (omega arith) (omega arith)
stored_at _ _ i d same inside = absurd (omega arith)

pub length-stored_signals : (signals : List Signal) (columns : List ℕ) → length columns ≡ length signals → length (stored_signals signals columns) ≡ length signals
length-stored_signals [] columns same = refl
length-stored_signals (s ∷ signals) [] same = absurd (omega arith)
length-stored_signals (s ∷ signals) (c ∷ columns) same = ap suc (length-stored_signals signals columns (omega arith))

-- one more signal
pub stored_more : (signals : List Signal) (columns : List ℕ) (k : ℕ) → length columns ≡ length signals → k < length signals →
    stored_signals (take (suc k) signals) (take (suc k) columns) ≡ stored_signals (take k signals) (take k columns) ++ stored (slice_index_or signals k no_signal, slice_index columns k) ∷ []
stored_more (s ∷ signals) (c ∷ columns) zero same inside = refl
stored_more (s ∷ signals) (c ∷ columns) (suc k) same inside = ap (◌∷◌ (stored (s, c))) (stored_more signals columns k (omega arith) (omega arith))
stored_more _ _ k same inside = absurd (omega arith)

same_kind : (b t : Bool) → t ≡ b → (if b then t else not t) ≡ true
same_kind true t h = h
same_kind false t h = ap not h

differ : (a b : ℕ) → a ≢ b → (a == b) ≡ false
differ a b apart = elim (eqb_tells a b) [ inl p ↦ absurd (apart p.1) | inr p ↦ p.0 ]

names_differ : (x y : List ℕ) → x ≢ y → bytes_eq x y ≡ false
names_differ x y apart = go (bytes_eq x y) refl
  where
    go : (t : Bool) → bytes_eq x y ≡ t → bytes_eq x y ≡ false
    go true e = absurd (apart ((bytes_eq-Decides x y).0 e))
    go false e = e

-- ---- kinds

module _ (program : Program) (signals : List Signal) (columns : List ℕ) (kept : program.signals ≡ stored_signals signals columns) (same : length columns ≡ length signals) (below : All (λ c. c < program.width) columns) where
  kind_at : (s : ℕ) (b : Bool) → slice_get (kinds_of signals) s ≡ Some b → (s < length signals) × ((slice_index_or signals s no_signal).truth ≡ b)
  kind_at s b e =
      let within : s < length (kinds_of signals) = slice_get_within (kinds_of signals) s b e in
      let inside : s < length signals = omega (arith, length-map signals (λ (x : Signal). x.truth)) in
      let there : slice_get signals s ≡ Some (slice_index_or signals s no_signal) = slice_get-get_or signals s no_signal inside in
      let told : Some b ≡ Some (slice_index_or signals s no_signal).truth =
      sym e ∙ (slice_get-map (λ (x : Signal). x.truth) signals s ∙ ap (option_map (λ (x : Signal). x.truth)) there) in
      (inside, sym (same_Some b (slice_index_or signals s no_signal).truth told))

  pub of_kinds : AreOfKinds program (kinds_of signals) columns
  of_kinds = record {
    serves = λ s b e.
        let found = kind_at s b e in
        let test : StoredSignal → Bool = λ (x : StoredSignal). (x.column == slice_index columns s) && (if b then x.truth else not x.truth) in
        let passed : test (slice_index_or (stored_signals signals columns) s nothing_stored) ≡ true =
        ap test (stored_at signals columns s nothing_stored same found.0)
        ∙ and_from (slice_index columns s == slice_index columns s) (if b then (slice_index_or signals s no_signal).truth else not (slice_index_or signals s no_signal).truth) (eq-eqb (slice_index columns s) (slice_index columns s) refl) (same_kind b (slice_index_or signals s no_signal).truth found.1) in
        let has : has_kind program.signals (slice_index columns s) b ≡ true =
        ap (λ (ss : List StoredSignal). has_kind ss (slice_index columns s) b) kept
        ∙ list_any_at test (stored_signals signals columns) s nothing_stored (omega (arith, length-stored_signals signals columns same, found.0)) passed in
        and_from _ _ (lt-ltb _ _ (below s 0 (omega (arith, found.0)))) (or_right (program.version == 1) (has_kind program.signals (slice_index columns s) b) has);
  }

  -- ---- no column and no name twice
  module _ (apart : AreDifferent columns) (named : HaveOwnNames signals) where
    column_new : (i : ℕ) → i < length signals → list_any (λ (x : StoredSignal). x.column == slice_index columns i) (take i (stored_signals signals columns)) ≡ false
    column_new i inside = list_any_none (λ (x : StoredSignal). x.column == slice_index columns i) (take i (stored_signals signals columns)) (λ j d l.
        let before : j < i = omega (arith, length-take-le i (stored_signals signals columns) (omega (arith, length-stored_signals signals columns same))) in
        ap (λ (x : StoredSignal). x.column == slice_index columns i) (get_or-take i (stored_signals signals columns) j d before ∙ stored_at signals columns j d same (omega arith))
        ∙ differ (slice_index columns j) (slice_index columns i) (apart j i before (omega arith)))

    name_new : (i : ℕ) → i < length signals → list_any (λ (x : StoredSignal). bytes_eq (slice_index_or signals i no_signal).name x.name) (take i (stored_signals signals columns)) ≡ false
    name_new i inside = list_any_none (λ (x : StoredSignal). bytes_eq (slice_index_or signals i no_signal).name x.name) (take i (stored_signals signals columns)) (λ j d l.
        let before : j < i = omega (arith, length-take-le i (stored_signals signals columns) (omega (arith, length-stored_signals signals columns same))) in
        let own : (slice_index_or signals j no_signal).name ≢ (slice_index_or signals i no_signal).name =
        named j i (slice_index_or signals j no_signal) (slice_index_or signals i no_signal) before (slice_get-get_or signals j no_signal (omega arith)) (slice_get-get_or signals i no_signal inside) in
        ap (λ (x : StoredSignal). bytes_eq (slice_index_or signals i no_signal).name x.name) (get_or-take i (stored_signals signals columns) j d before ∙ stored_at signals columns j d same (omega arith))
        ∙ names_differ (slice_index_or signals i no_signal).name (slice_index_or signals j no_signal).name (λ e. own (sym e)))

    new_at : (i : ℕ) → i < length signals → is_new_signal program.width (take i (stored_signals signals columns)) (stored (slice_index_or signals i no_signal, slice_index columns i)) ≡ true
    new_at i inside =
        and_from _ _
        (and_from _ _ (lt-ltb _ _ (below i 0 (omega arith))) (ap not (column_new i inside)))
        (ap not (name_new i inside))

    pub signals_none : first_in (signal_fault program) 0 program.signals ≡ None
    signals_none = from_each (signal_fault program) program.signals (λ i d within.
        let inside : i < length signals = omega (arith, ap (λ (ss : List StoredSignal). length ss) kept, length-stored_signals signals columns same) in
        let here : slice_index_or program.signals i d ≡ stored (slice_index_or signals i no_signal, slice_index columns i) =
        ap (λ (ss : List StoredSignal). slice_index_or ss i d) kept ∙ stored_at signals columns i d same inside in
        let free : is_new_signal program.width (take i program.signals) (stored (slice_index_or signals i no_signal, slice_index columns i)) ≡ true =
        ap (λ (ss : List StoredSignal). is_new_signal program.width (take i ss) (stored (slice_index_or signals i no_signal, slice_index columns i))) kept ∙ new_at i inside in
        ap (signal_fault program i) here ∙ passes _ (BadSignal i) free)

-- ---- columns that are different are no more than the width

others : (x : ℕ) (ys : List ℕ) → ((j : ℕ) → j < length ys → x ≢ slice_index ys j) → AllByRecursion (λ y. eqb x y ≡ false) ys
others x [] h = tt
others x (y ∷ ys) h = (differ x y (h 0 (omega arith)), others x ys (λ j l. h (suc j) (omega arith)))

distinct : (xs : List ℕ) → AreDifferent xs → IsDistinct eqb xs
unfolding IsDistinct
distinct [] h = tt
distinct (x ∷ xs) h = (others x xs (λ j l. h 0 (suc j) (omega arith) (omega arith)), distinct xs (λ i j l m. h (suc i) (suc j) (omega arith) (omega arith)))

pub few_columns : (columns : List ℕ) (width : ℕ) → AreDifferent columns → All (λ c. c < width) columns → length columns ≤ width
few_columns columns width apart below = length-le_from_distinct_below columns width (distinct columns apart) (λ q e.
    let found = Any-from_list_any (eqb q) columns e in
    let small : slice_index_or columns found.0 found.1 < width = below found.0 found.1 found.2 in
    let same : q ≡ found.1 = eqb-true q found.1 found.4 in
    omega (arith, found.3))
