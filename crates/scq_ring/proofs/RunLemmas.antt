-- Runs that follow one another.
use Rattle.std.proofs.Common.{◌≡◌, ◌≢◌, ℕ, Bool, ◌+◌, ◌-◌, ◌<◌, ◌≤◌, List, [], ◌∷◌, ◌++◌, length, get_or, arith, refl, subst, sym, ap, ◌∙◌, inl, inr, zero, suc}
use Rattle.std.proofs.lemmas.Bool.Decides.{nat_tests}
use Rattle.std.proofs.lemmas.Bool.{cases_lt}
use Rattle.scq_ring.specs.declared.runs.Slot.{Slot}
use Rattle.scq_ring.specs.Runs.{Alternate, Belongs, Spans, first_value, low_of, no_slot, ring_index_of, runs_from, runs_of, runs_to, upto_at, holds_in, verdict_at}
use Rattle.scq_ring.proofs.Windows.{get_or-window, length-window}
use Rattle.scq_ring.specs.declared.runs.Ring.{Ring}

-- each run takes at least one time
pub Spans-room : (low : ℕ) (runs : List Slot) (end : ℕ) → Spans low runs end → low + length runs ≤ end
Spans-room low [] end s = omega arith
Spans-room low (r ∷ rs) end s = omega (arith, Spans-room (r.upto + 1) rs end s.1)

-- a run is added
pub Spans-push : (low : ℕ) (runs : List Slot) (end : ℕ) (r : Slot) → Spans low runs end → end ≤ r.upto → Spans low (runs ++ r ∷ []) (r.upto + 1)
Spans-push low [] end r s h = (omega arith, refl)
Spans-push low (q ∷ qs) end r s h = (s.0, Spans-push (q.upto + 1) qs end r s.1 h)

-- before the end of the first runs their verdicts count, and from there on those of the others
pub value_in_before : (low : ℕ) (runs more : List Slot) (end t : ℕ) → Spans low runs end → low ≤ t → t < end → holds_in (runs ++ more) t ≡ holds_in runs t
value_in_before low [] more end t s from to = absurd (omega arith)
value_in_before low (r ∷ rs) more end t s from to = elim (cases_lt r.upto t) [
  | inl past ↦ let rest = value_in_before (r.upto + 1) rs more end t s.1 (omega arith) to in grind (arith, nat_tests, rest)
  | inr here ↦ grind (arith, nat_tests)
]

pub value_in_after : (low : ℕ) (runs more : List Slot) (end t : ℕ) → Spans low runs end → end ≤ t → holds_in (runs ++ more) t ≡ holds_in more t
value_in_after low [] more end t s from = refl
value_in_after low (r ∷ rs) more end t s from =
    let room = Spans-room (r.upto + 1) rs end s.1 in
    let rest = value_in_after (r.upto + 1) rs more end t s.1 from in
    let past : r.upto < t = omega arith in
    grind (arith, nat_tests, rest)

-- a single run has its value up to its end
pub value_in_one : (r : Slot) (t : ℕ) → t ≤ r.upto → holds_in (r ∷ []) t ≡ r.value
value_in_one r t h = grind (arith, nat_tests)

-- what a run after the others leaves
pub record Pushed (low : ℕ) (old new : List Slot) (end : ℕ) (r : Slot) : Type 0 where
  pub spans : Spans low new (r.upto + 1)
  pub kept : (t : ℕ) → low ≤ t → t < end → holds_in new t ≡ holds_in old t
  pub written : (t : ℕ) → end ≤ t → t ≤ r.upto → holds_in new t ≡ r.value

pub pushed : (low : ℕ) (old : List Slot) (end : ℕ) (r : Slot) → Spans low old end → end ≤ r.upto → (new : List Slot) → new ≡ old ++ r ∷ [] → Pushed low old new end r
pushed low old end r s ahead new e = record {
  spans = subst (λ (rs : List Slot). Spans low rs (r.upto + 1)) (sym e) (Spans-push low old end r s ahead);
  kept = λ t from to. ap (λ (rs : List Slot). holds_in rs t) e ∙ value_in_before low old (r ∷ []) end t s from to;
  written = λ t from to. ap (λ (rs : List Slot). holds_in rs t) e ∙ value_in_after low old (r ∷ []) end t s from ∙ value_in_one r t to;
}

-- what is left without the first run
pub record Shortened (low : ℕ) (first : Slot) (rest : List Slot) (end : ℕ) : Type 0 where
  pub spans : Spans (first.upto + 1) rest end
  pub rises : low ≤ first.upto
  pub room : first.upto + 1 + length rest ≤ end
  pub kept : (t : ℕ) → first.upto + 1 ≤ t → holds_in rest t ≡ holds_in (first ∷ rest) t

pub shortened : (low : ℕ) (first : Slot) (rest : List Slot) (end : ℕ) → Spans low (first ∷ rest) end → Shortened low first rest end
shortened low first rest end s = record {
  spans = s.1;
  rises = s.0;
  room = Spans-room (first.upto + 1) rest end s.1;
  kept = λ t from. let past : first.upto < t = omega arith in grind (arith, nat_tests);
}

-- each run ends at or after the low time, and before the end
pub Spans-from : (low : ℕ) (runs : List Slot) (end : ℕ) → Spans low runs end → (k : ℕ) → k < length runs → low ≤ (get_or runs k no_slot).upto
Spans-from low [] end s k k_in = absurd (omega arith)
Spans-from low (r ∷ rs) end s zero k_in = s.0
Spans-from low (r ∷ rs) end s (suc k) k_in =
    let later : r.upto + 1 ≤ (get_or rs k no_slot).upto = Spans-from (r.upto + 1) rs end s.1 k (omega arith) in
    omega arith

pub Spans-upto : (low : ℕ) (runs : List Slot) (end : ℕ) → Spans low runs end → (k : ℕ) → k < length runs → (get_or runs k no_slot).upto < end
Spans-upto low [] end s k k_in = absurd (omega arith)
Spans-upto low (r ∷ rs) end s zero k_in = omega (arith, Spans-room (r.upto + 1) rs end s.1)
Spans-upto low (r ∷ rs) end s (suc k) k_in = Spans-upto (r.upto + 1) rs end s.1 k (omega arith)

-- the last run goes up to the end
pub Spans-last : (low : ℕ) (runs : List Slot) (end : ℕ) → Spans low runs end → (k : ℕ) → k + 1 ≡ length runs → (get_or runs k no_slot).upto + 1 ≡ end
Spans-last low [] end s k k_is = absurd (omega arith)
Spans-last low (r ∷ []) end s zero k_is = s.1
Spans-last low (r ∷ q ∷ qs) end s zero k_is = absurd (omega arith)
Spans-last low (r ∷ rs) end s (suc k) k_is = Spans-last (r.upto + 1) rs end s.1 k (omega arith)

-- runs end later and later
pub Spans-rising : (low : ℕ) (runs : List Slot) (end : ℕ) → Spans low runs end → (j k : ℕ) → j ≤ k → k < length runs → (get_or runs j no_slot).upto ≤ (get_or runs k no_slot).upto
Spans-rising low [] end s j k jk k_in = absurd (omega arith)
Spans-rising low (r ∷ rs) end s zero zero jk k_in = omega arith
Spans-rising low (r ∷ rs) end s zero (suc k) jk k_in =
    let later : r.upto + 1 ≤ (get_or rs k no_slot).upto = Spans-from (r.upto + 1) rs end s.1 k (omega arith) in
    omega arith
Spans-rising low (r ∷ rs) end s (suc j) zero jk k_in = absurd (omega arith)
Spans-rising low (r ∷ rs) end s (suc j) (suc k) jk k_in = Spans-rising (r.upto + 1) rs end s.1 j k (omega arith) (omega arith)

-- the first run that reaches a time has its verdict, and that of the times up to the run's end
pub value_in_first : (runs : List Slot) (k from : ℕ) → k < length runs → ((j : ℕ) → j < k → (get_or runs j no_slot).upto < from) → (t : ℕ) → from ≤ t → t ≤ (get_or runs k no_slot).upto → holds_in runs t ≡ (get_or runs k no_slot).value
value_in_first [] k from k_in below t t_from t_to = absurd (omega arith)
value_in_first (r ∷ rs) zero from k_in below t t_from t_to = grind (arith, nat_tests)
value_in_first (r ∷ rs) (suc k) from k_in below t t_from t_to =
    let past : r.upto < from = below 0 (omega arith) in
    let rest : holds_in rs t ≡ (get_or rs k no_slot).value = value_in_first rs k from (omega arith) (λ j jk. below (suc j) (omega arith)) t t_from t_to in
    grind (arith, nat_tests, rest)

-- the later a time, the fewer runs end at or after it
pub runs_to-falls : (runs : List Slot) (t u : ℕ) → t ≤ u → runs_to u runs ≤ runs_to t runs
runs_to-falls [] t u h = omega arith
runs_to-falls (r ∷ rs) t u h = let rest = runs_to-falls rs t u h in grind (arith, nat_tests, rest)

-- past the end of a run that reaches a time, this run is left out
pub runs_to-past : (runs : List Slot) (k from : ℕ) → k < length runs → from ≤ (get_or runs k no_slot).upto → runs_to ((get_or runs k no_slot).upto + 1) runs + 1 ≤ runs_to from runs
runs_to-past [] k from k_in h = absurd (omega arith)
runs_to-past (r ∷ rs) zero from k_in h = let rest = runs_to-falls rs from (r.upto + 1) (omega arith) in grind (arith, nat_tests, rest)
runs_to-past (r ∷ rs) (suc k) from k_in h = let rest = runs_to-past rs k from (omega arith) h in grind (arith, nat_tests, rest)

-- so it is with the runs of a ring
pub runs_from_later : (ring : Ring) (slots : List Slot) (t u : ℕ) → t ≤ u → runs_from ring slots u ≤ runs_from ring slots t
unfolding runs_from
runs_from_later ring slots t u h = let rest = runs_to-falls (runs_of ring slots) t u h in grind (arith, nat_tests, rest)

-- a run is added, and a newest one of another value comes after it
first_pushed : (runs : List Slot) (r : Slot) (newest : Bool) → first_value (runs ++ r ∷ []) newest ≡ first_value runs r.value
first_pushed [] r newest = refl
first_pushed (q ∷ qs) r newest = refl

pub Alternate-push : (runs : List Slot) (r : Slot) (newest : Bool) → Alternate runs r.value → newest ≢ r.value → Alternate (runs ++ r ∷ []) newest
Alternate-push [] r newest a other = (λ e. other (sym e), tt)
Alternate-push (q ∷ qs) r newest a other = (λ e. a.0 (e ∙ first_pushed qs r newest), Alternate-push qs r newest a.1 other)

pub Alternate-none : (runs : List Slot) (newest : Bool) → length runs ≡ 0 → Alternate runs newest
Alternate-none [] newest none = tt
Alternate-none (r ∷ rs) newest none = absurd (omega arith)

-- at the end of a run the value turns
value_in_turns : (low : ℕ) (runs : List Slot) (end : ℕ) (newest : Bool) → Spans low runs end → Alternate runs newest → (k : ℕ) → k < length runs → (get_or runs k no_slot).upto + 1 < end
    → holds_in runs ((get_or runs k no_slot).upto + 1) ≢ (get_or runs k no_slot).value
value_in_turns low [] end newest s a k k_in further = absurd (omega arith)
value_in_turns low (r ∷ []) end newest s a zero k_in further = absurd (omega (arith, s.1))
value_in_turns low (r ∷ q ∷ qs) end newest s a zero k_in further =
    let next_reaches : r.upto + 1 ≤ q.upto = s.1.0 in
    let next : holds_in (r ∷ q ∷ qs) (r.upto + 1) ≡ q.value = grind (arith, nat_tests) in
    λ same. a.0 (sym same ∙ next)
value_in_turns low (r ∷ rs) end newest s a (suc k) k_in further =
    let later : r.upto + 1 ≤ (get_or rs k no_slot).upto = Spans-from (r.upto + 1) rs end s.1 k (omega arith) in
    let after : ℕ = (get_or rs k no_slot).upto + 1 in
    let past : r.upto < after = omega arith in
    let rest : holds_in (r ∷ rs) after ≡ holds_in rs after = grind (arith, nat_tests) in
    λ same. value_in_turns (r.upto + 1) rs end newest s.1 a.1 k (omega arith) further (sym rest ∙ same)

newest_differs : (low : ℕ) (runs : List Slot) (end : ℕ) (newest : Bool) → Spans low runs end → Alternate runs newest → (k : ℕ) → k < length runs → (get_or runs k no_slot).upto + 1 ≡ end → newest ≢ (get_or runs k no_slot).value
newest_differs low [] end newest s a k k_in last = absurd (omega arith)
newest_differs low (r ∷ []) end newest s a zero k_in last = λ same. a.0 (sym same)
newest_differs low (r ∷ q ∷ qs) end newest s a zero k_in last = absurd (omega (arith, Spans-room (r.upto + 1) (q ∷ qs) end s.1))
newest_differs low (r ∷ rs) end newest s a (suc k) k_in last = newest_differs (r.upto + 1) rs end newest s.1 a.1 k (omega arith) last

-- there is a run where some time is covered
pub some_run : (low : ℕ) (runs : List Slot) (end : ℕ) → Spans low runs end → low < end → 0 < length runs
some_run low [] end s h = absurd (omega arith)
some_run low (r ∷ rs) end s h = omega arith

-- from where the newest run begins, its verdict stands
pub verdict_newest : (ring : Ring) (slots : List Slot) (t : ℕ) → ring.since ≤ t → verdict_at ring slots t ≡ ring.value
unfolding verdict_at
verdict_newest ring slots t from = grind (arith, nat_tests)

-- and before it those of the runs in the slots
pub verdict_before : (ring : Ring) (slots : List Slot) (t : ℕ) → t < ring.since → verdict_at ring slots t ≡ holds_in (runs_of ring slots) t
unfolding verdict_at
verdict_before ring slots t to = grind (arith, nat_tests)

-- run k stands at its index
pub run_at_index : (ring : Ring) (slots : List Slot) (k ring_index : ℕ) → Belongs ring slots → k < ring.used → ring_index ≡ ring_index_of ring.oldest k (length slots)
    → get_or (runs_of ring slots) k no_slot ≡ get_or slots ring_index no_slot
run_at_index ring slots k ring_index b k_in place_is =
    get_or-window ring.oldest ring.used slots b.oldest_in b.used_in k no_slot k_in ∙ ap (λ (j : ℕ). get_or slots j no_slot) (sym place_is)

-- the kept runs are as many as are used
pub length-runs : (ring : Ring) (slots : List Slot) → Belongs ring slots → length (runs_of ring slots) ≡ ring.used
length-runs ring slots b = length-window ring.oldest ring.used slots b.oldest_in b.used_in

-- after the end of run k the verdict is another
pub verdict_turns : (ring : Ring) (slots : List Slot) (k : ℕ) → Belongs ring slots → k < ring.used → verdict_at ring slots (upto_at (runs_of ring slots) k + 1) ≢ (get_or (runs_of ring slots) k no_slot).value
verdict_turns ring slots k b k_in =
    let runs : List Slot = runs_of ring slots in
    let end : ℕ = upto_at runs k in
    let size : length runs ≡ ring.used = length-runs ring slots b in
    let before : end < ring.since = Spans-upto ring.low runs ring.since b.spans k (omega arith) in
    elim (cases_lt (end + 1) ring.since) [
      | inl further ↦ λ same. value_in_turns ring.low runs ring.since ring.value b.spans b.alternate k (omega arith) further (sym (verdict_before ring slots (end + 1) further) ∙ same)
      | inr last ↦ λ same. newest_differs ring.low runs ring.since ring.value b.spans b.alternate k (omega arith) (omega arith) (sym (verdict_newest ring slots (end + 1) last) ∙ same)
    ]

-- the last run in the slots ends where the newest one begins
pub record HasLast (ring : Ring) (slots : List Slot) : Type 0 where
  pub some_run : 0 < ring.used
  pub ends : upto_at (runs_of ring slots) (ring.used - 1) + 1 ≡ ring.since

pub has_last : (ring : Ring) (slots : List Slot) → Belongs ring slots → low_of ring < ring.since → HasLast ring slots
unfolding low_of
has_last ring slots b covered =
    let size = length-runs ring slots b in
    let some = some_run ring.low (runs_of ring slots) ring.since b.spans covered in
    record { some_run = omega arith; ends = Spans-last ring.low (runs_of ring slots) ring.since b.spans (ring.used - 1) (omega arith) }

-- runs that end at or after a time are some of the runs
runs_to-few : (runs : List Slot) (from : ℕ) → runs_to from runs ≤ length runs
runs_to-few [] from = omega arith
runs_to-few (r ∷ rs) from = let rest = runs_to-few rs from in grind (arith, nat_tests, rest)

-- a ring holds one run more than it has slots at most
pub runs_from_few : (ring : Ring) (slots : List Slot) (from : ℕ) → Belongs ring slots → runs_from ring slots from ≤ length slots + 1
unfolding runs_from
runs_from_few ring slots from b =
    let few = runs_to-few (runs_of ring slots) from in
    let size : length (runs_of ring slots) ≡ ring.used = length-runs ring slots b in
    let used : ring.used ≤ length slots = b.used_in in
    grind (arith, nat_tests, few, size, used)
