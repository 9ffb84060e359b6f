-- The table of the operators, in words: the meaning of a formula on the rows at a time.
-- A reader of the contracts needs this file: it is the meaning to be read, and a law says that the function agrees.

use Rattle.std.specs.Prelude.{ℕ, ◌+◌, ◌-◌, ◌<◌, ◌≤◌, ◌⊎◌, IsTrue, List, [], slice_index_or, ⊤}
use Rattle.mltl_base.specs.declared.interval.Interval.{Interval}
use Rattle.mltl_base.specs.Atoms.{Row, holds}
use Rattle.mltl_base.specs.Formula.{Formula, truth, falsity, atom, negation, conjunction, disjunction, implication}
use Rattle.mltl_base.specs.Formula.{equivalence, finally, globally, until, release, once, historically, since}

-- q holds at t + k for some k of the interval, and p holds at t + j for every j from the lower end and below k
abbrev pub UntilAt : Interval → (ℕ → Type 0) → (ℕ → Type 0) → ℕ → Type 0
UntilAt i P Q t = (k : ℕ) × (i.lo ≤ k) × (k ≤ i.hi) × Q (t + k) × ((j : ℕ) → i.lo ≤ j → j < k → P (t + j))

-- q holds at some m up to t, as far back as the interval says, and p holds at every k after m up to t
abbrev pub SinceAt : Interval → (ℕ → Type 0) → (ℕ → Type 0) → ℕ → Type 0
SinceAt i P Q t = (m : ℕ) × (m ≤ t) × (i.lo ≤ t - m) × (t - m ≤ i.hi) × Q m × ((k : ℕ) → m < k → k ≤ t → P k)

-- the formula holds on the rows at time t
unfoldable pub Holds : List Row → Formula → ℕ → Type 0
Holds rows truth t = ⊤
Holds rows falsity t = ⊥
Holds rows (atom a) t = IsTrue (holds a (slice_index_or rows t []))
Holds rows (negation p) t = ¬ Holds rows p t
Holds rows (conjunction p q) t = Holds rows p t × Holds rows q t
Holds rows (disjunction p q) t = Holds rows p t ⊎ Holds rows q t
Holds rows (implication p q) t = Holds rows p t → Holds rows q t
Holds rows (equivalence p q) t = (Holds rows p t → Holds rows q t) × (Holds rows q t → Holds rows p t)
Holds rows (finally i p) t = (k : ℕ) × (i.lo ≤ k) × (k ≤ i.hi) × Holds rows p (t + k)
Holds rows (globally i p) t = (k : ℕ) → i.lo ≤ k → k ≤ i.hi → Holds rows p (t + k)
Holds rows (until i p q) t = UntilAt i (Holds rows p) (Holds rows q) t
Holds rows (release i p q) t = ¬ UntilAt i (λ s. ¬ Holds rows p s) (λ s. ¬ Holds rows q s) t
Holds rows (once i p) t = (m : ℕ) × (m ≤ t) × (i.lo ≤ t - m) × (t - m ≤ i.hi) × Holds rows p m
Holds rows (historically i p) t = (m : ℕ) → m ≤ t → i.lo ≤ t - m → t - m ≤ i.hi → Holds rows p m
Holds rows (since i p q) t = SinceAt i (Holds rows p) (Holds rows q) t
