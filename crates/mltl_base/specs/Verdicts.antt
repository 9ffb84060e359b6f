-- The verdicts that are known after some rows: the longest prefix of times at which the strong Kleene value of the formula's
-- operator is known, over the known values of its operands.
-- A reader of the contracts needs this file.

use Rattle.std.specs.Prelude.{ℕ, zero, suc, ◌+◌, ◌-◌, ◌<◌, ◌≤◌, ◌≡◌, nat_lt, Bool, true, false, not, ◌&&◌}
use Rattle.std.specs.Prelude.{if◌then◌else◌, Option, Some, None, List, [], ◌∷◌, length, map, slice_get}
use Rattle.std.specs.Option.{is_some}
use Rattle.mltl_base.specs.declared.interval.Interval.{Interval}
use Rattle.mltl_base.specs.Atoms.{Row, holds}
use Rattle.mltl_base.specs.Formula.{Formula, truth, falsity, atom, negation, conjunction, disjunction, implication}
use Rattle.mltl_base.specs.Formula.{equivalence, finally, globally, until, release, once, historically, since}
use Rattle.mltl_base.specs.Kleene.{every_below, k_not, k_and, k_or, k_implies, k_some_below, k_every_below, k_some_in}
use Rattle.mltl_base.specs.Kleene.{k_every_in}
use Rattle.mltl_base.specs.Meaning.{within}

-- the value at each time, or `None` if it is unknown
abbrev pub Known : Type 0
Known = ℕ → Option Bool

-- the known value of a negation at time t, over the known values of its operand
abbrev pub k_negation : Known → Known
k_negation p t = k_not (p t)

-- the known value of a conjunction, over the known values of its two operands
abbrev pub k_conjunction : Known → Known → Known
k_conjunction p q t = k_and (p t) (q t)

-- the known value of a disjunction
abbrev pub k_disjunction : Known → Known → Known
k_disjunction p q t = k_or (p t) (q t)

-- the known value of an implication
abbrev pub k_implication : Known → Known → Known
k_implication p q t = k_implies (p t) (q t)

-- the known value of an equivalence: both implications
abbrev pub k_equivalence : Known → Known → Known
k_equivalence p q t = k_and (k_implies (p t) (q t)) (k_implies (q t) (p t))

-- the known value of finally: its operand at some time of the window
abbrev pub k_finally : Interval → Known → Known
k_finally i p t = k_some_in i.lo (suc i.hi) (λ k. p (t + k))

-- the known value of globally: its operand at every time of the window
abbrev pub k_globally : Interval → Known → Known
k_globally i p t = k_every_in i.lo (suc i.hi) (λ k. p (t + k))

-- the known value of until: the right operand at some time of the window, and the left one from its lower end up to then
abbrev pub k_until : Interval → Known → Known → Known
k_until i p q t = k_some_in i.lo (suc i.hi) (λ k. k_and (q (t + k)) (k_every_in i.lo k (λ j. p (t + j))))

-- the known value of release: the negation of until over the negations
abbrev pub k_release : Interval → Known → Known → Known
k_release i p q t = k_not (k_until i (k_negation p) (k_negation q) t)

-- the known value of once: its operand at some time back in the window
abbrev pub k_once : Interval → Known → Known
k_once i p t = k_some_below (suc t) (λ m. k_and (Some (within i (t - m))) (p m))

-- the known value of historically: its operand at every time back in the window
abbrev pub k_historically : Interval → Known → Known
k_historically i p t = k_every_below (suc t) (λ m. k_or (Some (not (within i (t - m)))) (p m))

-- the known value of since: the right operand at some time back in the window, and the left one after it up to now
abbrev pub k_since : Interval → Known → Known → Known
k_since i p q t =
    k_some_below (suc t) (λ m. k_and (Some (within i (t - m))) (k_and (q m) (k_every_in (suc m) (suc t) p)))

-- the list with a value before it; without a value, the empty list
abbrev pub followed : {X : Type 0} → Option X → List X → List X
followed None vs = []
followed (Some v) vs = v ∷ vs

-- the longest list of values of k, from time 0 on and at most n of them, that are all known
unfoldable pub known_front : {X : Type 0} → (ℕ → Option X) → ℕ → List X
known_front k zero = []
known_front k (suc n) = followed (k 0) (known_front (λ t. k (suc t)) n)

-- the strong Kleene value of a formula at each time: its operator applied to what `seen` shows of the values of its
-- operands; true, false and atoms are known at the times of the rows
unfoldable pub kleene_over : (Known → Known) → List Row → Formula → Known
kleene_over seen rows truth = slice_get (map (λ r. true) rows)
kleene_over seen rows falsity = slice_get (map (λ r. false) rows)
kleene_over seen rows (atom a) = slice_get (map (holds a) rows)
kleene_over seen rows (negation p) = k_negation (seen (kleene_over seen rows p))
kleene_over seen rows (conjunction p q) =
    k_conjunction (seen (kleene_over seen rows p)) (seen (kleene_over seen rows q))
kleene_over seen rows (disjunction p q) =
    k_disjunction (seen (kleene_over seen rows p)) (seen (kleene_over seen rows q))
kleene_over seen rows (implication p q) =
    k_implication (seen (kleene_over seen rows p)) (seen (kleene_over seen rows q))
kleene_over seen rows (equivalence p q) =
    k_equivalence (seen (kleene_over seen rows p)) (seen (kleene_over seen rows q))
kleene_over seen rows (finally i p) = k_finally i (seen (kleene_over seen rows p))
kleene_over seen rows (globally i p) = k_globally i (seen (kleene_over seen rows p))
kleene_over seen rows (until i p q) = k_until i (seen (kleene_over seen rows p)) (seen (kleene_over seen rows q))
kleene_over seen rows (release i p q) = k_release i (seen (kleene_over seen rows p)) (seen (kleene_over seen rows q))
kleene_over seen rows (once i p) = k_once i (seen (kleene_over seen rows p))
kleene_over seen rows (historically i p) = k_historically i (seen (kleene_over seen rows p))
kleene_over seen rows (since i p q) = k_since i (seen (kleene_over seen rows p)) (seen (kleene_over seen rows q))

-- the values of k that the longest known list holds: a place past its end is unknown
abbrev pub listed_by : ℕ → Known → Known
listed_by n k = slice_get (known_front k n)

-- the strong Kleene value of a formula at each time, over the known verdicts of its operands
abbrev pub kleene : List Row → Formula → Known
kleene rows p = kleene_over (listed_by (length rows)) rows p

-- the verdicts that are known after the rows: the longest known list of values of the formula, at most one a row
unfoldable pub verdicts : List Row → Formula → List Bool
verdicts rows p = known_front (kleene rows p) (length rows)

-- the value of k at t, if t is below n and the values at t and at all earlier times are known
abbrev pub without_gap : ℕ → Known → Known
without_gap n k t = if nat_lt t n && every_below (suc t) (λ s. is_some (k s)) then k t else None

-- the known verdicts by time, defined without lists
abbrev pub known_by_time : List Row → Formula → Known
known_by_time rows p = without_gap (length rows) (kleene_over (without_gap (length rows)) rows p)

-- the list holds the values of k from time 0 on, as far as they are known, and at most n of them
pub record IsLongestKnown {X : Type 0} (k : ℕ → Option X) (n : ℕ) (vs : List X) : Type 0 where
  pub fits : length vs ≤ n
  pub values : (t : ℕ) → t < length vs → k t ≡ slice_get vs t
  pub longest : length vs < n → k (length vs) ≡ None
