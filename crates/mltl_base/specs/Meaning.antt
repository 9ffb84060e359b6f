-- The meaning of formulas on a list of rows: Li, Vardi and Rozier (2019) for the future operators, on traces long enough to
-- decide them.
-- A reader of the contracts needs this file.

use Rattle.std.specs.Prelude.{ℕ, suc, ◌+◌, ◌-◌, Bool, true, false, not, ◌&&◌, ◌||◌, nat_le, List, [], slice_index_or}
use Rattle.std.specs.Prelude.{count_by}
use Rattle.mltl_base.specs.declared.interval.Interval.{Interval}
use Rattle.mltl_base.specs.Atoms.{Row, holds}
use Rattle.mltl_base.specs.Formula.{Formula, truth, falsity, atom, negation, conjunction, disjunction, implication}
use Rattle.mltl_base.specs.Formula.{equivalence, finally, globally, until, release, once, historically, since}
use Rattle.mltl_base.specs.Kleene.{some_below, every_below, some_in, every_in}

-- a number of rows lies in the interval
abbrev pub within : Interval → ℕ → Bool
within i d = nat_le i.lo d && nat_le d i.hi

-- p until q at time t, for truths p and q by time: q at some time of the window, and p from the lower end of the
-- window up to then
abbrev pub until_at : Interval → (ℕ → Bool) → (ℕ → Bool) → ℕ → Bool
until_at i p q t = some_in i.lo (suc i.hi) (λ k. q (t + k) && every_in i.lo k (λ j. p (t + j)))

-- p since q at time t, for truths p and q by time: q at some time back in the window, and p after it up to now
abbrev pub since_at : Interval → (ℕ → Bool) → (ℕ → Bool) → ℕ → Bool
since_at i p q t = some_below (suc t) (λ m. within i (t - m) && (q m && every_in (suc m) (suc t) p))

-- the formula holds on the rows at time t; every row after the last one is empty
unfoldable pub sat : List Row → Formula → ℕ → Bool
sat rows truth t = true
sat rows falsity t = false
sat rows (atom a) t = holds a (slice_index_or rows t [])
sat rows (negation p) t = not (sat rows p t)
sat rows (conjunction p q) t = sat rows p t && sat rows q t
sat rows (disjunction p q) t = sat rows p t || sat rows q t
sat rows (implication p q) t = not (sat rows p t) || sat rows q t
sat rows (equivalence p q) t = (not (sat rows p t) || sat rows q t) && (not (sat rows q t) || sat rows p t)
sat rows (finally i p) t = some_in i.lo (suc i.hi) (λ k. sat rows p (t + k))
sat rows (globally i p) t = every_in i.lo (suc i.hi) (λ k. sat rows p (t + k))
sat rows (until i p q) t = until_at i (sat rows p) (sat rows q) t
sat rows (release i p q) t = not (until_at i (λ s. not (sat rows p s)) (λ s. not (sat rows q s)) t)
sat rows (once i p) t = some_below (suc t) (λ m. within i (t - m) && sat rows p m)
sat rows (historically i p) t = every_below (suc t) (λ m. not (within i (t - m)) || sat rows p m)
sat rows (since i p q) t = since_at i (sat rows p) (sat rows q) t

-- the number of the formulas that hold at time t, which a counting quantifier compares
abbrev pub count : List Row → List Formula → ℕ → ℕ
count rows bodies t = count_by (λ p. sat rows p t) bodies
