-- How far the known verdicts of a core formula reach, and that those of the past are known at all times.

use Rattle.std.proofs.Common.{◌≡◌, ℕ, suc, ◌+◌, ◌-◌, ◌<◌, ◌≤◌, min, Bool, Option, Some, None, List, length, slice_get, refl, le_trans, arith}
use Rattle.std.proofs.lemmas.Option.{slice_get_past, slice_get_within}
use Rattle.mltl_base.specs.declared.interval.Interval.{Interval}
use Rattle.mltl_base.specs.Atoms.{Row}
use Rattle.mltl_base.specs.Formula.{Formula, truth, falsity, atom, negation, conjunction, disjunction, implication, equivalence, finally, globally, until, release, once, historically, since, wpd, Core, ctrue, catom, cnot, cand, cuntil, csince, plain, bpd}
use Rattle.mltl_base.specs.Kleene.{k_not, k_and, k_every_in}
use Rattle.mltl_base.specs.Meaning.{sat}
use Rattle.mltl_base.specs.Verdicts.{Known, k_until, kleene_over, kleene, verdicts}
use Rattle.mltl_base.specs.Settled.{IsOrdered, IsPast}
use Rattle.mltl_base.proofs.Order.{unknown_some, unknown_and, not_false_every}
use Rattle.mltl_base.proofs.Fronts.{front_fits, front_ends}
use Rattle.mltl_base.proofs.Settling.{verdict_known, verdicts_in_time}

unknown_past : (vs : List Bool) (n t : ℕ) → length vs ≤ n → n ≤ t → slice_get vs t ≡ None
unknown_past vs n t h l = slice_get_past vs t (omega arith)

-- the disjunct of an until at k is unknown, where both operands are unknown from the window on
unknown_part : (i : Interval) (p q : Known) (t k : ℕ) → ((s : ℕ) → t + i.lo ≤ s → p s ≡ None) → ((s : ℕ) → t + i.lo ≤ s → q s ≡ None) → k_and (q (t + (i.lo + k))) (k_every_in i.lo (i.lo + k) (λ j. p (t + j))) ≡ None
unknown_part i p q t k f g =
    rw (g (t + (i.lo + k)) (omega arith))
    (unknown_and (k_every_in i.lo (i.lo + k) (λ j. p (t + j)))
    (not_false_every (i.lo + k - i.lo) (λ j. p (t + (i.lo + j))) (λ j l. f (t + (i.lo + j)) (omega arith))))

unknown_window : (n lo hi : ℕ) (f : ℕ → Option Bool) → suc hi - lo ≡ suc n → ((k : ℕ) → f k ≡ None) → Rattle.mltl_base.specs.Kleene.k_some_below (suc hi - lo) f ≡ None
unknown_window n lo hi f e h = rw e (unknown_some n f (λ k l. h k))

pub unknown_until : (i : Interval) (p q : Known) (t : ℕ) → i.lo ≤ i.hi → ((s : ℕ) → t + i.lo ≤ s → p s ≡ None) → ((s : ℕ) → t + i.lo ≤ s → q s ≡ None) → k_until i p q t ≡ None
unknown_until i p q t o f g =
    unknown_window (i.hi - i.lo) i.lo i.hi (λ k. k_and (q (t + (i.lo + k))) (k_every_in i.lo (i.lo + k) (λ j. p (t + j)))) (omega arith) (λ k. unknown_part i p q t k f g)

pub unknown_not : (x : Option Bool) → x ≡ None → k_not x ≡ None
unfolding k_not
unknown_not x e = rw e refl

pub unknown_both : (x y : Option Bool) → x ≡ None → y ≡ None → k_and x y ≡ None
unfolding k_and
unknown_both x y e f = rw (e, f) refl

pub frontier_at_most : (rows : List Row) (p : Core) → IsOrdered (plain p) → length (verdicts rows (plain p)) ≤ length rows - bpd p
unfolding verdicts kleene_over plain bpd
frontier_at_most rows ctrue o = le_trans (front_fits _ (length rows)) (omega arith)
frontier_at_most rows (catom a) o = le_trans (front_fits _ (length rows)) (omega arith)
frontier_at_most rows (cnot p) o =
    front_ends _ _ _ (unknown_not _ (unknown_past (verdicts rows (plain p)) _ (length rows - bpd p) (frontier_at_most rows p o) (omega arith)))
frontier_at_most rows (cand p q) o =
    front_ends _ _ _ (unknown_both _ _
    (unknown_past (verdicts rows (plain p)) _ (length rows - min (bpd p) (bpd q)) (frontier_at_most rows p o.0) (omega arith))
    (unknown_past (verdicts rows (plain q)) _ (length rows - min (bpd p) (bpd q)) (frontier_at_most rows q o.1) (omega arith)))
frontier_at_most rows (cuntil i p q) o =
    front_ends _ _ _ (unknown_until i _ _ _ o.0
    (λ s l. unknown_past (verdicts rows (plain p)) _ s (frontier_at_most rows p o.1.0) (omega arith))
    (λ s l. unknown_past (verdicts rows (plain q)) _ s (frontier_at_most rows q o.1.1) (omega arith)))
frontier_at_most rows (csince i p q) o = le_trans (front_fits _ (length rows)) (omega arith)

-- no verdict is ahead of the rows
pub verdicts_fit : (rows : List Row) (p : Formula) → length (verdicts rows p) ≤ length rows
unfolding verdicts
verdicts_fit rows p = front_fits (kleene rows p) (length rows)

pub frontier_at_least : (rows : List Row) (p : Formula) → length rows - wpd p ≤ length (verdicts rows p)
frontier_at_least rows p = let h = verdicts_in_time rows p in omega arith

pub past_at_once : (p : Formula) → IsPast p → wpd p ≡ 0
unfolding wpd
past_at_once truth o = refl
past_at_once falsity o = refl
past_at_once (atom a) o = refl
past_at_once (negation p) o = past_at_once p o
past_at_once (conjunction p q) o = rw (past_at_once p o.0, past_at_once q o.1) refl
past_at_once (disjunction p q) o = rw (past_at_once p o.0, past_at_once q o.1) refl
past_at_once (implication p q) o = rw (past_at_once p o.0, past_at_once q o.1) refl
past_at_once (equivalence p q) o = rw (past_at_once p o.0, past_at_once q o.1) refl
past_at_once (once i p) o = past_at_once p o
past_at_once (historically i p) o = past_at_once p o
past_at_once (since i p q) o = rw (past_at_once p o.0, past_at_once q o.1) refl
past_at_once _ o = absurd o

pub past_known : (rows : List Row) (p : Formula) → IsPast p → (t : ℕ) → t < length rows → slice_get (verdicts rows p) t ≡ Some (sat rows p t)
past_known rows p o t l = let e : wpd p ≡ 0 = past_at_once p o in verdict_known rows p t (omega arith)

pub past_all : (rows : List Row) (p : Formula) → IsPast p → length (verdicts rows p) ≡ length rows
past_all rows p o =
    let e : wpd p ≡ 0 = past_at_once p o in
    let h = verdicts_in_time rows p in
    let g = verdicts_fit rows p in
    omega arith

pub verdict_within : (rows : List Row) (p : Formula) (t : ℕ) (v : Bool) → slice_get (verdicts rows p) t ≡ Some v → t < length rows
verdict_within rows p t v e =
    let l : t < length (verdicts rows p) = slice_get_within (verdicts rows p) t v e in
    let h : length (verdicts rows p) ≤ length rows = verdicts_fit rows p in
    omega arith
