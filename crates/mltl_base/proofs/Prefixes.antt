-- The known verdicts of rows begin those of more rows.

use Rattle.std.proofs.Common.{◌≡◌, ℕ, suc, ◌+◌, ◌-◌, Bool, true, false, not, Some, List, ◌++◌, length, map, refl, arith, length-append}
use Rattle.std.proofs.lemmas.List.{map-append}
use Rattle.mltl_base.specs.declared.interval.Interval.{Interval}
use Rattle.mltl_base.specs.Atoms.{Row, holds}
use Rattle.mltl_base.specs.Formula.{Formula, truth, falsity, atom, negation, conjunction, disjunction, implication, equivalence, finally, globally, until, release, once, historically, since}
use Rattle.mltl_base.specs.Meaning.{within}
use Rattle.mltl_base.specs.Verdicts.{Known, k_until, k_since, known_front, kleene_over, verdicts}
use Rattle.mltl_base.specs.Settled.{IsPrefix}
use Rattle.mltl_base.proofs.Order.{Below, below_not, below_and, below_or, below_implies, below_some, below_every}
use Rattle.mltl_base.proofs.Fronts.{front_prefix, prefix_below}
use Rattle.mltl_base.proofs.Leaves.{truth_verdicts, falsity_verdicts, atom_verdicts}

-- what is known by k, is known by l
abbrev pub IsLess : Known → Known → Type 0
IsLess k l = (t : ℕ) → Below (k t) (l t)

-- each operator keeps that order
pub less_until : (i : Interval) (p q u v : Known) → IsLess p u → IsLess q v → IsLess (k_until i p q) (k_until i u v)
less_until i p q u v f g t =
    below_some (suc i.hi - i.lo) _ _ (λ k. below_and (q (t + (i.lo + k))) _ (v (t + (i.lo + k))) _ (g (t + (i.lo + k)))
    (below_every (i.lo + k - i.lo) _ _ (λ j. f (t + (i.lo + j)))))

pub less_since : (i : Interval) (p q u v : Known) → IsLess p u → IsLess q v → IsLess (k_since i p q) (k_since i u v)
less_since i p q u v f g t =
    below_some (suc t) _ _ (λ m. below_and (Some (within i (t - m))) _ (Some (within i (t - m))) _ refl
    (below_and (q m) _ (v m) _ (g m) (below_every (suc t - suc m) _ _ (λ j. f (suc m + j)))))

fronts : (rows more : List Row) (k l : Known) → IsLess k l → IsPrefix (known_front k (length rows)) (known_front l (length (rows ++ more)))
fronts rows more k l h = front_prefix k l (length rows) (length (rows ++ more)) h (omega (arith, length-append rows more))

mapped : (f : Row → Bool) (rows more : List Row) (us vs : List Bool) → us ≡ map f rows → vs ≡ map f (rows ++ more) → IsPrefix us vs
mapped f rows more us vs e g = rw (e, g) (map f more, map-append f rows more)

pub verdicts_begin : (rows more : List Row) (p : Formula) → IsPrefix (verdicts rows p) (verdicts (rows ++ more) p)
unfolding verdicts kleene_over
verdicts_begin rows more truth = mapped (λ r. true) rows more _ _ (truth_verdicts rows) (truth_verdicts (rows ++ more))
verdicts_begin rows more falsity = mapped (λ r. false) rows more _ _ (falsity_verdicts rows) (falsity_verdicts (rows ++ more))
verdicts_begin rows more (atom a) = mapped (holds a) rows more _ _ (atom_verdicts rows a) (atom_verdicts (rows ++ more) a)
verdicts_begin rows more (negation p) =
    fronts rows more _ _ (λ t. below_not _ _ (prefix_below _ _ t (verdicts_begin rows more p)))
verdicts_begin rows more (conjunction p q) =
    fronts rows more _ _ (λ t. below_and _ _ _ _ (prefix_below _ _ t (verdicts_begin rows more p)) (prefix_below _ _ t (verdicts_begin rows more q)))
verdicts_begin rows more (disjunction p q) =
    fronts rows more _ _ (λ t. below_or _ _ _ _ (prefix_below _ _ t (verdicts_begin rows more p)) (prefix_below _ _ t (verdicts_begin rows more q)))
verdicts_begin rows more (implication p q) =
    fronts rows more _ _ (λ t. below_implies _ _ _ _ (prefix_below _ _ t (verdicts_begin rows more p)) (prefix_below _ _ t (verdicts_begin rows more q)))
verdicts_begin rows more (equivalence p q) =
    fronts rows more _ _ (λ t. below_and _ _ _ _
    (below_implies _ _ _ _ (prefix_below _ _ t (verdicts_begin rows more p)) (prefix_below _ _ t (verdicts_begin rows more q)))
    (below_implies _ _ _ _ (prefix_below _ _ t (verdicts_begin rows more q)) (prefix_below _ _ t (verdicts_begin rows more p))))
verdicts_begin rows more (finally i p) =
    fronts rows more _ _ (λ t. below_some (suc i.hi - i.lo) _ _ (λ k. prefix_below _ _ (t + (i.lo + k)) (verdicts_begin rows more p)))
verdicts_begin rows more (globally i p) =
    fronts rows more _ _ (λ t. below_every (suc i.hi - i.lo) _ _ (λ k. prefix_below _ _ (t + (i.lo + k)) (verdicts_begin rows more p)))
verdicts_begin rows more (until i p q) =
    fronts rows more _ _ (less_until i _ _ _ _ (λ t. prefix_below _ _ t (verdicts_begin rows more p)) (λ t. prefix_below _ _ t (verdicts_begin rows more q)))
verdicts_begin rows more (release i p q) =
    fronts rows more _ _ (λ t. below_not _ _ (less_until i _ _ _ _
    (λ s. below_not _ _ (prefix_below _ _ s (verdicts_begin rows more p))) (λ s. below_not _ _ (prefix_below _ _ s (verdicts_begin rows more q))) t))
verdicts_begin rows more (once i p) =
    fronts rows more _ _ (λ t. below_some (suc t) _ _ (λ m. below_and (Some (within i (t - m))) _ (Some (within i (t - m))) _ refl (prefix_below _ _ m (verdicts_begin rows more p))))
verdicts_begin rows more (historically i p) =
    fronts rows more _ _ (λ t. below_every (suc t) _ _ (λ m. below_or (Some (not (within i (t - m)))) _ (Some (not (within i (t - m)))) _ refl (prefix_below _ _ m (verdicts_begin rows more p))))
verdicts_begin rows more (since i p q) =
    fronts rows more _ _ (less_since i _ _ _ _ (λ t. prefix_below _ _ t (verdicts_begin rows more p)) (λ t. prefix_below _ _ t (verdicts_begin rows more q)))
