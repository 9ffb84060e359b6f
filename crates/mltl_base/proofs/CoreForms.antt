-- Core forms are reduced, and the core form of a reduced core formula is that formula itself.

use Rattle.std.proofs.Common.{◌≡◌, List, length, ◌-◌, ◌≤◌, refl, ap, ap₂, ◌∙◌, subst}
use Rattle.mltl_base.specs.Atoms.{Row, Atom, is_true, equal, less, at_most, different, greater, at_least}
use Rattle.mltl_base.specs.Formula.{Formula, truth, falsity, atom, negation, conjunction, disjunction, implication, equivalence, finally, globally, until, release, once, historically, since, Core, ctrue, catom, cnot, cand, cuntil, csince, plain, neg, core, core_atom, bpd, IsCoreAtom, IsNoNegation, IsReduced}
use Rattle.mltl_base.specs.Settled.{IsOrdered}
use Rattle.mltl_base.specs.Verdicts.{verdicts}
use Rattle.mltl_base.proofs.Bounds.{frontier_at_most}
use Rattle.mltl_base.proofs.CoreVerdicts.{core_verdicts}
use Rattle.mltl_base.proofs.Tenses.{core_ordered}

neg_reduced : (p : Core) → IsReduced p → IsReduced (neg p)
unfolding neg IsReduced
neg_reduced (cnot p) h = h.1
neg_reduced _ h = (tt, h)

atom_reduced : (a : Atom) → IsReduced (core_atom a)
unfolding IsReduced
atom_reduced (different a b) = (tt, tt)
atom_reduced _ = tt

pub core_reduced : (p : Formula) → IsReduced (core p)
unfolding core IsReduced
core_reduced truth = tt
core_reduced falsity = (tt, tt)
core_reduced (atom a) = atom_reduced a
core_reduced (negation p) = neg_reduced (core p) (core_reduced p)
core_reduced (conjunction p q) = (core_reduced p, core_reduced q)
core_reduced (disjunction p q) =
    neg_reduced (cand (neg (core p)) (neg (core q))) (neg_reduced (core p) (core_reduced p), neg_reduced (core q) (core_reduced q))
core_reduced (implication p q) = neg_reduced (cand (core p) (neg (core q))) (core_reduced p, neg_reduced (core q) (core_reduced q))
core_reduced (equivalence p q) = (
  neg_reduced (cand (core p) (neg (core q))) (core_reduced p, neg_reduced (core q) (core_reduced q)),
  neg_reduced (cand (core q) (neg (core p))) (core_reduced q, neg_reduced (core p) (core_reduced p)),
)
core_reduced (finally i p) = (tt, core_reduced p)
core_reduced (globally i p) = neg_reduced (cuntil i ctrue (neg (core p))) (tt, neg_reduced (core p) (core_reduced p))
core_reduced (until i p q) = (core_reduced p, core_reduced q)
core_reduced (release i p q) =
    neg_reduced (cuntil i (neg (core p)) (neg (core q))) (neg_reduced (core p) (core_reduced p), neg_reduced (core q) (core_reduced q))
core_reduced (once i p) = (tt, core_reduced p)
core_reduced (historically i p) = neg_reduced (csince i ctrue (neg (core p))) (tt, neg_reduced (core p) (core_reduced p))
core_reduced (since i p q) = (core_reduced p, core_reduced q)

neg_of_other : (p : Core) → IsNoNegation p → neg p ≡ cnot p
unfolding neg
neg_of_other (cnot p) h = absurd h
neg_of_other _ h = refl

same_atom_form : (a : Atom) → IsCoreAtom a → core_atom a ≡ catom a
same_atom_form (different a b) h = absurd h
same_atom_form (greater a b) h = absurd h
same_atom_form (at_least a b) h = absurd h
same_atom_form _ h = refl

pub core_stays : (p : Core) → IsReduced p → core (plain p) ≡ p
unfolding core plain IsReduced
core_stays ctrue h = refl
core_stays (catom a) h = same_atom_form a h
core_stays (cnot p) h = ap neg (core_stays p h.1) ∙ neg_of_other p h.0
core_stays (cand p q) h = ap₂ cand (core_stays p h.0) (core_stays q h.1)
core_stays (cuntil i p q) h = ap₂ (cuntil i) (core_stays p h.0) (core_stays q h.1)
core_stays (csince i p q) h = ap₂ (csince i) (core_stays p h.0) (core_stays q h.1)

-- the core form of a core form is that core form
pub core_again : (p : Formula) → core (plain (core p)) ≡ core p
core_again p = core_stays (core p) (core_reduced p)

-- no verdict of a formula comes before the best delay of its core form
pub formula_at_most : (rows : List Row) (p : Formula) → IsOrdered p → length (verdicts rows p) ≤ length rows - bpd (core p)
formula_at_most rows p o =
    subst (λ (vs : List Rattle.std.proofs.Common.Bool). length vs ≤ length rows - bpd (core p)) (core_verdicts rows p)
    (frontier_at_most rows (core p) (core_ordered p o))
