-- Core formulas keep the tense and the order of intervals of their formulas, and have the comparisons of instructions.

use Rattle.std.specs.Prelude.{⊤}
use Rattle.mltl_base.specs.Atoms.{Atom, is_true, equal, less, at_most, different, greater, at_least}
use Rattle.mltl_base.specs.Formula.{Formula, truth, falsity, atom, negation, conjunction, disjunction, implication, equivalence, finally, globally, until, release, once, historically, since, Core, ctrue, catom, cnot, cand, cuntil, csince, plain, neg, core, core_atom, IsCoreAtom}
use Rattle.mltl_base.specs.Settled.{IsFuture, IsPast, IsOrdered}
use Rattle.mltl_base.proofs.Unfolding.{Deep}
use Rattle.mltl_base.proofs.Booleans.{HasCoreAtom}

abbrev pub NotSince : Core → Type 0
NotSince (csince i p q) = ⊥
NotSince _ = ⊤

abbrev pub NotUntil : Core → Type 0
NotUntil (cuntil i p q) = ⊥
NotUntil _ = ⊤

neg_deep : (H : Core → Type 0) (p : Core) → ((q : Core) → H (cnot q)) → Deep H p → Deep H (neg p)
unfolding neg
neg_deep H ctrue f h = (f ctrue, h)
neg_deep H (catom a) f h = (f (catom a), h)
neg_deep H (cnot p) f h = h.1
neg_deep H (cand p q) f h = (f (cand p q), h)
neg_deep H (cuntil i p q) f h = (f (cuntil i p q), h)
neg_deep H (csince i p q) f h = (f (csince i p q), h)

atom_deep : (H : Core → Type 0) (a : Atom) → ((q : Core) → H (cnot q)) → ((b : Atom) → IsCoreAtom b → H (catom b)) → Deep H (core_atom a)
atom_deep H (is_true c) f g = g (is_true c) tt
atom_deep H (equal a b) f g = g (equal a b) tt
atom_deep H (less a b) f g = g (less a b) tt
atom_deep H (at_most a b) f g = g (at_most a b) tt
atom_deep H (different a b) f g = (f (catom (equal a b)), g (equal a b) tt)
atom_deep H (greater a b) f g = g (less b a) tt
atom_deep H (at_least a b) f g = g (at_most b a) tt

pub core_atoms : (p : Formula) → Deep HasCoreAtom (core p)
unfolding core
core_atoms truth = tt
core_atoms falsity = (tt, tt)
core_atoms (atom a) = atom_deep HasCoreAtom a (λ q. tt) (λ b h. h)
core_atoms (negation p) = neg_deep HasCoreAtom (core p) (λ q. tt) (core_atoms p)
core_atoms (conjunction p q) = (tt, core_atoms p, core_atoms q)
core_atoms (disjunction p q) =
    neg_deep HasCoreAtom (cand (neg (core p)) (neg (core q))) (λ q. tt) (tt, neg_deep HasCoreAtom (core p) (λ q. tt) (core_atoms p), neg_deep HasCoreAtom (core q) (λ q. tt) (core_atoms q))
core_atoms (implication p q) = neg_deep HasCoreAtom (cand (core p) (neg (core q))) (λ q. tt) (tt, core_atoms p, neg_deep HasCoreAtom (core q) (λ q. tt) (core_atoms q))
core_atoms (equivalence p q) = (
  tt,
  neg_deep HasCoreAtom (cand (core p) (neg (core q))) (λ q. tt) (tt, core_atoms p, neg_deep HasCoreAtom (core q) (λ q. tt) (core_atoms q)),
  neg_deep HasCoreAtom (cand (core q) (neg (core p))) (λ q. tt) (tt, core_atoms q, neg_deep HasCoreAtom (core p) (λ q. tt) (core_atoms p)),
)
core_atoms (finally i p) = (tt, tt, core_atoms p)
core_atoms (globally i p) = neg_deep HasCoreAtom (cuntil i ctrue (neg (core p))) (λ q. tt) (tt, tt, neg_deep HasCoreAtom (core p) (λ q. tt) (core_atoms p))
core_atoms (until i p q) = (tt, core_atoms p, core_atoms q)
core_atoms (release i p q) =
    neg_deep HasCoreAtom (cuntil i (neg (core p)) (neg (core q))) (λ q. tt) (tt, neg_deep HasCoreAtom (core p) (λ q. tt) (core_atoms p), neg_deep HasCoreAtom (core q) (λ q. tt) (core_atoms q))
core_atoms (once i p) = (tt, tt, core_atoms p)
core_atoms (historically i p) = neg_deep HasCoreAtom (csince i ctrue (neg (core p))) (λ q. tt) (tt, tt, neg_deep HasCoreAtom (core p) (λ q. tt) (core_atoms p))
core_atoms (since i p q) = (tt, core_atoms p, core_atoms q)

pub core_future : (p : Formula) → IsFuture p → Deep NotSince (core p)
unfolding core
core_future truth o = tt
core_future falsity o = (tt, tt)
core_future (atom a) o = atom_deep NotSince a (λ q. tt) (λ b h. tt)
core_future (negation p) o = neg_deep NotSince (core p) (λ q. tt) (core_future p o)
core_future (conjunction p q) o = (tt, core_future p o.0, core_future q o.1)
core_future (disjunction p q) o =
    neg_deep NotSince (cand (neg (core p)) (neg (core q))) (λ q. tt) (tt, neg_deep NotSince (core p) (λ q. tt) (core_future p o.0), neg_deep NotSince (core q) (λ q. tt) (core_future q o.1))
core_future (implication p q) o = neg_deep NotSince (cand (core p) (neg (core q))) (λ q. tt) (tt, core_future p o.0, neg_deep NotSince (core q) (λ q. tt) (core_future q o.1))
core_future (equivalence p q) o = (
  tt,
  neg_deep NotSince (cand (core p) (neg (core q))) (λ q. tt) (tt, core_future p o.0, neg_deep NotSince (core q) (λ q. tt) (core_future q o.1)),
  neg_deep NotSince (cand (core q) (neg (core p))) (λ q. tt) (tt, core_future q o.1, neg_deep NotSince (core p) (λ q. tt) (core_future p o.0)),
)
core_future (finally i p) o = (tt, tt, core_future p o)
core_future (globally i p) o = neg_deep NotSince (cuntil i ctrue (neg (core p))) (λ q. tt) (tt, tt, neg_deep NotSince (core p) (λ q. tt) (core_future p o))
core_future (until i p q) o = (tt, core_future p o.0, core_future q o.1)
core_future (release i p q) o =
    neg_deep NotSince (cuntil i (neg (core p)) (neg (core q))) (λ q. tt) (tt, neg_deep NotSince (core p) (λ q. tt) (core_future p o.0), neg_deep NotSince (core q) (λ q. tt) (core_future q o.1))
core_future (once i p) o = absurd o
core_future (historically i p) o = absurd o
core_future (since i p q) o = absurd o

pub core_past : (p : Formula) → IsPast p → Deep NotUntil (core p)
unfolding core
core_past truth o = tt
core_past falsity o = (tt, tt)
core_past (atom a) o = atom_deep NotUntil a (λ q. tt) (λ b h. tt)
core_past (negation p) o = neg_deep NotUntil (core p) (λ q. tt) (core_past p o)
core_past (conjunction p q) o = (tt, core_past p o.0, core_past q o.1)
core_past (disjunction p q) o =
    neg_deep NotUntil (cand (neg (core p)) (neg (core q))) (λ q. tt) (tt, neg_deep NotUntil (core p) (λ q. tt) (core_past p o.0), neg_deep NotUntil (core q) (λ q. tt) (core_past q o.1))
core_past (implication p q) o = neg_deep NotUntil (cand (core p) (neg (core q))) (λ q. tt) (tt, core_past p o.0, neg_deep NotUntil (core q) (λ q. tt) (core_past q o.1))
core_past (equivalence p q) o = (
  tt,
  neg_deep NotUntil (cand (core p) (neg (core q))) (λ q. tt) (tt, core_past p o.0, neg_deep NotUntil (core q) (λ q. tt) (core_past q o.1)),
  neg_deep NotUntil (cand (core q) (neg (core p))) (λ q. tt) (tt, core_past q o.1, neg_deep NotUntil (core p) (λ q. tt) (core_past p o.0)),
)
core_past (once i p) o = (tt, tt, core_past p o)
core_past (historically i p) o = neg_deep NotUntil (csince i ctrue (neg (core p))) (λ q. tt) (tt, tt, neg_deep NotUntil (core p) (λ q. tt) (core_past p o))
core_past (since i p q) o = (tt, core_past p o.0, core_past q o.1)
core_past _ o = absurd o

-- a core formula without the other tense is of its tense as a formula too
plain_future : (p : Core) → Deep NotSince p → IsFuture (plain p)
unfolding plain
plain_future ctrue h = tt
plain_future (catom a) h = tt
plain_future (cnot p) h = plain_future p h.1
plain_future (cand p q) h = (plain_future p h.1, plain_future q h.2)
plain_future (cuntil i p q) h = (plain_future p h.1, plain_future q h.2)
plain_future (csince i p q) h = absurd h.0

plain_past : (p : Core) → Deep NotUntil p → IsPast (plain p)
unfolding plain
plain_past ctrue h = tt
plain_past (catom a) h = tt
plain_past (cnot p) h = plain_past p h.1
plain_past (cand p q) h = (plain_past p h.1, plain_past q h.2)
plain_past (cuntil i p q) h = absurd h.0
plain_past (csince i p q) h = (plain_past p h.1, plain_past q h.2)

pub core_stays_future : (p : Formula) → IsFuture p → IsFuture (plain (core p))
core_stays_future p o = plain_future (core p) (core_future p o)

pub core_stays_past : (p : Formula) → IsPast p → IsPast (plain (core p))
core_stays_past p o = plain_past (core p) (core_past p o)

-- intervals stay ordered
neg_ordered : (p : Core) → IsOrdered (plain p) → IsOrdered (plain (neg p))
unfolding plain neg
neg_ordered ctrue h = h
neg_ordered _ h = h

atom_ordered : (a : Atom) → IsOrdered (plain (core_atom a))
unfolding plain
atom_ordered (is_true c) = tt
atom_ordered _ = tt

pub core_ordered : (p : Formula) → IsOrdered p → IsOrdered (plain (core p))
unfolding plain core
core_ordered truth o = tt
core_ordered falsity o = tt
core_ordered (atom a) o = atom_ordered a
core_ordered (negation p) o = neg_ordered (core p) (core_ordered p o)
core_ordered (conjunction p q) o = (core_ordered p o.0, core_ordered q o.1)
core_ordered (disjunction p q) o =
    neg_ordered (cand (neg (core p)) (neg (core q))) (neg_ordered (core p) (core_ordered p o.0), neg_ordered (core q) (core_ordered q o.1))
core_ordered (implication p q) o = neg_ordered (cand (core p) (neg (core q))) (core_ordered p o.0, neg_ordered (core q) (core_ordered q o.1))
core_ordered (equivalence p q) o = (
  neg_ordered (cand (core p) (neg (core q))) (core_ordered p o.0, neg_ordered (core q) (core_ordered q o.1)),
  neg_ordered (cand (core q) (neg (core p))) (core_ordered q o.1, neg_ordered (core p) (core_ordered p o.0)),
)
core_ordered (finally i p) o = (o.0, (tt, core_ordered p o.1))
core_ordered (globally i p) o = neg_ordered (cuntil i ctrue (neg (core p))) (o.0, (tt, neg_ordered (core p) (core_ordered p o.1)))
core_ordered (until i p q) o = (o.0, (core_ordered p o.1.0, core_ordered q o.1.1))
core_ordered (release i p q) o =
    neg_ordered (cuntil i (neg (core p)) (neg (core q))) (o.0, (neg_ordered (core p) (core_ordered p o.1.0), neg_ordered (core q) (core_ordered q o.1.1)))
core_ordered (once i p) o = (o.0, (tt, core_ordered p o.1))
core_ordered (historically i p) o = neg_ordered (csince i ctrue (neg (core p))) (o.0, (tt, neg_ordered (core p) (core_ordered p o.1)))
core_ordered (since i p q) o = (o.0, (core_ordered p o.1.0, core_ordered q o.1.1))
