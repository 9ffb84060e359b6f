-- What the atoms and the intervals of a formula have, those of its core form have.

use Rattle.std.specs.Prelude.{⊤}
use Rattle.std.proofs.Common.{List, [], ◌∷◌}
use Rattle.mltl_base.specs.declared.interval.Interval.{Interval}
use Rattle.mltl_base.specs.Atoms.{Atom}
use Rattle.mltl_base.specs.Formula.{Formula, truth, falsity, atom, negation, conjunction, disjunction, implication, equivalence, finally, globally, until, release, once, historically, since, Core, ctrue, catom, cnot, cand, cuntil, csince, neg, core, core_atom}
use Rattle.mltl_base.proofs.Unfolding.{Deep, Each}

-- A holds of all atoms of a formula, and B of all its intervals
abbrev pub Throughout : (Atom → Type 0) → (Interval → Type 0) → Formula → Type 0
Throughout A B truth = ⊤
Throughout A B falsity = ⊤
Throughout A B (atom a) = A a
Throughout A B (negation p) = Throughout A B p
Throughout A B (conjunction p q) = Throughout A B p × Throughout A B q
Throughout A B (disjunction p q) = Throughout A B p × Throughout A B q
Throughout A B (implication p q) = Throughout A B p × Throughout A B q
Throughout A B (equivalence p q) = Throughout A B p × Throughout A B q
Throughout A B (finally i p) = B i × Throughout A B p
Throughout A B (globally i p) = B i × Throughout A B p
Throughout A B (until i p q) = B i × Throughout A B p × Throughout A B q
Throughout A B (release i p q) = B i × Throughout A B p × Throughout A B q
Throughout A B (once i p) = B i × Throughout A B p
Throughout A B (historically i p) = B i × Throughout A B p
Throughout A B (since i p q) = B i × Throughout A B p × Throughout A B q

-- the same at the head of a core formula
abbrev pub AtHead : (Atom → Type 0) → (Interval → Type 0) → Core → Type 0
AtHead A B (catom a) = A a
AtHead A B (cuntil i p q) = B i
AtHead A B (csince i p q) = B i
AtHead A B _ = ⊤

module _ (A : Atom → Type 0) (B : Interval → Type 0) where
  neg_deep : (p : Core) → Deep (AtHead A B) p → Deep (AtHead A B) (neg p)
  unfolding neg
  neg_deep (cnot p) h = h.1
  neg_deep _ h = (tt, h)

  -- where A holds of an atom's core form too
  pub core_deep : ((a : Atom) → A a → Deep (AtHead A B) (core_atom a)) → (p : Formula) → Throughout A B p → Deep (AtHead A B) (core p)
  unfolding core
  core_deep turn truth h = tt
  core_deep turn falsity h = (tt, tt)
  core_deep turn (atom a) h = turn a h
  core_deep turn (negation p) h = neg_deep (core p) (core_deep turn p h)
  core_deep turn (conjunction p q) h = (tt, core_deep turn p h.0, core_deep turn q h.1)
  core_deep turn (disjunction p q) h =
      neg_deep (cand (neg (core p)) (neg (core q))) (tt, neg_deep (core p) (core_deep turn p h.0), neg_deep (core q) (core_deep turn q h.1))
  core_deep turn (implication p q) h = neg_deep (cand (core p) (neg (core q))) (tt, core_deep turn p h.0, neg_deep (core q) (core_deep turn q h.1))
  core_deep turn (equivalence p q) h = (
    tt,
    neg_deep (cand (core p) (neg (core q))) (tt, core_deep turn p h.0, neg_deep (core q) (core_deep turn q h.1)),
    neg_deep (cand (core q) (neg (core p))) (tt, core_deep turn q h.1, neg_deep (core p) (core_deep turn p h.0)),
  )
  core_deep turn (finally i p) h = (h.0, tt, core_deep turn p h.1)
  core_deep turn (globally i p) h = neg_deep (cuntil i ctrue (neg (core p))) (h.0, tt, neg_deep (core p) (core_deep turn p h.1))
  core_deep turn (until i p q) h = (h.0, core_deep turn p h.1, core_deep turn q h.2)
  core_deep turn (release i p q) h =
      neg_deep (cuntil i (neg (core p)) (neg (core q))) (h.0, neg_deep (core p) (core_deep turn p h.1), neg_deep (core q) (core_deep turn q h.2))
  core_deep turn (once i p) h = (h.0, tt, core_deep turn p h.1)
  core_deep turn (historically i p) h = neg_deep (csince i ctrue (neg (core p))) (h.0, tt, neg_deep (core p) (core_deep turn p h.1))
  core_deep turn (since i p q) h = (h.0, core_deep turn p h.1, core_deep turn q h.2)

-- what follows at each subformula
pub deep_then : (H K : Core → Type 0) → ((p : Core) → H p → K p) → (p : Core) → Deep H p → Deep K p
deep_then H K f ctrue h = f ctrue h
deep_then H K f (catom a) h = f (catom a) h
deep_then H K f (cnot p) h = (f (cnot p) h.0, deep_then H K f p h.1)
deep_then H K f (cand p q) h = (f (cand p q) h.0, deep_then H K f p h.1, deep_then H K f q h.2)
deep_then H K f (cuntil i p q) h = (f (cuntil i p q) h.0, deep_then H K f p h.1, deep_then H K f q h.2)
deep_then H K f (csince i p q) h = (f (csince i p q) h.0, deep_then H K f p h.1, deep_then H K f q h.2)

pub each_then : {X : Type 0} (P Q : X → Type 0) → ((x : X) → P x → Q x) → (xs : List X) → Each P xs → Each Q xs
each_then P Q f [] h = tt
each_then P Q f (x ∷ xs) h = (f x h.0, each_then P Q f xs h.1)
