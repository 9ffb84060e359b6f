-- Intervals of a simplified formula stay in bounds, and it has no operators of another tense and no other atoms.
use Rattle.std.proofs.Common.{◌+◌, ◌≤◌, Bool, true, false, Option, Some, None, [], ◌⊎◌, inl, inr, arith}
use Rattle.std.specs.Prelude.{if◌then◌else◌}
use Rattle.mltl_base.specs.Formula.{EachAtom, EachInterval, Formula, truth, falsity, atom, negation, conjunction, disjunction, implication, equivalence, finally, globally, until, release, once, historically, since}
use Rattle.mltl_base.specs.declared.interval.Interval.{Interval}
use Rattle.mltl_base.specs.declared.limits.TheConstants.{MAX_BOUND}
use Rattle.mltl_base.specs.Atoms.{Atom, holds}
use Rattle.mltl_base.specs.Settled.{IsFuture, IsOrdered, IsPast}
use Rattle.c2po_ast.specs.Nodes.{IsBounded}
use Rattle.mltl_simplify.specs.Forms.{AreBounded, HasAtom}
use Rattle.mltl_simplify.specs.Simplify.{both, either, equals, has_signal, implies, summed_interval, of_truth, simp, simple_and, simple_atom, simple_equals, simple_implies, simple_not, simple_or, as_truth, unless_false, unless_truth}
use Rattle.mltl_simplify.proofs.Cases.{finally_cases, globally_cases, historically_cases, not_cases, once_cases}

-- what truths have, and formulas that are joined without time
pub record IsPlain (P : Formula → Type 0) : Type 0 where
  pub true_has : P truth
  pub false_has : P falsity
  pub negation_has : (x : Formula) → P x → P (negation x)
  pub operand_has : (x : Formula) → P (negation x) → P x
  pub conjunction_has : (x y : Formula) → P x → P y → P (conjunction x y)
  pub disjunction_has : (x y : Formula) → P x → P y → P (disjunction x y)
  pub implication_has : (x y : Formula) → P x → P y → P (implication x y)
  pub equivalence_has : (x y : Formula) → P x → P y → P (equivalence x y)

pub truth_has : {P : Formula → Type 0} → IsPlain P → (v : Bool) → P (of_truth v)
truth_has own true = own.true_has
truth_has own false = own.false_has

pub atom_has : {P : Formula → Type 0} → IsPlain P → (a : Atom) → P (atom a) → P (simple_atom a)
atom_has {P} own a h = by_test (has_signal a)
  where
    by_test : (b : Bool) → P (if b then atom a else of_truth (holds a []))
    by_test true = h
    by_test false = truth_has own (holds a [])

pub not_has : {P : Formula → Type 0} → IsPlain P → (x : Formula) → P x → P (simple_not x)
not_has {P} own = not_cases (λ x y. P x → P y) (λ h. own.false_has) (λ h. own.true_has) (λ z h. own.operand_has z h) (λ x h. own.negation_has x h)

pub and_has : {P : Formula → Type 0} → IsPlain P → (x y : Formula) → P x → P y → P (simple_and x y)
and_has {P} own x y h k = go (as_truth x) (as_truth y)
  where
    go : (u w : Option Bool) → P (both u w x y)
    go (Some false) w = own.false_has
    go (Some true) w = k
    go None (Some false) = own.false_has
    go None (Some true) = h
    go None None = own.conjunction_has x y h k

pub or_has : {P : Formula → Type 0} → IsPlain P → (x y : Formula) → P x → P y → P (simple_or x y)
or_has {P} own x y h k = go (as_truth x) (as_truth y)
  where
    go : (u w : Option Bool) → P (either u w x y)
    go (Some true) w = own.true_has
    go (Some false) w = k
    go None (Some true) = own.true_has
    go None (Some false) = h
    go None None = own.disjunction_has x y h k

pub implies_has : {P : Formula → Type 0} → IsPlain P → (x y : Formula) → P x → P y → P (simple_implies x y)
implies_has {P} own x y h k = go (as_truth x) (as_truth y)
  where
    go : (u w : Option Bool) → P (implies u w x y)
    go (Some false) w = own.true_has
    go (Some true) w = k
    go None (Some true) = own.true_has
    go None (Some false) = not_has own x h
    go None None = own.implication_has x y h k

pub equals_has : {P : Formula → Type 0} → IsPlain P → (x y : Formula) → P x → P y → P (simple_equals x y)
equals_has {P} own x y h k = go (as_truth x) (as_truth y)
  where
    go : (u w : Option Bool) → P (equals u w x y)
    go (Some true) w = k
    go (Some false) w = not_has own y k
    go None (Some true) = h
    go None (Some false) = not_has own x h
    go None None = own.equivalence_has x y h k

pub unless_truth_has : {P : Formula → Type 0} → IsPlain P → (u : Option Bool) (x : Formula) → P x → P (unless_truth u x)
unless_truth_has own None x h = h
unless_truth_has own (Some v) x h = truth_has own v

pub unless_false_has : {P : Formula → Type 0} → IsPlain P → (u : Option Bool) (x : Formula) → P x → P (unless_false u x)
unless_false_has own (Some false) x h = own.false_has
unless_false_has own _ x h = h

-- ---- intervals

-- what each interval has, a sum of two has where it is in bounds
module _ (P : Interval → Type 0) (sums : (i j : Interval) → i.hi + j.hi ≤ MAX_BOUND → P i → P j → P (summed_interval i j)) where
  abbrev OfIntervals : Formula → Type 0
  OfIntervals p = EachInterval P p

  intervals : IsPlain OfIntervals
  intervals = record {
    true_has = tt;
    false_has = tt;
    negation_has = λ x h. h;
    operand_has = λ x h. h;
    conjunction_has = λ x y h k. (h, k);
    disjunction_has = λ x y h k. (h, k);
    implication_has = λ x y h k. (h, k);
    equivalence_has = λ x y h k. (h, k);
  }

  simp_each_interval : (p : Formula) → OfIntervals p → OfIntervals (simp p)
  unfolding simp
  simp_each_interval (atom a) h = atom_has {P = OfIntervals} intervals a h
  simp_each_interval (negation p) h = not_has {P = OfIntervals} intervals (simp p) (simp_each_interval p h)
  simp_each_interval (conjunction p q) h = and_has {P = OfIntervals} intervals (simp p) (simp q) (simp_each_interval p h.0) (simp_each_interval q h.1)
  simp_each_interval (disjunction p q) h = or_has {P = OfIntervals} intervals (simp p) (simp q) (simp_each_interval p h.0) (simp_each_interval q h.1)
  simp_each_interval (implication p q) h = implies_has {P = OfIntervals} intervals (simp p) (simp q) (simp_each_interval p h.0) (simp_each_interval q h.1)
  simp_each_interval (equivalence p q) h = equals_has {P = OfIntervals} intervals (simp p) (simp q) (simp_each_interval p h.0) (simp_each_interval q h.1)
  simp_each_interval (finally i p) h =
      finally_cases (λ x y. OfIntervals x → OfIntervals y) i (λ k. tt) (λ k. tt) (λ j z l k. (sums i j l h.0 k.0, k.1)) (λ x k. (h.0, k)) (simp p) (simp_each_interval p h.1)
  simp_each_interval (globally i p) h =
      globally_cases (λ x y. OfIntervals x → OfIntervals y) i (λ k. tt) (λ k. tt) (λ j z l k. (sums i j l h.0 k.0, k.1)) (λ x k. (h.0, k)) (simp p) (simp_each_interval p h.1)
  simp_each_interval (until i p q) h = unless_truth_has {P = OfIntervals} intervals (as_truth (simp q)) (until i (simp p) (simp q)) (h.0, (simp_each_interval p h.1.0, simp_each_interval q h.1.1))
  simp_each_interval (release i p q) h = unless_truth_has {P = OfIntervals} intervals (as_truth (simp q)) (release i (simp p) (simp q)) (h.0, (simp_each_interval p h.1.0, simp_each_interval q h.1.1))
  simp_each_interval (once i p) h =
      once_cases (λ x y. OfIntervals x → OfIntervals y) i (λ k. tt) (λ j z l k. (sums i j l h.0 k.0, k.1)) (λ x k. (h.0, k)) (simp p) (simp_each_interval p h.1)
  simp_each_interval (historically i p) h =
      historically_cases (λ x y. OfIntervals x → OfIntervals y) i (λ k. tt) (λ j z l k. (sums i j l h.0 k.0, k.1)) (λ x k. (h.0, k)) (simp p) (simp_each_interval p h.1)
  simp_each_interval (since i p q) h = unless_false_has {P = OfIntervals} intervals (as_truth (simp q)) (since i (simp p) (simp q)) (h.0, (simp_each_interval p h.1.0, simp_each_interval q h.1.1))
  simp_each_interval _ h = tt

pub simp_ordered : (p : Formula) → IsOrdered p → IsOrdered (simp p)
simp_ordered = simp_each_interval (λ i. i.lo ≤ i.hi) (λ i j l g h. omega (arith, g, h))

pub simp_bounded : (p : Formula) → AreBounded p → AreBounded (simp p)
simp_bounded = simp_each_interval IsBounded (λ i j l g h. (omega (arith, g.0, h.0), l))

-- ---- tenses

past : IsPlain IsPast
past = record {
  true_has = tt;
  false_has = tt;
  negation_has = λ x h. h;
  operand_has = λ x h. h;
  conjunction_has = λ x y h k. (h, k);
  disjunction_has = λ x y h k. (h, k);
  implication_has = λ x y h k. (h, k);
  equivalence_has = λ x y h k. (h, k);
}

pub simp_past : (p : Formula) → IsPast p → IsPast (simp p)
unfolding simp
simp_past truth h = tt
simp_past falsity h = tt
simp_past (atom a) h = atom_has {P = IsPast} past a h
simp_past (negation p) h = not_has {P = IsPast} past (simp p) (simp_past p h)
simp_past (conjunction p q) h = and_has {P = IsPast} past (simp p) (simp q) (simp_past p h.0) (simp_past q h.1)
simp_past (disjunction p q) h = or_has {P = IsPast} past (simp p) (simp q) (simp_past p h.0) (simp_past q h.1)
simp_past (implication p q) h = implies_has {P = IsPast} past (simp p) (simp q) (simp_past p h.0) (simp_past q h.1)
simp_past (equivalence p q) h = equals_has {P = IsPast} past (simp p) (simp q) (simp_past p h.0) (simp_past q h.1)
simp_past (once i p) h = once_cases (λ x y. IsPast x → IsPast y) i (λ k. tt) (λ j z l k. k) (λ x k. k) (simp p) (simp_past p h)
simp_past (historically i p) h = historically_cases (λ x y. IsPast x → IsPast y) i (λ k. tt) (λ j z l k. k) (λ x k. k) (simp p) (simp_past p h)
simp_past (since i p q) h = unless_false_has {P = IsPast} past (as_truth (simp q)) (since i (simp p) (simp q)) (simp_past p h.0, simp_past q h.1)
simp_past _ h = absurd h

future : IsPlain IsFuture
future = record {
  true_has = tt;
  false_has = tt;
  negation_has = λ x h. h;
  operand_has = λ x h. h;
  conjunction_has = λ x y h k. (h, k);
  disjunction_has = λ x y h k. (h, k);
  implication_has = λ x y h k. (h, k);
  equivalence_has = λ x y h k. (h, k);
}

pub simp_future : (p : Formula) → IsFuture p → IsFuture (simp p)
unfolding simp
simp_future truth h = tt
simp_future falsity h = tt
simp_future (atom a) h = atom_has {P = IsFuture} future a h
simp_future (negation p) h = not_has {P = IsFuture} future (simp p) (simp_future p h)
simp_future (conjunction p q) h = and_has {P = IsFuture} future (simp p) (simp q) (simp_future p h.0) (simp_future q h.1)
simp_future (disjunction p q) h = or_has {P = IsFuture} future (simp p) (simp q) (simp_future p h.0) (simp_future q h.1)
simp_future (implication p q) h = implies_has {P = IsFuture} future (simp p) (simp q) (simp_future p h.0) (simp_future q h.1)
simp_future (equivalence p q) h = equals_has {P = IsFuture} future (simp p) (simp q) (simp_future p h.0) (simp_future q h.1)
simp_future (finally i p) h = finally_cases (λ x y. IsFuture x → IsFuture y) i (λ k. tt) (λ k. tt) (λ j z l k. k) (λ x k. k) (simp p) (simp_future p h)
simp_future (globally i p) h = globally_cases (λ x y. IsFuture x → IsFuture y) i (λ k. tt) (λ k. tt) (λ j z l k. k) (λ x k. k) (simp p) (simp_future p h)
simp_future (until i p q) h = unless_truth_has {P = IsFuture} future (as_truth (simp q)) (until i (simp p) (simp q)) (simp_future p h.0, simp_future q h.1)
simp_future (release i p q) h = unless_truth_has {P = IsFuture} future (as_truth (simp q)) (release i (simp p) (simp q)) (simp_future p h.0, simp_future q h.1)
simp_future _ h = absurd h

-- ---- atoms

-- what each atom has
module _ (P : Atom → Type 0) where
  abbrev OfAtoms : Formula → Type 0
  OfAtoms p = EachAtom P p

  atoms : IsPlain OfAtoms
  atoms = record {
    true_has = tt;
    false_has = tt;
    negation_has = λ x h. h;
    operand_has = λ x h. h;
    conjunction_has = λ x y h k. (h, k);
    disjunction_has = λ x y h k. (h, k);
    implication_has = λ x y h k. (h, k);
    equivalence_has = λ x y h k. (h, k);
  }

  pub simp_each_atom : (p : Formula) → OfAtoms p → OfAtoms (simp p)
  unfolding simp
  simp_each_atom (atom a) h = atom_has {P = OfAtoms} atoms a h
  simp_each_atom (negation p) h = not_has {P = OfAtoms} atoms (simp p) (simp_each_atom p h)
  simp_each_atom (conjunction p q) h = and_has {P = OfAtoms} atoms (simp p) (simp q) (simp_each_atom p h.0) (simp_each_atom q h.1)
  simp_each_atom (disjunction p q) h = or_has {P = OfAtoms} atoms (simp p) (simp q) (simp_each_atom p h.0) (simp_each_atom q h.1)
  simp_each_atom (implication p q) h = implies_has {P = OfAtoms} atoms (simp p) (simp q) (simp_each_atom p h.0) (simp_each_atom q h.1)
  simp_each_atom (equivalence p q) h = equals_has {P = OfAtoms} atoms (simp p) (simp q) (simp_each_atom p h.0) (simp_each_atom q h.1)
  simp_each_atom (finally i p) h = finally_cases (λ x y. OfAtoms x → OfAtoms y) i (λ k. tt) (λ k. tt) (λ j z l k. k) (λ x k. k) (simp p) (simp_each_atom p h)
  simp_each_atom (globally i p) h = globally_cases (λ x y. OfAtoms x → OfAtoms y) i (λ k. tt) (λ k. tt) (λ j z l k. k) (λ x k. k) (simp p) (simp_each_atom p h)
  simp_each_atom (until i p q) h = unless_truth_has {P = OfAtoms} atoms (as_truth (simp q)) (until i (simp p) (simp q)) (simp_each_atom p h.0, simp_each_atom q h.1)
  simp_each_atom (release i p q) h = unless_truth_has {P = OfAtoms} atoms (as_truth (simp q)) (release i (simp p) (simp q)) (simp_each_atom p h.0, simp_each_atom q h.1)
  simp_each_atom (once i p) h = once_cases (λ x y. OfAtoms x → OfAtoms y) i (λ k. tt) (λ j z l k. k) (λ x k. k) (simp p) (simp_each_atom p h)
  simp_each_atom (historically i p) h = historically_cases (λ x y. OfAtoms x → OfAtoms y) i (λ k. tt) (λ j z l k. k) (λ x k. k) (simp p) (simp_each_atom p h)
  simp_each_atom (since i p q) h = unless_false_has {P = OfAtoms} atoms (as_truth (simp q)) (since i (simp p) (simp q)) (simp_each_atom p h.0, simp_each_atom q h.1)
  simp_each_atom _ h = tt

-- each atom of the formula is one of these
AreAmong : (Atom → Type 0) → Formula → Type 0
AreAmong S p = (a : Atom) → HasAtom p a → S a

either_among : (S : Atom → Type 0) (p q : Formula) → AreAmong S p → AreAmong S q → (a : Atom) → HasAtom p a ⊎ HasAtom q a → S a
unfolding AreAmong
either_among S p q h k a (inl l) = h a l
either_among S p q h k a (inr r) = k a r

among : (S : Atom → Type 0) → IsPlain (AreAmong S)
unfolding AreAmong
among S = record {
  true_has = λ a h. absurd h;
  false_has = λ a h. absurd h;
  negation_has = λ x h. h;
  operand_has = λ x h. h;
  conjunction_has = λ x y h k. either_among S x y h k;
  disjunction_has = λ x y h k. either_among S x y h k;
  implication_has = λ x y h k. either_among S x y h k;
  equivalence_has = λ x y h k. either_among S x y h k;
}

among_simp : (S : Atom → Type 0) (p : Formula) → AreAmong S p → AreAmong S (simp p)
unfolding simp AreAmong
among_simp S (atom a) h = atom_has {P = AreAmong S} (among S) a h
among_simp S (negation p) h = not_has {P = AreAmong S} (among S) (simp p) (among_simp S p h)
among_simp S (conjunction p q) h = and_has {P = AreAmong S} (among S) (simp p) (simp q) (among_simp S p (λ a k. h a (inl k))) (among_simp S q (λ a k. h a (inr k)))
among_simp S (disjunction p q) h = or_has {P = AreAmong S} (among S) (simp p) (simp q) (among_simp S p (λ a k. h a (inl k))) (among_simp S q (λ a k. h a (inr k)))
among_simp S (implication p q) h = implies_has {P = AreAmong S} (among S) (simp p) (simp q) (among_simp S p (λ a k. h a (inl k))) (among_simp S q (λ a k. h a (inr k)))
among_simp S (equivalence p q) h = equals_has {P = AreAmong S} (among S) (simp p) (simp q) (among_simp S p (λ a k. h a (inl k))) (among_simp S q (λ a k. h a (inr k)))
among_simp S (finally i p) h = finally_cases (λ x y. AreAmong S x → AreAmong S y) i (λ k a e. absurd e) (λ k a e. absurd e) (λ j z l k. k) (λ x k. k) (simp p) (among_simp S p h)
among_simp S (globally i p) h = globally_cases (λ x y. AreAmong S x → AreAmong S y) i (λ k a e. absurd e) (λ k a e. absurd e) (λ j z l k. k) (λ x k. k) (simp p) (among_simp S p h)
among_simp S (until i p q) h =
    unless_truth_has {P = AreAmong S} (among S) (as_truth (simp q)) (until i (simp p) (simp q)) (either_among S (simp p) (simp q) (among_simp S p (λ a k. h a (inl k))) (among_simp S q (λ a k. h a (inr k))))
among_simp S (release i p q) h =
    unless_truth_has {P = AreAmong S} (among S) (as_truth (simp q)) (release i (simp p) (simp q)) (either_among S (simp p) (simp q) (among_simp S p (λ a k. h a (inl k))) (among_simp S q (λ a k. h a (inr k))))
among_simp S (once i p) h = once_cases (λ x y. AreAmong S x → AreAmong S y) i (λ k a e. absurd e) (λ j z l k. k) (λ x k. k) (simp p) (among_simp S p h)
among_simp S (historically i p) h = historically_cases (λ x y. AreAmong S x → AreAmong S y) i (λ k a e. absurd e) (λ j z l k. k) (λ x k. k) (simp p) (among_simp S p h)
among_simp S (since i p q) h =
    unless_false_has {P = AreAmong S} (among S) (as_truth (simp q)) (since i (simp p) (simp q)) (either_among S (simp p) (simp q) (among_simp S p (λ a k. h a (inl k))) (among_simp S q (λ a k. h a (inr k))))
among_simp S _ h = λ a k. absurd k

pub simp_atoms : (p : Formula) (a : Atom) → HasAtom (simp p) a → HasAtom p a
unfolding AreAmong
simp_atoms p = among_simp (HasAtom p) p (λ a h. h)
