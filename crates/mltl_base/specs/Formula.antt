-- Formulas of Mission-time LTL, their core forms and their propagation delays.
-- Sources: Li, Vardi and Rozier (2019) for the future operators, Kempa and others (2020) for the delays. The past operators
-- are specific to this product.
-- A reader of the contracts needs this file.

use Rattle.std.specs.Prelude.{ℕ, ◌+◌, min, max, List, ⊤}
use Rattle.mltl_base.specs.declared.interval.Interval.{Interval}
use Rattle.mltl_base.specs.Atoms.{Atom, is_true, equal, less, at_most, different, greater, at_least, atom_over}

-- a formula; an interval a..b is given by its ends
pub data Formula : Type 0 where
  truth : Formula
  falsity : Formula
  atom : Atom → Formula
  negation : Formula → Formula
  conjunction : Formula → Formula → Formula
  disjunction : Formula → Formula → Formula
  implication : Formula → Formula → Formula
  equivalence : Formula → Formula → Formula
  finally : Interval → Formula → Formula
  globally : Interval → Formula → Formula
  until : Interval → Formula → Formula → Formula
  release : Interval → Formula → Formula → Formula
  once : Interval → Formula → Formula
  historically : Interval → Formula → Formula
  since : Interval → Formula → Formula → Formula

-- P holds of each atom of the formula
abbrev pub EachAtom : (Atom → Type 0) → Formula → Type 0
EachAtom P truth = ⊤
EachAtom P falsity = ⊤
EachAtom P (atom a) = P a
EachAtom P (negation p) = EachAtom P p
EachAtom P (conjunction p q) = EachAtom P p × EachAtom P q
EachAtom P (disjunction p q) = EachAtom P p × EachAtom P q
EachAtom P (implication p q) = EachAtom P p × EachAtom P q
EachAtom P (equivalence p q) = EachAtom P p × EachAtom P q
EachAtom P (finally i p) = EachAtom P p
EachAtom P (globally i p) = EachAtom P p
EachAtom P (until i p q) = EachAtom P p × EachAtom P q
EachAtom P (release i p q) = EachAtom P p × EachAtom P q
EachAtom P (once i p) = EachAtom P p
EachAtom P (historically i p) = EachAtom P p
EachAtom P (since i p q) = EachAtom P p × EachAtom P q

-- P holds of each interval of the formula
abbrev pub EachInterval : (Interval → Type 0) → Formula → Type 0
EachInterval P truth = ⊤
EachInterval P falsity = ⊤
EachInterval P (atom a) = ⊤
EachInterval P (negation p) = EachInterval P p
EachInterval P (conjunction p q) = EachInterval P p × EachInterval P q
EachInterval P (disjunction p q) = EachInterval P p × EachInterval P q
EachInterval P (implication p q) = EachInterval P p × EachInterval P q
EachInterval P (equivalence p q) = EachInterval P p × EachInterval P q
EachInterval P (finally i p) = P i × EachInterval P p
EachInterval P (globally i p) = P i × EachInterval P p
EachInterval P (until i p q) = P i × (EachInterval P p × EachInterval P q)
EachInterval P (release i p q) = P i × (EachInterval P p × EachInterval P q)
EachInterval P (once i p) = P i × EachInterval P p
EachInterval P (historically i p) = P i × EachInterval P p
EachInterval P (since i p q) = P i × (EachInterval P p × EachInterval P q)

-- a core formula
pub data Core : Type 0 where
  ctrue : Core
  catom : Atom → Core
  cnot : Core → Core
  cand : Core → Core → Core
  cuntil : Interval → Core → Core → Core
  csince : Interval → Core → Core → Core

-- a core formula as a formula
unfoldable pub plain : Core → Formula
plain ctrue = truth
plain (catom a) = atom a
plain (cnot p) = negation (plain p)
plain (cand p q) = conjunction (plain p) (plain q)
plain (cuntil i p q) = until i (plain p) (plain q)
plain (csince i p q) = since i (plain p) (plain q)

-- the negation, without a double negation
unfoldable pub neg : Core → Core
neg (cnot p) = p
neg p = cnot p

-- a comparison in the form that instructions have
abbrev pub core_atom : Atom → Core
core_atom (different a b) = cnot (catom (equal a b))
core_atom (greater a b) = catom (less b a)
core_atom (at_least a b) = catom (at_most b a)
core_atom (is_true c) = catom (is_true c)
core_atom (equal a b) = catom (equal a b)
core_atom (less a b) = catom (less a b)
core_atom (at_most a b) = catom (at_most a b)

-- the core form: every operator written with true, atoms, not, and, until, since
unfoldable pub core : Formula → Core
core truth = ctrue
core falsity = cnot ctrue
core (atom a) = core_atom a
core (negation p) = neg (core p)
core (conjunction p q) = cand (core p) (core q)
core (disjunction p q) = neg (cand (neg (core p)) (neg (core q)))
core (implication p q) = neg (cand (core p) (neg (core q)))
core (equivalence p q) = cand (neg (cand (core p) (neg (core q)))) (neg (cand (core q) (neg (core p))))
core (finally i p) = cuntil i ctrue (core p)
core (globally i p) = neg (cuntil i ctrue (neg (core p)))
core (until i p q) = cuntil i (core p) (core q)
core (release i p q) = neg (cuntil i (neg (core p)) (neg (core q)))
core (once i p) = csince i ctrue (core p)
core (historically i p) = neg (csince i ctrue (neg (core p)))
core (since i p q) = csince i (core p) (core q)

-- the atom is a Boolean or a comparison that instructions have
abbrev pub IsCoreAtom : Atom → Type 0
IsCoreAtom (different a b) = ⊥
IsCoreAtom (greater a b) = ⊥
IsCoreAtom (at_least a b) = ⊥
IsCoreAtom _ = ⊤

-- the core formula isn't a negation
abbrev pub IsNoNegation : Core → Type 0
IsNoNegation (cnot p) = ⊥
IsNoNegation _ = ⊤

-- the core formula has no negation of a negation, and only comparisons that instructions have
unfoldable pub IsReduced : Core → Type 0
IsReduced ctrue = ⊤
IsReduced (catom a) = IsCoreAtom a
IsReduced (cnot p) = IsNoNegation p × IsReduced p
IsReduced (cand p q) = IsReduced p × IsReduced q
IsReduced (cuntil i p q) = IsReduced p × IsReduced q
IsReduced (csince i p q) = IsReduced p × IsReduced q

-- the worst-case propagation delay, in rows; 0 for a past formula
unfoldable pub wpd : Formula → ℕ
wpd truth = 0
wpd falsity = 0
wpd (atom a) = 0
wpd (negation p) = wpd p
wpd (conjunction p q) = max (wpd p) (wpd q)
wpd (disjunction p q) = max (wpd p) (wpd q)
wpd (implication p q) = max (wpd p) (wpd q)
wpd (equivalence p q) = max (wpd p) (wpd q)
wpd (finally i p) = wpd p + i.hi
wpd (globally i p) = wpd p + i.hi
wpd (until i p q) = max (wpd p) (wpd q) + i.hi
wpd (release i p q) = max (wpd p) (wpd q) + i.hi
wpd (once i p) = wpd p
wpd (historically i p) = wpd p
wpd (since i p q) = max (wpd p) (wpd q)

-- the best-case propagation delay of a core formula, in rows; 0 for a past formula
unfoldable pub bpd : Core → ℕ
bpd ctrue = 0
bpd (catom a) = 0
bpd (cnot p) = bpd p
bpd (cand p q) = min (bpd p) (bpd q)
bpd (cuntil i p q) = min (bpd p) (bpd q) + i.lo
bpd (csince i p q) = 0

-- the worst-case propagation delay of a core formula
abbrev pub core_wpd : Core → ℕ
core_wpd p = wpd (plain p)

-- the formula with each signal's number replaced by the signal's column
unfoldable pub formula_over : List ℕ → Formula → Formula
formula_over columns truth = truth
formula_over columns falsity = falsity
formula_over columns (atom a) = atom (atom_over columns a)
formula_over columns (negation p) = negation (formula_over columns p)
formula_over columns (conjunction p q) = conjunction (formula_over columns p) (formula_over columns q)
formula_over columns (disjunction p q) = disjunction (formula_over columns p) (formula_over columns q)
formula_over columns (implication p q) = implication (formula_over columns p) (formula_over columns q)
formula_over columns (equivalence p q) = equivalence (formula_over columns p) (formula_over columns q)
formula_over columns (finally i p) = finally i (formula_over columns p)
formula_over columns (globally i p) = globally i (formula_over columns p)
formula_over columns (until i p q) = until i (formula_over columns p) (formula_over columns q)
formula_over columns (release i p q) = release i (formula_over columns p) (formula_over columns q)
formula_over columns (once i p) = once i (formula_over columns p)
formula_over columns (historically i p) = historically i (formula_over columns p)
formula_over columns (since i p q) = since i (formula_over columns p) (formula_over columns q)
