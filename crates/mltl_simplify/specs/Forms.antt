-- The intervals and atoms that occur in a formula. Contracts use this file.

use Rattle.std.specs.Prelude.{ℕ, ◌≡◌, ◌⊎◌}
use Rattle.mltl_base.specs.declared.interval.Interval.{Interval}
use Rattle.mltl_base.specs.Atoms.{Atom, is_true}
use Rattle.mltl_base.specs.Formula.{Formula, truth, falsity, atom, negation, conjunction, disjunction, implication}
use Rattle.mltl_base.specs.Formula.{equivalence, finally, globally, until, release, once, historically, since}
use Rattle.mltl_base.specs.Formula.{EachInterval}
use Rattle.c2po_ast.specs.Nodes.{IsBounded}

-- the interval from lo to hi
abbrev pub from_to : ℕ → ℕ → Interval
from_to lo hi = record { lo = lo; hi = hi }

-- the formula of a Boolean signal
abbrev pub signal : ℕ → Formula
signal s = atom (is_true s)

-- each interval of the formula has a lower bound that isn't above the upper one, and an upper bound within the limit
abbrev pub AreBounded : Formula → Type 0
AreBounded p = EachInterval IsBounded p

-- the atom occurs in the formula
abbrev pub HasAtom : Formula → Atom → Type 0
HasAtom truth b = ⊥
HasAtom falsity b = ⊥
HasAtom (atom a) b = a ≡ b
HasAtom (negation p) b = HasAtom p b
HasAtom (conjunction p q) b = HasAtom p b ⊎ HasAtom q b
HasAtom (disjunction p q) b = HasAtom p b ⊎ HasAtom q b
HasAtom (implication p q) b = HasAtom p b ⊎ HasAtom q b
HasAtom (equivalence p q) b = HasAtom p b ⊎ HasAtom q b
HasAtom (finally i p) b = HasAtom p b
HasAtom (globally i p) b = HasAtom p b
HasAtom (until i p q) b = HasAtom p b ⊎ HasAtom q b
HasAtom (release i p q) b = HasAtom p b ⊎ HasAtom q b
HasAtom (once i p) b = HasAtom p b
HasAtom (historically i p) b = HasAtom p b
HasAtom (since i p q) b = HasAtom p b ⊎ HasAtom q b
