-- The first fault of a formula's integers: operands first, from left to right. Contracts use this file.

use Rattle.std.specs.Prelude.{◌≡◌, Option, Some, None, Ok, Err, All}
use Rattle.mltl_base.specs.Atoms.{Term, Atom, is_true, equal, less, at_most, different, greater, at_least}
use Rattle.mltl_base.specs.Formula.{Formula, truth, falsity, atom, negation, conjunction, disjunction, implication}
use Rattle.mltl_base.specs.Formula.{equivalence, finally, globally, until, release, once, historically, since}
use Rattle.mltl_base.specs.Ranges.{NoRange, Ranged, range}
use Rattle.mltl_base.specs.Subformulas.{Asked, formulas_of}
use Rattle.c2po_ast.specs.Nodes.{Tree, number, formula}

-- the reason why there is no range, if there is none
abbrev pub why_none : Ranged → Option NoRange
why_none (Ok r) = None
why_none (Err why) = Some why

-- the left fault, or the right fault if there is no left fault
abbrev pub or_later : Option NoRange → Option NoRange → Option NoRange
or_later (Some why) later = Some why
or_later None later = later

-- the reason why an integer has no range, if it has none
abbrev pub term_fault : Term → Option NoRange
term_fault a = why_none (range a)

-- the first fault of the two sides of a comparison
abbrev pub atom_fault : Atom → Option NoRange
atom_fault (is_true s) = None
atom_fault (equal a b) = or_later (term_fault a) (term_fault b)
atom_fault (less a b) = or_later (term_fault a) (term_fault b)
atom_fault (at_most a b) = or_later (term_fault a) (term_fault b)
atom_fault (different a b) = or_later (term_fault a) (term_fault b)
atom_fault (greater a b) = or_later (term_fault a) (term_fault b)
atom_fault (at_least a b) = or_later (term_fault a) (term_fault b)

-- the first fault of the atoms of a formula
unfoldable pub formula_fault : Formula → Option NoRange
formula_fault truth = None
formula_fault falsity = None
formula_fault (atom a) = atom_fault a
formula_fault (negation p) = formula_fault p
formula_fault (conjunction p q) = or_later (formula_fault p) (formula_fault q)
formula_fault (disjunction p q) = or_later (formula_fault p) (formula_fault q)
formula_fault (implication p q) = or_later (formula_fault p) (formula_fault q)
formula_fault (equivalence p q) = or_later (formula_fault p) (formula_fault q)
formula_fault (finally i p) = formula_fault p
formula_fault (globally i p) = formula_fault p
formula_fault (until i p q) = or_later (formula_fault p) (formula_fault q)
formula_fault (release i p q) = or_later (formula_fault p) (formula_fault q)
formula_fault (once i p) = formula_fault p
formula_fault (historically i p) = formula_fault p
formula_fault (since i p q) = or_later (formula_fault p) (formula_fault q)

-- the first fault of the integer or formula of a node
abbrev pub tree_fault : Tree → Option NoRange
tree_fault (number a) = term_fault a
tree_fault (formula p) = formula_fault p

-- each integer of the output has a range, and each divisor is a single number other than 0
abbrev pub HasRanges : Asked → Type 0
HasRanges asked = All (λ p. formula_fault p ≡ None) (formulas_of asked.output)
