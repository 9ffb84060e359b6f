-- The weight of an observer program: the leaves and operators of its outputs as trees, in which a shared instruction counts
-- once for each reader.

use Rattle.std.specs.Prelude.{ℕ, ◌+◌}
use Rattle.std.specs.List.{sum_by}
use Rattle.mltl_base.specs.declared.program.Program.{Program}
use Rattle.mltl_base.specs.Atoms.{Term, column, constant, negative, plus, minus, times, quotient, remainder, Atom}
use Rattle.mltl_base.specs.Atoms.{is_true, equal, less, at_most, different, greater, at_least}
use Rattle.mltl_base.specs.Formula.{Formula, truth, falsity, atom, negation, conjunction, disjunction, implication}
use Rattle.mltl_base.specs.Formula.{equivalence, finally, globally, until, release, once, historically, since}
use Rattle.mltl_base.specs.Reports.{Output, formula, contract}
use Rattle.mltl_base.specs.Programs.{outputs}

-- the leaves and operators of a whole-number expression
unfoldable pub term_weight : Term → ℕ
term_weight (column c) = 1
term_weight (constant n) = 1
term_weight (negative a) = 1 + term_weight a
term_weight (plus a b) = 1 + term_weight a + term_weight b
term_weight (minus a b) = 1 + term_weight a + term_weight b
term_weight (times a b) = 1 + term_weight a + term_weight b
term_weight (quotient a b) = 1 + term_weight a + term_weight b
term_weight (remainder a b) = 1 + term_weight a + term_weight b

-- the leaves and operators of an atom
abbrev pub atom_weight : Atom → ℕ
atom_weight (is_true c) = 1
atom_weight (equal a b) = 1 + term_weight a + term_weight b
atom_weight (less a b) = 1 + term_weight a + term_weight b
atom_weight (at_most a b) = 1 + term_weight a + term_weight b
atom_weight (different a b) = 1 + term_weight a + term_weight b
atom_weight (greater a b) = 1 + term_weight a + term_weight b
atom_weight (at_least a b) = 1 + term_weight a + term_weight b

-- the leaves and operators of a formula and its expressions
unfoldable pub formula_weight : Formula → ℕ
formula_weight truth = 1
formula_weight falsity = 1
formula_weight (atom a) = atom_weight a
formula_weight (negation p) = 1 + formula_weight p
formula_weight (conjunction p q) = 1 + formula_weight p + formula_weight q
formula_weight (disjunction p q) = 1 + formula_weight p + formula_weight q
formula_weight (implication p q) = 1 + formula_weight p + formula_weight q
formula_weight (equivalence p q) = 1 + formula_weight p + formula_weight q
formula_weight (finally i p) = 1 + formula_weight p
formula_weight (globally i p) = 1 + formula_weight p
formula_weight (until i p q) = 1 + formula_weight p + formula_weight q
formula_weight (release i p q) = 1 + formula_weight p + formula_weight q
formula_weight (once i p) = 1 + formula_weight p
formula_weight (historically i p) = 1 + formula_weight p
formula_weight (since i p q) = 1 + formula_weight p + formula_weight q

-- the weight of an output: its formula, or both formulas of a contract
abbrev pub output_weight : Output → ℕ
output_weight (formula p) = formula_weight p
output_weight (contract p q) = formula_weight p + formula_weight q

-- the weights of all outputs of a program together
abbrev pub program_weight : Program → ℕ
program_weight program = sum_by output_weight (outputs program)
