-- The trees of the program, as the formulas of the definitions.
-- A reader of the contracts needs this file.

use Rattle.std.specs.Prelude.{Bool, true, false}
use Rattle.mltl_base.specs.declared.interval.Interval.{Interval}
use Rattle.mltl_base.specs.declared.operators.ArithOp as arith_op
use Rattle.mltl_base.specs.declared.operators.CompareOp as compare_op
use Rattle.mltl_base.specs.declared.operators.LogicOp as logic_op
use Rattle.mltl_base.specs.declared.operators.WindowOp as window_op
use Rattle.mltl_base.specs.declared.operators.BetweenOp as between_op
use Rattle.mltl_base.specs.Atoms as base
use Rattle.mltl_base.specs.Formula as plain
use Rattle.mltl_base.specs.Reports as told
use Rattle.mltl_oracle.specs.declared.formula.Term as tree
use Rattle.mltl_oracle.specs.declared.formula.Atom as leaf
use Rattle.mltl_oracle.specs.declared.formula.Formula as node
use Rattle.mltl_oracle.specs.declared.formula.Output as out

-- the expression of an arithmetic operator
abbrev pub arithmetic_term : arith_op.ArithOp → base.Term → base.Term → base.Term
arithmetic_term arith_op.TheVariants.Add a b = base.plus a b
arithmetic_term arith_op.TheVariants.Sub a b = base.minus a b
arithmetic_term arith_op.TheVariants.Mul a b = base.times a b
arithmetic_term arith_op.TheVariants.Div a b = base.quotient a b
arithmetic_term arith_op.TheVariants.Rem a b = base.remainder a b

-- the expression that a tree represents
abbrev pub as_term : tree.Term → base.Term
as_term (tree.TheVariants.Column c) = base.column c
as_term (tree.TheVariants.Constant n) = base.constant n
as_term (tree.TheVariants.Negative' p a) = base.negative (as_term a)
as_term (tree.TheVariants.Arith' op p a q b) = arithmetic_term op (as_term a) (as_term b)

-- the atom of a comparison
abbrev pub comparison_atom : compare_op.CompareOp → base.Term → base.Term → base.Atom
comparison_atom compare_op.TheVariants.Eq a b = base.equal a b
comparison_atom compare_op.TheVariants.Ne a b = base.different a b
comparison_atom compare_op.TheVariants.Lt a b = base.less a b
comparison_atom compare_op.TheVariants.Le a b = base.at_most a b
comparison_atom compare_op.TheVariants.Gt a b = base.greater a b
comparison_atom compare_op.TheVariants.Ge a b = base.at_least a b

-- the atom that a tree represents
abbrev pub as_atom : leaf.Atom → base.Atom
as_atom (leaf.TheVariants.IsTrue c) = base.is_true c
as_atom (leaf.TheVariants.Compare op a b) = comparison_atom op (as_term a) (as_term b)

-- a Boolean as a formula
abbrev pub truth_formula : Bool → plain.Formula
truth_formula true = plain.truth
truth_formula false = plain.falsity

-- the formula of an operator without time
abbrev pub logic : logic_op.LogicOp → plain.Formula → plain.Formula → plain.Formula
logic logic_op.TheVariants.And p q = plain.conjunction p q
logic logic_op.TheVariants.Or p q = plain.disjunction p q
logic logic_op.TheVariants.Implies p q = plain.implication p q
logic logic_op.TheVariants.Iff p q = plain.equivalence p q

-- the formula of an operator with a window and one operand
abbrev pub window_formula : window_op.WindowOp → Interval → plain.Formula → plain.Formula
window_formula window_op.TheVariants.F i p = plain.finally i p
window_formula window_op.TheVariants.G i p = plain.globally i p
window_formula window_op.TheVariants.O i p = plain.once i p
window_formula window_op.TheVariants.H i p = plain.historically i p

-- the formula of an operator with a window and two operands
abbrev pub between : between_op.BetweenOp → Interval → plain.Formula → plain.Formula → plain.Formula
between between_op.TheVariants.U i p q = plain.until i p q
between between_op.TheVariants.R i p q = plain.release i p q
between between_op.TheVariants.S i p q = plain.since i p q

-- the formula that a tree represents
abbrev pub as_formula : node.Formula → plain.Formula
as_formula (node.TheVariants.Truth b) = truth_formula b
as_formula (node.TheVariants.Atom a) = plain.atom (as_atom a)
as_formula (node.TheVariants.Not' p a) = plain.negation (as_formula a)
as_formula (node.TheVariants.Logic' op p a q b) = logic op (as_formula a) (as_formula b)
as_formula (node.TheVariants.Window' op i p a) = window_formula op i (as_formula a)
as_formula (node.TheVariants.Between' op i p a q b) = between op i (as_formula a) (as_formula b)

-- the output that one or two trees represent
abbrev pub as_output : out.Output → told.Output
as_output (out.TheVariants.Formula p) = told.formula (as_formula p)
as_output (out.TheVariants.Contract p q) = told.contract (as_formula p) (as_formula q)
