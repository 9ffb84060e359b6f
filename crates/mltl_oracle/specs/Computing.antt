-- Expressions that the program can compute, and Kleene values over lists of known verdicts.
-- A reader of the contracts needs this file.

use Rattle.std.specs.Prelude.{◌≢◌, Bool, true, false, List, ℤ, pos, neg_ℤ, ◌+ℤ◌, ◌-ℤ◌, ◌*ℤ◌, int_div, int_rem}
use Rattle.std.specs.Prelude.{int_lt, int_le, not, FitsSigned, slice_get, All, ⊤}
use Rattle.std.specs.Ordering.{int_eq}
use Rattle.std.specs.Int.{w64}
use Rattle.mltl_base.specs.declared.interval.Interval.{Interval}
use Rattle.mltl_base.specs.declared.operators.ArithOp as arith_op
use Rattle.mltl_base.specs.declared.operators.CompareOp as compare_op
use Rattle.mltl_base.specs.declared.operators.LogicOp as logic_op
use Rattle.mltl_base.specs.declared.operators.WindowOp as window_op
use Rattle.mltl_base.specs.declared.operators.BetweenOp as between_op
use Rattle.mltl_base.specs.Atoms.{Row, Term, column, constant, negative, plus, minus, times, quotient, remainder, Atom}
use Rattle.mltl_base.specs.Atoms.{is_true, equal, less, at_most, different, greater, at_least, value}
use Rattle.mltl_base.specs.Formula.{Formula, EachAtom}
use Rattle.mltl_base.specs.Kleene.{k_not}
use Rattle.mltl_base.specs.Reports.{Output, formula, contract}
use Rattle.mltl_oracle.specs.declared.verdict.Operator as operator
use Rattle.mltl_base.specs.Verdicts.{Known, k_negation, k_conjunction, k_disjunction, k_implication, k_equivalence}
use Rattle.mltl_base.specs.Verdicts.{k_finally, k_globally, k_until, k_release, k_once, k_historically, k_since}

-- the result of an arithmetic operator between two numbers
abbrev pub arithmetic_result : arith_op.ArithOp → ℤ → ℤ → ℤ
arithmetic_result arith_op.TheVariants.Add x y = x +ℤ y
arithmetic_result arith_op.TheVariants.Sub x y = x -ℤ y
arithmetic_result arith_op.TheVariants.Mul x y = x *ℤ y
arithmetic_result arith_op.TheVariants.Div x y = int_div x y
arithmetic_result arith_op.TheVariants.Rem x y = int_rem x y

-- the result has 64 bits with a sign, and a divisor isn't 0
abbrev pub HasResult : arith_op.ArithOp → ℤ → ℤ → Type 0
HasResult arith_op.TheVariants.Add x y = FitsSigned w64 (x +ℤ y)
HasResult arith_op.TheVariants.Sub x y = FitsSigned w64 (x -ℤ y)
HasResult arith_op.TheVariants.Mul x y = FitsSigned w64 (x *ℤ y)
HasResult arith_op.TheVariants.Div x y = (y ≢ pos 0) × FitsSigned w64 (int_div x y)
HasResult arith_op.TheVariants.Rem x y = y ≢ pos 0

-- the comparison of two numbers is true
abbrev pub comparison_holds : compare_op.CompareOp → ℤ → ℤ → Bool
comparison_holds compare_op.TheVariants.Eq x y = int_eq x y
comparison_holds compare_op.TheVariants.Ne x y = not (int_eq x y)
comparison_holds compare_op.TheVariants.Lt x y = int_lt x y
comparison_holds compare_op.TheVariants.Le x y = int_le x y
comparison_holds compare_op.TheVariants.Gt x y = int_lt y x
comparison_holds compare_op.TheVariants.Ge x y = int_le y x

-- each part of the expression can be computed on the row
abbrev pub Computes : Row → Term → Type 0
Computes row (column c) = ⊤
Computes row (constant n) = ⊤
Computes row (negative a) = Computes row a × FitsSigned w64 (neg_ℤ (value a row))
Computes row (plus a b) =
    Computes row a × Computes row b × HasResult arith_op.TheVariants.Add (value a row) (value b row)
Computes row (minus a b) =
    Computes row a × Computes row b × HasResult arith_op.TheVariants.Sub (value a row) (value b row)
Computes row (times a b) =
    Computes row a × Computes row b × HasResult arith_op.TheVariants.Mul (value a row) (value b row)
Computes row (quotient a b) =
    Computes row a × Computes row b × HasResult arith_op.TheVariants.Div (value a row) (value b row)
Computes row (remainder a b) =
    Computes row a × Computes row b × HasResult arith_op.TheVariants.Rem (value a row) (value b row)

-- each part of the two sides of a comparison can be computed on the row
abbrev pub ComputesAtom : Row → Atom → Type 0
ComputesAtom row (is_true c) = ⊤
ComputesAtom row (equal a b) = Computes row a × Computes row b
ComputesAtom row (less a b) = Computes row a × Computes row b
ComputesAtom row (at_most a b) = Computes row a × Computes row b
ComputesAtom row (different a b) = Computes row a × Computes row b
ComputesAtom row (greater a b) = Computes row a × Computes row b
ComputesAtom row (at_least a b) = Computes row a × Computes row b

-- a known verdict, or its negation
abbrev pub known_verdict : Bool → List Bool → Known
known_verdict true vs t = k_not (slice_get vs t)
known_verdict false vs t = slice_get vs t

-- the Kleene value of an operator without time, over the known values of its operands
abbrev pub k_logic : logic_op.LogicOp → Known → Known → Known
k_logic logic_op.TheVariants.And p q = k_conjunction p q
k_logic logic_op.TheVariants.Or p q = k_disjunction p q
k_logic logic_op.TheVariants.Implies p q = k_implication p q
k_logic logic_op.TheVariants.Iff p q = k_equivalence p q

-- the Kleene value of an operator with a window and one operand
abbrev pub k_window : window_op.WindowOp → Interval → Known → Known
k_window window_op.TheVariants.F i p = k_finally i p
k_window window_op.TheVariants.G i p = k_globally i p
k_window window_op.TheVariants.O i p = k_once i p
k_window window_op.TheVariants.H i p = k_historically i p

-- the Kleene value of an operator with a window and two operands
abbrev pub k_between : between_op.BetweenOp → Interval → Known → Known → Known
k_between between_op.TheVariants.U i p q = k_until i p q
k_between between_op.TheVariants.R i p q = k_release i p q
k_between between_op.TheVariants.S i p q = k_since i p q

-- the Kleene value of any operator; an operator with a single operand ignores the right one
abbrev pub k_operator : operator.Operator → Known → Known → Known
k_operator operator.TheVariants.Not p q = k_negation p
k_operator (operator.TheVariants.Logic op) p q = k_logic op p q
k_operator (operator.TheVariants.Window op i) p q = k_window op i p
k_operator (operator.TheVariants.Between op i) p q = k_between op i p q

-- each atom of the formula can be computed on each row
abbrev pub ComputesAll : List Row → Formula → Type 0
ComputesAll rows p = EachAtom (λ a. All (λ row. ComputesAtom row a) rows) p

-- each atom of an output's formulas can be computed on each row
abbrev pub ComputesOutput : List Row → Output → Type 0
ComputesOutput rows (formula p) = ComputesAll rows p
ComputesOutput rows (contract p q) = ComputesAll rows p × ComputesAll rows q

-- each atom of an output's formulas can be computed on each row of both lists
abbrev pub ComputesBoth : List Row → List Row → Output → Type 0
ComputesBoth before now o = ComputesOutput before o × ComputesOutput now o
