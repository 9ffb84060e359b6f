-- The numbers of 64 bits that the Booleanizer computes on a row.
-- A reader of the contracts needs this file.

use Rattle.std.specs.Prelude.{◌≡◌, ◌≢◌, ◌<◌, ℕ, ℤ, pos, neg_ℤ, ◌+ℤ◌, ◌-ℤ◌, ◌*ℤ◌, int_div, int_rem, int_lt, int_le, Bool}
use Rattle.std.specs.Prelude.{if◌then◌else◌, List, [], ◌∷◌, ◌++◌, length, map, slice_get, slice_index_or, Some}
use Rattle.std.specs.Prelude.{FitsSigned, ⊤}
use Rattle.std.specs.Int.{w64}
use Rattle.std.specs.Ordering.{int_eq}
use Rattle.mltl_base.specs.declared.operators.BzOp.{BzOp}
use Rattle.mltl_base.specs.declared.operators.BzOp.TheVariants.{Column, IsTrue, Const, Neg, Add, Sub, Mul, Div, Rem, Eq}
use Rattle.mltl_base.specs.declared.operators.BzOp.TheVariants.{Lt, Le}
use Rattle.mltl_base.specs.Atoms.{Row, Atom, value, holds, in_column}
use Rattle.mltl_base.specs.Programs.{Expression, whole, truth, expression_of, expressions, term_at}
use Rattle.obs_verify.specs.Soundness.{AreWhole, IsWhole}

-- a Boolean as a number
abbrev pub truth_number : Bool → ℤ
truth_number b = if b then pos 1 else pos 0

-- the number of an instruction on a row: its integer, or its Boolean as 1 or 0
abbrev pub number_on : Row → Expression → ℤ
number_on row (whole e) = value e row
number_on row (truth a) = truth_number (holds a row)

-- the numbers of all instructions on a row
abbrev pub numbers_on : Row → List BzOp → List ℤ
numbers_on row ops = map (number_on row) (expressions ops)

-- the value is the truth, on the row with these numbers, of the atom of instruction i, whichever instructions computed them
abbrev pub IsTruthIn : List ℤ → ℕ → Bool → Type 0
IsTruthIn numbers i v =
    (row : Row) (ops : List BzOp) (atom : Atom) → numbers ≡ numbers_on row ops
    → slice_get (expressions ops) i ≡ Some (truth atom) → v ≡ holds atom row

-- the value of the integer of instruction a, over the expressions of the instructions before
abbrev pub value_at : Row → List Expression → ℕ → ℤ
value_at row before a = value (term_at before a) row

-- the instruction can be computed in 64 bits: its column is in the row, its operands are earlier integers, its divisor isn't
-- 0, and its value has 64 bits
abbrev pub Computable : Row → List Expression → BzOp → Type 0
Computable row before (Column c) = c < length row
Computable row before (IsTrue c) = c < length row
Computable row before (Const n) = ⊤
Computable row before (Neg a) = IsWhole before a × FitsSigned w64 (neg_ℤ (value_at row before a))
Computable row before (Add a b) = AreWhole before a b × FitsSigned w64 (value_at row before a +ℤ value_at row before b)
Computable row before (Sub a b) = AreWhole before a b × FitsSigned w64 (value_at row before a -ℤ value_at row before b)
Computable row before (Mul a b) = AreWhole before a b × FitsSigned w64 (value_at row before a *ℤ value_at row before b)
Computable row before (Div a b) =
    AreWhole before a b × (value_at row before b ≢ pos 0)
    × FitsSigned w64 (int_div (value_at row before a) (value_at row before b))
Computable row before (Rem a b) = AreWhole before a b × (value_at row before b ≢ pos 0)
Computable row before (Eq a b) = AreWhole before a b
Computable row before (Lt a b) = AreWhole before a b
Computable row before (Le a b) = AreWhole before a b

-- each instruction can be computed, over the expressions of the instructions before it
unfoldable pub AllCompute : Row → List Expression → List BzOp → Type 0
AllCompute row before [] = ⊤
AllCompute row before (op ∷ ops) =
    Computable row before op × AllCompute row (before ++ expression_of before op ∷ []) ops

-- ---- one instruction over numbers

-- the number of an earlier instruction; 0 if there is none
abbrev pub number_at : List ℤ → ℕ → ℤ
number_at numbers a = slice_index_or numbers a (pos 0)

-- the number of an instruction, from a row and the numbers of the instructions before it
abbrev pub result_of : Row → List ℤ → BzOp → ℤ
result_of row numbers (Column c) = in_column row c
result_of row numbers (IsTrue c) = truth_number (int_eq (in_column row c) (pos 1))
result_of row numbers (Const n) = n
result_of row numbers (Neg a) = neg_ℤ (number_at numbers a)
result_of row numbers (Add a b) = number_at numbers a +ℤ number_at numbers b
result_of row numbers (Sub a b) = number_at numbers a -ℤ number_at numbers b
result_of row numbers (Mul a b) = number_at numbers a *ℤ number_at numbers b
result_of row numbers (Div a b) = int_div (number_at numbers a) (number_at numbers b)
result_of row numbers (Rem a b) = int_rem (number_at numbers a) (number_at numbers b)
result_of row numbers (Eq a b) = truth_number (int_eq (number_at numbers a) (number_at numbers b))
result_of row numbers (Lt a b) = truth_number (int_lt (number_at numbers a) (number_at numbers b))
result_of row numbers (Le a b) = truth_number (int_le (number_at numbers a) (number_at numbers b))

-- two operands are among the instructions before
abbrev pub AreIn : List ℤ → ℕ → ℕ → Type 0
AreIn numbers a b = (a < length numbers) × (b < length numbers)

-- the instruction can be computed in 64 bits: its column is in the row, its operands are among the numbers, its divisor
-- isn't 0, and its value has 64 bits
abbrev pub CanApply : Row → List ℤ → BzOp → Type 0
CanApply row numbers (Column c) = c < length row
CanApply row numbers (IsTrue c) = c < length row
CanApply row numbers (Const n) = ⊤
CanApply row numbers (Neg a) = (a < length numbers) × FitsSigned w64 (neg_ℤ (number_at numbers a))
CanApply row numbers (Add a b) = AreIn numbers a b × FitsSigned w64 (number_at numbers a +ℤ number_at numbers b)
CanApply row numbers (Sub a b) = AreIn numbers a b × FitsSigned w64 (number_at numbers a -ℤ number_at numbers b)
CanApply row numbers (Mul a b) = AreIn numbers a b × FitsSigned w64 (number_at numbers a *ℤ number_at numbers b)
CanApply row numbers (Div a b) =
    AreIn numbers a b × (number_at numbers b ≢ pos 0)
    × FitsSigned w64 (int_div (number_at numbers a) (number_at numbers b))
CanApply row numbers (Rem a b) = AreIn numbers a b × (number_at numbers b ≢ pos 0)
CanApply row numbers (Eq a b) = AreIn numbers a b
CanApply row numbers (Lt a b) = AreIn numbers a b
CanApply row numbers (Le a b) = AreIn numbers a b
