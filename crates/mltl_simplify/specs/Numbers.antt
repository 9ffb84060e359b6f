-- The numbers of integer expressions without signals.
-- A reader of the contracts needs this file.

use Rattle.std.specs.Prelude.{◌≡◌, ◌≢◌, ℤ, pos, neg_ℤ, ◌+ℤ◌, ◌-ℤ◌, ◌*ℤ◌, int_div, int_rem, int_lt, int_le, Bool, not}
use Rattle.std.specs.Prelude.{FitsSigned, if◌then◌else◌, Option, Some, None, [], ⊤}
use Rattle.std.specs.Int.{w64}
use Rattle.std.specs.Ordering.{int_eq}
use Rattle.mltl_base.specs.declared.operators.ArithOp as arith
use Rattle.mltl_base.specs.declared.operators.CompareOp as compare
use Rattle.mltl_base.specs.Atoms.{Term, value}
use Rattle.mltl_simplify.specs.Simplify.{reads_signal}

-- the number of an expression without signals, which is the same on each row
abbrev pub number_of : Term → Option ℤ
number_of a = if reads_signal a then None else Some (value a [])

-- the result of an operation on two numbers
abbrev pub computed_number : arith.ArithOp → ℤ → ℤ → ℤ
computed_number arith.TheVariants.Add x y = x +ℤ y
computed_number arith.TheVariants.Sub x y = x -ℤ y
computed_number arith.TheVariants.Mul x y = x *ℤ y
computed_number arith.TheVariants.Div x y = int_div x y
computed_number arith.TheVariants.Rem x y = int_rem x y

-- the divisor, if there is one, isn't 0
abbrev pub CanDivideBy : arith.ArithOp → ℤ → Type 0
CanDivideBy arith.TheVariants.Div y = y ≢ pos 0
CanDivideBy arith.TheVariants.Rem y = y ≢ pos 0
CanDivideBy _ y = ⊤

-- the operation can be computed in 64 bits
abbrev pub CanCompute : arith.ArithOp → ℤ → ℤ → Type 0
CanCompute op x y = CanDivideBy op y × FitsSigned w64 (computed_number op x y)

-- the number that is found for a negative is right, if the operand's number is known and 64 bits suffice; none is found if
-- it isn't known
abbrev pub IsNegated : Option ℤ → Option ℤ → Type 0
IsNegated None found = found ≡ None
IsNegated (Some x) found = FitsSigned w64 (neg_ℤ x) → found ≡ Some (neg_ℤ x)

-- the number that is found for an operation is right, if both operands' numbers are known and 64 bits suffice; none is found
-- if one isn't known
abbrev pub IsComputed : arith.ArithOp → Option ℤ → Option ℤ → Option ℤ → Type 0
IsComputed op (Some x) (Some y) found = CanCompute op x y → found ≡ Some (computed_number op x y)
IsComputed op None y found = found ≡ None
IsComputed op (Some x) None found = found ≡ None

-- the comparison of two numbers holds
abbrev pub numbers_compare : compare.CompareOp → ℤ → ℤ → Bool
numbers_compare compare.TheVariants.Eq x y = int_eq x y
numbers_compare compare.TheVariants.Ne x y = not (int_eq x y)
numbers_compare compare.TheVariants.Lt x y = int_lt x y
numbers_compare compare.TheVariants.Le x y = int_le x y
numbers_compare compare.TheVariants.Gt x y = int_lt y x
numbers_compare compare.TheVariants.Ge x y = int_le y x

-- the result of a comparison of two numbers, if both are known
abbrev pub compared_numbers : compare.CompareOp → Option ℤ → Option ℤ → Option Bool
compared_numbers op (Some x) (Some y) = Some (numbers_compare op x y)
compared_numbers op (Some x) None = None
compared_numbers op None y = None
