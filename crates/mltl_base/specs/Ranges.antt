-- The range of a whole-number expression: the least and the greatest value that it may have, computed from the ranges of its
-- operands.
-- A reader of the contracts needs this file.

use Rattle.std.specs.Prelude.{◌-◌, ℤ, pos, negsuc, neg_ℤ, ◌+ℤ◌, ◌-ℤ◌, ◌*ℤ◌, ◌≤ℤ◌, int_div, int_le, unsigned_abs, Bool}
use Rattle.std.specs.Prelude.{not, ◌&&◌, if◌then◌else◌, FitsSigned, Result, Ok, Err, ⊤}
use Rattle.std.specs.Ordering.{int_eq}
use Rattle.std.specs.Int.{int_min, int_max, w32}
use Rattle.mltl_base.specs.Atoms.{Row, Term, column, constant, negative, plus, minus, times, quotient, remainder}
use Rattle.mltl_base.specs.Atoms.{in_column}

-- the integers from the least to the greatest
pub record Range : Type 0 where
  pub least : ℤ
  pub greatest : ℤ

-- the reason why an expression has no range: a divisor that isn't a single number other than 0, or a range that leaves 64
-- bits
pub data NoRange : Type 0 where
  divisor : NoRange
  wide : NoRange

-- a range, or the reason why there is none
abbrev pub Ranged : Type 0
Ranged = Result Range NoRange

-- the range from l to g
abbrev pub range_from : ℤ → ℤ → Range
range_from l g = record { least = l; greatest = g }

-- a number lies in a range
abbrev pub IsIn : Range → ℤ → Type 0
IsIn r z = (r.least ≤ℤ z) × (z ≤ℤ r.greatest)

-- the least integer of 64 bits with a sign
abbrev pub least_word : ℤ
least_word = negsuc 9223372036854775807

-- the greatest integer of 64 bits with a sign
abbrev pub greatest_word : ℤ
greatest_word = pos 9223372036854775807

-- the range, or a fault if it leaves 64 bits
abbrev pub in_word : Range → Ranged
in_word r = if int_le least_word r.least && int_le r.greatest greatest_word then Ok r else Err wide

-- the range of a signal: 32 bits with a sign
abbrev pub signal_range : Range
signal_range = range_from (negsuc 2147483647) (pos 2147483647)

-- the range of -x, from the range of x
abbrev pub negated : Range → Range
negated r = range_from (neg_ℤ r.greatest) (neg_ℤ r.least)

-- the range of x + y, from the ranges of x and y
abbrev pub summed : Range → Range → Range
summed r s = range_from (r.least +ℤ s.least) (r.greatest +ℤ s.greatest)

-- the range of x - y, from the ranges of x and y
abbrev pub lessened : Range → Range → Range
lessened r s = range_from (r.least -ℤ s.greatest) (r.greatest -ℤ s.least)

-- the range of x * y: from the least to the greatest of the four products of the ends
abbrev pub multiplied : Range → Range → Range
multiplied r s =
    range_from
    (int_min (int_min (r.least *ℤ s.least) (r.least *ℤ s.greatest))
    (int_min (r.greatest *ℤ s.least) (r.greatest *ℤ s.greatest)))
    (int_max (int_max (r.least *ℤ s.least) (r.least *ℤ s.greatest))
    (int_max (r.greatest *ℤ s.least) (r.greatest *ℤ s.greatest)))

-- the range of x / c: from the least to the greatest of the two quotients of the ends
abbrev pub divided : Range → ℤ → Range
divided r c =
    range_from (int_min (int_div r.least c) (int_div r.greatest c)) (int_max (int_div r.least c) (int_div r.greatest c))

-- the range of x % c: up to one less than the divisor's magnitude, with the signs that the left operand may have
abbrev pub left_over : Range → ℤ → Range
left_over r c =
    if int_le (pos 0) r.least then range_from (pos 0) (pos (unsigned_abs c - 1))
    else if int_le r.greatest (pos 0) then range_from (neg_ℤ (pos (unsigned_abs c - 1))) (pos 0)
    else range_from (neg_ℤ (pos (unsigned_abs c - 1))) (pos (unsigned_abs c - 1))

-- true if the range of a divisor is a single number other than 0
abbrev pub divides : Range → Bool
divides s = int_eq s.least s.greatest && not (int_eq s.least (pos 0))

-- the range computed from the operand's range, if it has one
abbrev pub over : (Range → Range) → Ranged → Ranged
over f (Ok r) = in_word (f r)
over f (Err why) = Err why

-- the range computed from the ranges of both operands, if they have one; the left operand's fault comes first
abbrev pub over_both : (Range → Range → Range) → Ranged → Ranged → Ranged
over_both f (Ok r) (Ok s) = in_word (f r s)
over_both f (Ok r) (Err why) = Err why
over_both f (Err why) s = Err why

-- the range computed from the ranges of both operands, if the right one is a divisor
abbrev pub over_divisor : (Range → ℤ → Range) → Ranged → Ranged → Ranged
over_divisor f (Ok r) (Ok s) = if divides s then in_word (f r s.least) else Err divisor
over_divisor f (Ok r) (Err why) = Err why
over_divisor f (Err why) s = Err why

-- the range of an expression, or the reason why it has none
unfoldable pub range : Term → Ranged
range (column c) = Ok signal_range
range (constant n) = in_word (range_from n n)
range (negative a) = over negated (range a)
range (plus a b) = over_both summed (range a) (range b)
range (minus a b) = over_both lessened (range a) (range b)
range (times a b) = over_both multiplied (range a) (range b)
range (quotient a b) = over_divisor divided (range a) (range b)
range (remainder a b) = over_divisor left_over (range a) (range b)

-- each signal of the expression has 32 bits on the row
unfoldable pub FitsTerm : Row → Term → Type 0
FitsTerm row (column c) = FitsSigned w32 (in_column row c)
FitsTerm row (constant n) = ⊤
FitsTerm row (negative a) = FitsTerm row a
FitsTerm row (plus a b) = FitsTerm row a × FitsTerm row b
FitsTerm row (minus a b) = FitsTerm row a × FitsTerm row b
FitsTerm row (times a b) = FitsTerm row a × FitsTerm row b
FitsTerm row (quotient a b) = FitsTerm row a × FitsTerm row b
FitsTerm row (remainder a b) = FitsTerm row a × FitsTerm row b
