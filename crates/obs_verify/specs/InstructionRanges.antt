-- The range of an instruction of the Booleanizer, from the ranges of the instructions before it.

use Rattle.std.specs.Prelude.{ℕ, ◌≡◌, ◌<◌, pos, Ok, List, length, slice_index_or, ⊤}
use Rattle.mltl_base.specs.declared.operators.BzOp as bz
use Rattle.mltl_base.specs.Programs.{expressions, term_at}
use Rattle.mltl_base.specs.Ranges.{Range, Ranged, divided, in_word, left_over, lessened, multiplied, negated, over}
use Rattle.mltl_base.specs.Ranges.{over_both, over_divisor, range, range_from, signal_range, summed}

-- the range of an earlier instruction
abbrev pub range_at : List Range → ℕ → Ranged
range_at before a = Ok (slice_index_or before a (range_from (pos 0) (pos 0)))

-- the range of an instruction, from the ranges before it; a Boolean has the range of 0
abbrev pub range_over : List Range → bz.BzOp → Ranged
range_over before (bz.TheVariants.Column c) = Ok signal_range
range_over before (bz.TheVariants.IsTrue c) = Ok (range_from (pos 0) (pos 0))
range_over before (bz.TheVariants.Const n) = in_word (range_from n n)
range_over before (bz.TheVariants.Neg a) = over negated (range_at before a)
range_over before (bz.TheVariants.Add a b) = over_both summed (range_at before a) (range_at before b)
range_over before (bz.TheVariants.Sub a b) = over_both lessened (range_at before a) (range_at before b)
range_over before (bz.TheVariants.Mul a b) = over_both multiplied (range_at before a) (range_at before b)
range_over before (bz.TheVariants.Div a b) = over_divisor divided (range_at before a) (range_at before b)
range_over before (bz.TheVariants.Rem a b) = over_divisor left_over (range_at before a) (range_at before b)
range_over before (bz.TheVariants.Eq a b) = Ok (range_from (pos 0) (pos 0))
range_over before (bz.TheVariants.Lt a b) = Ok (range_from (pos 0) (pos 0))
range_over before (bz.TheVariants.Le a b) = Ok (range_from (pos 0) (pos 0))

-- the ranges are the ranges of the first instructions, in order
pub record AreRanges (bz : List bz.BzOp) (ranges : List Range) : Type 0 where
  pub each : (k : ℕ) → k < length ranges → range (term_at (expressions bz) k) ≡ range_at ranges k

-- the integers that an instruction reads come before number n
abbrev pub ReadsBefore : ℕ → bz.BzOp → Type 0
ReadsBefore n (bz.TheVariants.Column c) = ⊤
ReadsBefore n (bz.TheVariants.IsTrue c) = ⊤
ReadsBefore n (bz.TheVariants.Const k) = ⊤
ReadsBefore n (bz.TheVariants.Neg a) = a < n
ReadsBefore n (bz.TheVariants.Add a b) = (a < n) × (b < n)
ReadsBefore n (bz.TheVariants.Sub a b) = (a < n) × (b < n)
ReadsBefore n (bz.TheVariants.Mul a b) = (a < n) × (b < n)
ReadsBefore n (bz.TheVariants.Div a b) = (a < n) × (b < n)
ReadsBefore n (bz.TheVariants.Rem a b) = (a < n) × (b < n)
ReadsBefore n (bz.TheVariants.Eq a b) = (a < n) × (b < n)
ReadsBefore n (bz.TheVariants.Lt a b) = (a < n) × (b < n)
ReadsBefore n (bz.TheVariants.Le a b) = (a < n) × (b < n)
