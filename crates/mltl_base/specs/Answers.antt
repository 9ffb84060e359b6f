-- The result of a range, or the reason why there is none. Contracts use this file.

use Rattle.std.specs.Prelude.{◌≡◌, Result, Ok, Err}
use Rattle.mltl_base.specs.Ranges.{Range, Ranged, divisor, wide, NoRange}
use Rattle.mltl_base.specs.declared.range.NoRange as answer
use Rattle.mltl_base.specs.declared.range.NoRange.TheVariants.{Divisor, Wide}

-- the reason of an error
abbrev pub reason : answer.NoRange → NoRange
reason Divisor = divisor
reason Wide = wide

-- a result is the defined range, or the reason why there is none
abbrev pub IsRangeOf : Result Range answer.NoRange → Ranged → Type 0
IsRangeOf (Ok range) defined = defined ≡ Ok range
IsRangeOf (Err why) defined = defined ≡ Err (reason why)
