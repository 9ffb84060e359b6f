-- The readings of the columns of a row.

use Rattle.std.specs.Prelude.{ℕ, ◌≡◌, ◌≢◌, ◌+◌, ◌-◌, ◌<◌, ◌≤◌, ◌++◌, ℤ, pos, List, length, map, slice_index}
use Rattle.std.specs.Prelude.{slice_index_or, drop, replicate, take, cond, ◌==◌, nat_lt, if◌then◌else◌, Result, Ok}
use Rattle.std.specs.List.{range_with_len}
use Rattle.std.specs.Str.Parse.{starts_with_minus}
use Rattle.mltl_base.specs.declared.program.Program.{Program}
use Rattle.trace_feed.specs.declared.fields.FieldFault.{FieldFault}
use Rattle.trace_feed.specs.declared.fields.Reading.{Reading}
use Rattle.trace_feed.specs.declared.fields.Reading.TheVariants.{Unread, Whole, Truth}
use Rattle.mltl_base.specs.Atoms.{Row}
use Rattle.trace_feed.specs.declared.unread_fields.Spot.{Spot}
use Rattle.trace_feed.specs.Rows.{LineMeaning, fields_from, has_32_bits, in_range, is_bit, reading_of, row_from}
use Rattle.trace_feed.specs.Rows.{too_few}

-- the reading of each column of the program
abbrev pub readings_of : Program → List Reading
readings_of program = map (reading_of program.bz) (range_with_len 0 program.width)

-- each member is the reading of its column
abbrev pub AreReadings : (ℕ → Reading) → List Reading → Type 0
AreReadings reading readings = (k : ℕ) (d : Reading) → k < length readings → slice_index_or readings k d ≡ reading k

-- the stronger of two readings: a Boolean, then an integer
abbrev pub stronger : Reading → Reading → Reading
stronger Truth second = Truth
stronger Whole Truth = Truth
stronger Whole Whole = Whole
stronger Whole Unread = Whole
stronger Unread second = second

-- the number of bytes of a leading sign
abbrev pub sign_length : List ℕ → ℕ
sign_length field = cond (starts_with_minus field) 1 (cond (slice_index field 0 == 43) 1 0)

-- the value of a number in a column with this reading
abbrev pub read_value : Reading → ℤ → Result ℤ FieldFault
read_value Unread n = Ok (pos 0)
read_value Whole n = in_range has_32_bits n
read_value Truth n = in_range is_bit n

-- the meaning of the fields of column c and the n - 1 columns after it: too few fields, or the row, or its first fault
abbrev pub fields_meaning : (ℕ → Reading) → ℕ → ℕ → List (List ℕ) → LineMeaning
fields_meaning reading c n fields = if nat_lt (length fields) n then too_few else row_from reading c (take n fields)

-- the unread columns are skipped with their fields, up to the first that is read or the last one, and their number is 0
pub record PassesOver (readings : List Reading) (line : List ℕ) (old new : Row) (from to : Spot) : Type 0 where
  pub onward : from.column ≤ to.column
  pub left : to.column < length readings
  pub within : to.at ≤ length line + 1
  pub unread : (k : ℕ) → from.column ≤ k → k < to.column → slice_index_or readings k Unread ≡ Unread
  pub all : to.column + 1 < length readings → slice_index_or readings to.column Unread ≢ Unread
  pub after : fields_from line to.at ≡ drop (to.column - from.column) (fields_from line from.at)
  pub zeros : take to.column new ≡ take from.column old ++ replicate (to.column - from.column) (pos 0)
