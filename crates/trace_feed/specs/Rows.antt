-- The meaning of a line of a trace for a program: a row, nothing, or its first fault.

use Rattle.std.specs.Prelude.{◌≡◌, ℕ, suc, ◌==◌, ℤ, pos, neg_ℤ, int_le, Bool, false, ◌&&◌, ◌||◌, if◌then◌else◌, nat_lt}
use Rattle.std.specs.Prelude.{List, [], ◌∷◌, length, take, drop, Result, Ok, Err}
use Rattle.std.specs.Char.{is_ascii_digit}
use Rattle.std.specs.List.{list_all, list_any, slice_split}
use Rattle.std.specs.Ordering.{int_eq}
use Rattle.std.specs.Str.Parse.{signed_digits_value, without_leading_sign}
use Rattle.mltl_base.specs.Atoms.{Row}
use Rattle.mltl_base.specs.declared.operators.BzOp as bz
use Rattle.mltl_base.specs.declared.program.Program.{Program}
use Rattle.mltl_base.specs.Blanks.{is_blank_line}
use Rattle.trace_columns.specs.Blanks.{trimmed}
use Rattle.trace_feed.specs.declared.fields.FieldFault.{FieldFault}
use Rattle.trace_feed.specs.declared.fields.FieldFault.TheVariants.{NotWhole, OutOfRange}
use Rattle.trace_feed.specs.declared.fields.Reading.{Reading}
use Rattle.trace_feed.specs.declared.fields.Reading.TheVariants.{Unread, Whole, Truth}
use Rattle.trace_feed.specs.declared.rows.RowAnswer as answer

-- true if the byte is a comma, which ends a field
abbrev pub is_comma : ℕ → Bool
is_comma byte = byte == 44

-- the fields of a line, which lie between its commas
abbrev pub fields_of : List ℕ → List (List ℕ)
fields_of line = slice_split is_comma line

-- the fields from a place on; none past the end
abbrev pub fields_from : List ℕ → ℕ → List (List ℕ)
fields_from line at = if nat_lt (length line) at then [] else fields_of (drop at line)

-- true if the field is one or more decimal digits, after an optional sign
abbrev pub is_numeral : List ℕ → Bool
is_numeral field =
    nat_lt 0 (length (without_leading_sign field)) && list_all is_ascii_digit (without_leading_sign field)

-- true if the integer has 32 bits with its sign
abbrev pub has_32_bits : ℤ → Bool
has_32_bits n = int_le (neg_ℤ (pos 2147483648)) n && int_le n (pos 2147483647)

-- true if the integer is a Boolean: 0 or 1
abbrev pub is_bit : ℤ → Bool
is_bit n = int_eq n (pos 0) || int_eq n (pos 1)

-- the number, or a fault if it isn't in the range
abbrev pub in_range : (ℤ → Bool) → ℤ → Result ℤ FieldFault
in_range range n = if range n then Ok n else Err OutOfRange

-- the number of a field, or a fault if it has none or the number isn't in the range
abbrev pub field_number : (ℤ → Bool) → List ℕ → Result ℤ FieldFault
field_number range field = if is_numeral field then in_range range (signed_digits_value 10 field) else Err NotWhole

-- the value of a field in a column with this reading; an unread column may hold anything, and counts as 0
abbrev pub field_value : Reading → List ℕ → Result ℤ FieldFault
field_value Unread field = Ok (pos 0)
field_value Whole field = field_number has_32_bits (trimmed field)
field_value Truth field = field_number is_bit (trimmed field)

-- true if the instruction reads the column as a Boolean
abbrev pub reads_truth : ℕ → bz.BzOp → Bool
reads_truth c (bz.TheVariants.IsTrue d) = d == c
reads_truth c op = false

-- true if the instruction reads the column as an integer
abbrev pub reads_whole : ℕ → bz.BzOp → Bool
reads_whole c (bz.TheVariants.Column d) = d == c
reads_whole c op = false

-- the reading of a column: Boolean if one of the instructions reads a Boolean there
abbrev pub reading_of : List bz.BzOp → ℕ → Reading
reading_of ops c =
    if list_any (reads_truth c) ops then Truth
    else if list_any (reads_whole c) ops then Whole
    else Unread

-- a row with a number for each column; a blank line, which is no row; a line with fewer fields than columns; the first
-- column whose field isn't an integer, or isn't in its range
pub data LineMeaning : Type 0 where
  row : Row → LineMeaning
  blank : LineMeaning
  too_few : LineMeaning
  not_whole : ℕ → LineMeaning
  out_of_range : ℕ → LineMeaning

-- a number in front of a row; a fault stays
abbrev pub put_in_front : ℤ → LineMeaning → LineMeaning
put_in_front n (row values) = row (n ∷ values)
put_in_front n blank = blank
put_in_front n too_few = too_few
put_in_front n (not_whole c) = not_whole c
put_in_front n (out_of_range c) = out_of_range c

-- the meaning of the field of column c, followed by the meaning of the others
abbrev pub field_before : ℕ → Result ℤ FieldFault → LineMeaning → LineMeaning
field_before c (Ok n) others = put_in_front n others
field_before c (Err NotWhole) others = not_whole c
field_before c (Err OutOfRange) others = out_of_range c

-- the row of the fields of column c and the columns after it, or the first fault
unfoldable pub row_from : (ℕ → Reading) → ℕ → List (List ℕ) → LineMeaning
row_from reading c [] = row []
row_from reading c (field ∷ fields) = field_before c (field_value (reading c) field) (row_from reading (suc c) fields)

-- the meaning of a line; fields past the width aren't read
abbrev pub line_meaning : Program → List ℕ → LineMeaning
line_meaning program line =
    if is_blank_line line then blank
    else if nat_lt (length (fields_of line)) program.width then too_few
    else row_from (reading_of program.bz) 0 (take program.width (fields_of line))

-- a result and its numbers are the meaning of a line
abbrev pub IsMeaningOf : answer.RowAnswer → Row → LineMeaning → Type 0
IsMeaningOf answer.TheVariants.Good values meaning = meaning ≡ row values
IsMeaningOf answer.TheVariants.Blank values meaning = meaning ≡ blank
IsMeaningOf answer.TheVariants.Width values meaning = meaning ≡ too_few
IsMeaningOf (answer.TheVariants.NotWhole c) values meaning = meaning ≡ not_whole c
IsMeaningOf (answer.TheVariants.OutOfRange c) values meaning = meaning ≡ out_of_range c
