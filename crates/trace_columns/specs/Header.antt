-- The meaning of a trace's header: the columns, and the signals that have them.

use Rattle.std.specs.Prelude.{ℕ, ◌≢◌, ◌<◌, ◌==◌, Bool, if◌then◌else◌, Option, Some, None, List, [], ◌∷◌, length, drop}
use Rattle.std.specs.Prelude.{map, count_by, slice_index, slice_index_or, Result, Ok, Err}
use Rattle.std.specs.List.{position_or_len, range_with_len}
use Rattle.std.specs.Str.{bytes_eq}
use Rattle.csv.specs.Machine.{Read, next_record}
use Rattle.csv.specs.Reading.{default_config, strip_bom}
use Rattle.csv.specs.declared.parser.State.TheVariants as state
use Rattle.mltl_base.specs.declared.program.Columns.{Columns}
use Rattle.mltl_base.specs.declared.program.Program.{Program}
use Rattle.obs_verify.specs.Bound.{bound}
use Rattle.trace_columns.specs.Blanks.{trimmed}
use Rattle.trace_columns.specs.declared.header_fault.HeaderFault.{HeaderFault}
use Rattle.trace_columns.specs.declared.header_fault.HeaderFault.TheVariants.{NoHeader, Missing, Twice}

-- true if the line begins with the number sign, as a header does
abbrev pub begins_header : List ℕ → Bool
begins_header line = slice_index line 0 == 35

-- the fields of a record; none without a record
abbrev pub record_fields : Option Read → List (List ℕ)
record_fields None = []
record_fields (Some read) = read.0

-- the fields of the first record of a text, as csv reads it in its default form
unfoldable pub first_record : List ℕ → List (List ℕ)
first_record text = record_fields (next_record default_config state.StartRecord [] [] (strip_bom text))

-- the names of the columns: the fields of the record after the number sign, without the blanks around them
abbrev pub names_of : List ℕ → List (List ℕ)
names_of line = map trimmed (first_record (drop 1 line))

-- the number of columns that have a name
abbrev pub times : List (List ℕ) → List ℕ → ℕ
times names name = count_by (bytes_eq name) names

-- the first column that has a name
abbrev pub first_place : List (List ℕ) → List ℕ → ℕ
first_place names name = position_or_len (bytes_eq name) names

-- the only column with the signal's name, else a fault
abbrev pub column_of : List (List ℕ) → List ℕ → Result ℕ HeaderFault
column_of names signal =
    if times names signal == 0 then Err (Missing signal)
    else if times names signal == 1 then Ok (first_place names signal)
    else Err (Twice signal)

-- a column in front of others; the first fault stays
abbrev pub in_front : Result ℕ HeaderFault → Result (List ℕ) HeaderFault → Result (List ℕ) HeaderFault
in_front (Ok column) (Ok columns) = Ok (column ∷ columns)
in_front (Ok column) (Err fault) = Err fault
in_front (Err fault) others = Err fault

-- the columns of signals in order, or the fault of the first signal that has one
abbrev pub columns_of : List (List ℕ) → List (List ℕ) → Result (List ℕ) HeaderFault
columns_of names [] = Ok []
columns_of names (signal ∷ signals) = in_front (column_of names signal) (columns_of names signals)

-- the columns of a row of this width
abbrev pub of_width : ℕ → Result (List ℕ) HeaderFault → Result Columns HeaderFault
of_width width (Ok columns) = Ok (record { width = width; of_signal = columns })
of_width width (Err fault) = Err fault

-- the columns that a line gives signals with these names, or its fault
abbrev pub header_meaning : List (List ℕ) → List ℕ → Result Columns HeaderFault
header_meaning signals line =
    if begins_header line then of_width (length (names_of line)) (columns_of (names_of line) signals) else Err NoHeader

-- a program over the columns that were found, or the fault
abbrev pub bound_over : Program → Result Columns HeaderFault → Result Program HeaderFault
bound_over program (Ok columns) = Ok (bound program columns.width columns.of_signal)
bound_over program (Err fault) = Err fault

-- a program with its stored signals in the columns that a header names
abbrev pub bound_to : Program → List ℕ → Result Program HeaderFault
bound_to program line = bound_over program (header_meaning (map (λ s. s.name) program.signals) line)

-- the columns without a header: each signal in the column of its number
abbrev pub columns_in_order : ℕ → Columns
columns_in_order count = record { width = count; of_signal = range_with_len 0 count }

-- no two names are the same
abbrev pub AreDifferentNames : List (List ℕ) → Type 0
AreDifferentNames names = (i j : ℕ) → i < j → j < length names → slice_index_or names i [] ≢ slice_index_or names j []
