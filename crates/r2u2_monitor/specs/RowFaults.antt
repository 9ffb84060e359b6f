-- Faults of a row.

use Rattle.std.specs.Prelude.{◌≡◌, ⊤, ◌⊎◌, ℕ, ◌+◌, ◌<◌, ℤ, pos, FitsSigned, List, ◌++◌, length, codes, decimal}
use Rattle.std.specs.Int.{w32}
use Rattle.mltl_base.specs.declared.limits.TheConstants.{MAX_MISSION}
use Rattle.mltl_base.specs.declared.program.Program.{Program}
use Rattle.mltl_base.specs.Atoms.{Row, in_column}
use Rattle.mltl_base.specs.Programs.{IsFit}
use Rattle.trace_feed.specs.declared.fields.Reading.{Reading}
use Rattle.trace_feed.specs.declared.fields.Reading.TheVariants.{Unread, Whole, Truth}
use Rattle.trace_feed.specs.Rows.{reading_of}
use Rattle.r2u2_monitor.specs.declared.row_fault.RowFault.{RowFault}
use Rattle.r2u2_monitor.specs.declared.row_fault.RowFault.TheVariants.{ReportsLeft, NotARow, TooManyRows}
use Rattle.r2u2_monitor.specs.declared.state.State.{State}
use Rattle.r2u2_monitor.specs.Monitoring.{IsDrained, program_of, taken_by}

-- a column with this reading can hold the number: any number, a number of 32 bits with a sign, or 0 or 1
abbrev pub CanHold : Reading → ℤ → Type 0
CanHold Unread n = ⊤
CanHold Whole n = FitsSigned w32 n
CanHold Truth n = (n ≡ pos 0) ⊎ (n ≡ pos 1)

-- the number of a row in this column is one that the column, with its reading, can hold
abbrev pub FitsColumn : (ℕ → Reading) → Row → ℕ → Type 0
FitsColumn reading row column = CanHold (reading column) (in_column row column)

-- the column is the first column of a row that can't hold its number
pub record IsFirstUnfit (reading : ℕ → Reading) (row : Row) (column : ℕ) : Type 0 where
  pub within : column < length row
  pub unfit : ¬ FitsColumn reading row column
  pub before : (c : ℕ) → c < column → FitsColumn reading row c

-- The numbers aren't a row of the program from this column on. It is the first column without a number if they are too few,
-- the first column past the width if they are too many, and else the first column that can't hold its number.
pub record IsUnfitAt (program : Program) (row : Row) (column : ℕ) : Type 0 where
  pub unfit : ¬ IsFit program row
  pub few : length row < program.width → column ≡ length row
  pub many : program.width < length row → column ≡ program.width
  pub first : length row ≡ program.width → IsFirstUnfit (reading_of program.bz) row column

-- all reports were returned, the numbers are a row of the program, and fewer than MAX_MISSION rows were taken
pub record IsReady (monitor : State) (row : Row) : Type 0 where
  pub drained : IsDrained monitor
  pub fit : IsFit (program_of monitor) row
  pub early : taken_by monitor < MAX_MISSION

-- the cause is the first obstacle of the row: reports that are left, then the row itself, then the number of rows
abbrev pub IsRowCause : RowFault → State → Row → Type 0
IsRowCause ReportsLeft monitor row = ¬ IsDrained monitor
IsRowCause (NotARow column) monitor row = IsDrained monitor × IsUnfitAt (program_of monitor) row column
IsRowCause TooManyRows monitor row =
    IsDrained monitor × IsFit (program_of monitor) row × (taken_by monitor ≡ MAX_MISSION)

-- the message of a fault of a row; a column counts from 1 here
abbrev pub row_fault_text : RowFault → List ℕ
row_fault_text ReportsLeft = codes "reports are left"
row_fault_text (NotARow column) = codes "not a number of the right kind in column " ++ decimal (column + 1)
row_fault_text TooManyRows = codes "too many rows"
