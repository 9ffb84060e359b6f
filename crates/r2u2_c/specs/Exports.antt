-- Results of the calls of C, over the state of a monitor, if one is open.

use Rattle.std.specs.Prelude.{ℕ, ◌≡◌, Option, Some, None, Result, Ok, Err, List, ◌∷◌}
use Rattle.mltl_base.specs.declared.program.Program.{Program}
use Rattle.mltl_base.specs.declared.report.Report.{Report}
use Rattle.mltl_base.specs.declared.report.Style.{Style}
use Rattle.mltl_base.specs.Atoms.{Row}
use Rattle.r2u2_monitor.specs.declared.state.State.{State}
use Rattle.r2u2_monitor.specs.Bursts.{OpensFew}
use Rattle.r2u2_monitor.specs.Monitoring.{HasGiven, Stands, TakesRow, open_in, program_of}
use Rattle.r2u2_monitor.specs.declared.row_fault.RowFault.{RowFault}
use Rattle.r2u2_monitor.specs.declared.row_fault.RowFault.TheVariants.{ReportsLeft, NotARow, TooManyRows}
use Rattle.r2u2_monitor.specs.RowFaults.{IsRowCause}
use Rattle.r2u2_c.specs.declared.codes.TheConstants.{NOT_A_ROW, REPORTS_LEFT, TOO_MANY_ROWS}
use Rattle.r2u2_c.specs.declared.fault.Fault.{Fault}
use Rattle.r2u2_c.specs.declared.opened.OpeningFault.{OpeningFault}
use Rattle.r2u2_c.specs.declared.report.Told.{Told}
use Rattle.r2u2_c.specs.declared.row_why.RowWhy.{RowWhy}
use Rattle.r2u2_c.specs.Faults.{opening_fault}
use Rattle.r2u2_c.specs.Opening.{IsFresh, Starts}
use Rattle.r2u2_c.specs.Reports.{shown}

-- no monitor was open, and a fresh monitor of the program that was found is open now
abbrev pub Opens : Result Program OpeningFault → Option State → Option State → Type 0
Opens found None (Some monitor) = Starts found monitor
Opens found None None = ⊥
Opens found (Some before) after = ⊥

-- there is no program, and the fault says why
abbrev pub Refuses : Result Program OpeningFault → Fault → Type 0
Refuses (Err why) fault = fault ≡ opening_fault why
Refuses (Ok program) fault = ⊥

-- the open monitor has the same program, has taken no rows, and has no report to return
abbrev pub BeginsAgain : Option State → Option State → Type 0
BeginsAgain (Some before) (Some after) = IsFresh (program_of before) after
BeginsAgain (Some before) None = ⊥
BeginsAgain None after = ⊥

-- the open monitor has taken the row
abbrev pub Takes : Row → Option State → Option State → Type 0
Takes row (Some before) (Some after) = TakesRow row before after
Takes row (Some before) None = ⊥
Takes row None after = ⊥

-- after the row was taken, at most as many reports are open as the program allows
abbrev pub BringsFew : Row → Option State → Option State → Type 0
BringsFew row (Some before) (Some after) = OpensFew row before after
BringsFew row (Some before) None = ⊥
BringsFew row None after = ⊥

-- the open monitor doesn't take the row, by this cause
abbrev pub HoldsBack : RowFault → Row → Option State → Type 0
HoldsBack why row (Some monitor) = IsRowCause why monitor row
HoldsBack why row None = ⊥

-- each cause as C reads it: its code, and the column of numbers that aren't a row
abbrev pub row_cause : RowFault → RowWhy
row_cause ReportsLeft = record { why = REPORTS_LEFT; column = 0 }
row_cause (NotARow column) = record { why = NOT_A_ROW; column = column }
row_cause TooManyRows = record { why = TOO_MANY_ROWS; column = 0 }

-- the open monitor doesn't take the row, and C reads the cause, whose code the call returns
pub record IsHeldBack (code : ℕ) (read : RowWhy) (row : Row) (before : Option State) : Type 0 where
  pub cause : RowFault
  pub read_is : read ≡ row_cause cause
  pub code_is : code ≡ read.why
  pub held : HoldsBack cause row before

-- C reads the first report that was open; the other reports are still open, after the same rows
pub record TellsFirst (style : Style) (read : Told) (before after : State) : Type 0 where
  pub report : Report
  pub shown_as : read ≡ shown report
  pub first : (rows : List Row) → Stands before rows → open_in style before rows ≡ report ∷ open_in style after rows
  pub stands : (rows : List Row) → Stands before rows → Stands after rows
  pub gives : HasGiven report before after

-- the open monitor has returned this report
abbrev pub Reports : Style → Told → Option State → Option State → Type 0
Reports style read (Some before) (Some after) = TellsFirst style read before after
Reports style read (Some before) None = ⊥
Reports style read None after = ⊥
