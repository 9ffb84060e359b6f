-- Facts that C reads of the state of a monitor, if one is open.

use Rattle.std.specs.Prelude.{ℕ, ◌≡◌, ◌+◌, Result, Ok, Err, Bool, true, false, Option, Some, None, List, [], ◌∷◌, ◌++◌}
use Rattle.std.specs.Prelude.{drop, length, map}
use Rattle.mltl_base.specs.declared.program.Out as out
use Rattle.mltl_base.specs.declared.program.Program.{Program}
use Rattle.mltl_base.specs.declared.program.StoredSignal.{StoredSignal}
use Rattle.mltl_base.specs.Programs.{output_names, outputs}
use Rattle.mltl_base.specs.Reports.{delay}
use Rattle.r2u2_monitor.specs.declared.state.State.{State}
use Rattle.r2u2_monitor.specs.Monitoring.{program_of, taken_by}
use Rattle.r2u2_monitor.specs.Work.{row_work}
use Rattle.r2u2_monitor.specs.Bursts.{most_reports}
use Rattle.r2u2_monitor.specs.Bytes.{monitor_bytes}
use Rattle.r2u2_monitor.specs.declared.bytes.TheConstants.{MONITOR_BYTES}
use Rattle.r2u2_c.specs.declared.opened.OpeningFault.{OpeningFault}

-- the number of columns of a row
abbrev pub open_width : Option State → ℕ
open_width (Some monitor) = (program_of monitor).width
open_width None = 0

-- the number of rows that were taken
abbrev pub open_rows : Option State → ℕ
open_rows (Some monitor) = taken_by monitor
open_rows None = 0

-- the most steps of one row, up to the last of its reports
abbrev pub steps_of : Option State → ℕ
steps_of (Some monitor) = row_work (program_of monitor)
steps_of None = 0

-- the most reports that one row brings
abbrev pub open_most_reports : Option State → ℕ
open_most_reports (Some monitor) = most_reports (program_of monitor)
open_most_reports None = 0

-- the names of the outputs
abbrev pub open_names : Option State → List (List ℕ)
open_names (Some monitor) = output_names (program_of monitor)
open_names None = []

-- the signals that the program stores
abbrev pub open_signals : Option State → List StoredSignal
open_signals (Some monitor) = (program_of monitor).signals
open_signals None = []

-- the counts that are read without the monitor: the rows it has taken, the columns, outputs and signals of its program, and
-- the most steps and reports of a row; 0 if none is open
pub record MirrorsMonitor (monitor : Option State) (taken columns outs stored work most : ℕ) : Type 0 where
  pub rows : taken ≡ open_rows monitor
  pub width : columns ≡ open_width monitor
  pub outputs : outs ≡ length (open_names monitor)
  pub signals : stored ≡ length (open_signals monitor)
  pub steps : work ≡ steps_of monitor
  pub reports : most ≡ open_most_reports monitor

-- the worst-case delays of the outputs
abbrev pub open_delays : Option State → List ℕ
open_delays (Some monitor) = map delay (outputs (program_of monitor))
open_delays None = []

-- each kind of output has a distinct number
abbrev pub output_number : out.Out → ℕ
output_number (out.TheVariants.Formula engine i name) = 1
output_number (out.TheVariants.Contract engine i j name) = 2

-- the kinds of the outputs
abbrev pub output_kinds_of : Option State → List ℕ
output_kinds_of (Some monitor) = map output_number (program_of monitor).outs
output_kinds_of None = []

-- each kind of signal has a distinct number
abbrev pub kind_number : Bool → ℕ
kind_number false = 0
kind_number true = 1

-- the call returned the column and the kind of the signal
pub record TellsSignal (signal : StoredSignal) (column kind : ℕ) : Type 0 where
  pub stands_in : column ≡ signal.column
  pub is_kind : kind ≡ kind_number signal.truth

-- the bytes with a zero as their first, if there is one
abbrev pub ended : List ℕ → List ℕ
ended [] = []
ended (byte ∷ more) = 0 ∷ more

-- the result is the name's length, and the name is at the start of the buffer, before a zero byte if it fits; the bytes
-- after it stay
pub record WritesName (name : List ℕ) (answer : ℕ) (before after : List ℕ) : Type 0 where
  pub long : answer ≡ length name
  pub written : after ≡ name ++ ended (drop (length name) before)

-- the number is the bytes of a monitor of the program that was found: of its block, and of its lists
abbrev pub TellsBytes : Result Program OpeningFault → ℕ → Type 0
TellsBytes (Ok program) told = told ≡ MONITOR_BYTES + monitor_bytes program
TellsBytes (Err why) told = ⊥
