-- The program of a monitor that is opened, or the fault.

use Rattle.std.specs.Prelude.{ℕ, ◌≡◌, ◌==◌, nat_lt, if◌then◌else◌, List, [], length}
use Rattle.std.specs.Prelude.{Result, Ok, Err}
use Rattle.mltl_base.specs.declared.limits.TheConstants.{MAX_LINE_BYTES}
use Rattle.mltl_base.specs.declared.program.Program.{Program}
use Rattle.obs_binary.specs.declared.file_fault.FileFault.{FileFault}
use Rattle.obs_binary.specs.declared.file_fault.FileFault.TheVariants as file
use Rattle.obs_binary.specs.Faults.{opened}
use Rattle.trace_columns.specs.declared.header_fault.HeaderFault.{HeaderFault}
use Rattle.trace_columns.specs.declared.header_fault.HeaderFault.TheVariants as header
use Rattle.trace_columns.specs.Header.{bound_to}
use Rattle.r2u2_monitor.specs.declared.state.State.{State}
use Rattle.r2u2_monitor.specs.Bytes.{bytes_of, monitor_bytes}
use Rattle.r2u2_monitor.specs.Monitoring.{IsDrained, Stands, program_of}
use Rattle.r2u2_c.specs.declared.opened.OpeningFault.{OpeningFault}
use Rattle.r2u2_c.specs.declared.opened.OpeningFault.TheVariants as opening

-- the fault of a file as the fault of an opening
abbrev pub of_file : FileFault → OpeningFault
of_file (file.Program fault) = opening.Program fault
of_file file.Memory = opening.Memory

-- the fault of a header as the fault of an opening
abbrev pub of_header : HeaderFault → OpeningFault
of_header header.NoHeader = opening.NoHeader
of_header (header.Missing name) = opening.Missing name
of_header (header.Twice name) = opening.Twice name
of_header header.Memory = opening.Memory

-- the result, with its fault as the fault of an opening
abbrev pub with_fault : {E : Type 0} → (E → OpeningFault) → Result Program E → Result Program OpeningFault
with_fault opening_of (Ok program) = Ok program
with_fault opening_of (Err fault) = Err (opening_of fault)

-- the program in these bytes, or their first fault
abbrev pub opened_by : List ℕ → Result Program OpeningFault
opened_by bytes = with_fault of_file (opened bytes)

-- a program with its signals in the columns that a header names; a program of version 1 stores no signals
abbrev pub bound_by : List ℕ → Program → Result Program OpeningFault
bound_by line program =
    if program.version == 2
    then (if nat_lt (length line) MAX_LINE_BYTES then with_fault of_header (bound_to program line)
    else Err opening.LongHeader)
    else Err opening.NoSignals

-- the program that was found, with its signals in the columns that a header names
abbrev pub bound_if : List ℕ → Result Program OpeningFault → Result Program OpeningFault
bound_if line (Ok program) = bound_by line program
bound_if line (Err why) = Err why

-- the program in these bytes under a header, or the first fault: of the bytes, then of the header
abbrev pub program_under : List ℕ → List ℕ → Result Program OpeningFault
program_under line bytes = bound_if line (opened_by bytes)

-- the monitor has taken no rows, and has no report to return
pub record IsFresh (found : Program) (monitor : State) : Type 0 where
  pub program : program_of monitor ≡ found
  pub stands : Stands monitor []
  pub drained : IsDrained monitor

-- the monitor is a fresh monitor of the program that was found, and its lists hold as many bytes as the program says
abbrev pub Starts : Result Program OpeningFault → State → Type 0
Starts (Ok program) monitor = IsFresh program monitor × (bytes_of monitor ≡ monitor_bytes program)
Starts (Err why) monitor = ⊥
