-- The result of a run, by the lines of its trace, with the output and the monitor that is kept.

use Rattle.std.specs.Prelude.{◌≡◌, ◌≢◌, ℕ, ◌⊎◌, Bool, true, false, if◌then◌else◌, Option, Some, None}
use Rattle.std.specs.Prelude.{Result, Ok, Err, List, []}
use Rattle.mltl_base.specs.declared.program.Program.{Program}
use Rattle.tool_io.specs.declared.host.Place.TheVariants.{Trace, Out}
use Rattle.tool_io.specs.Log.{IsProperFront}
use Rattle.tool_io.specs.Cutting.{lines_of}
use Rattle.tool_words.specs.R2u2Words.{RunAsked}
use Rattle.r2u2_monitor.specs.declared.state.State.{State}
use Rattle.r2u2_watch.specs.Trace.{TraceRows, Stop, Clean, Past, Bad, stamped_rows, trace_rows, due}
use Rattle.r2u2_watch.specs.Watch.{HasTold, HasFront}
use Rattle.tool_words.specs.declared.status.Status.{Status}
use Rattle.tool_words.specs.declared.status.Status.TheVariants.{Done, Refused, BadProgram, BadTrace, TooLong, ReadFault}
use Rattle.tool_words.specs.declared.status.Status.TheVariants.{WriteFault, Memory}

-- the rows of the lines of a trace for the program that runs over them, within the mission time of the arguments: stamped
-- rows if the arguments request them; the first line has the number `first`
abbrev pub rows_by : RunAsked → Program → ℕ → List (List ℕ) → TraceRows
rows_by asked program first raws =
    if asked.timed then stamped_rows program asked.mission first raws else trace_rows program asked.mission first raws

-- the rows in the bytes of a trace
abbrev pub rows_over : RunAsked → Program → Bool → List ℕ → TraceRows
rows_over asked program ended bytes = rows_by asked program 1 (lines_of ended bytes)

-- the lines that are due for the bytes of a trace, in the style of the arguments, or none without a program
abbrev pub due_by : RunAsked → Result Program Status → Bool → List ℕ → List ℕ
due_by asked (Ok program) ended bytes = due program asked.style (rows_by asked program 1) ended bytes
due_by asked (Err status) ended bytes = []

-- nothing is out, and no monitor was kept
pub record Silent (out : List ℕ) (kept : Option State) : Type 0 where
  pub no_lines : out ≡ []
  pub no_monitor : kept ≡ None

-- the kept monitor runs the program, has the rows and has reported them
abbrev pub KeepsTold : Option State → RunAsked → Result Program Status → Bool → List ℕ → Type 0
KeepsTold (Some monitor) asked (Ok program) ended bytes =
    HasTold program monitor (rows_over asked program ended bytes).rows
KeepsTold kept asked found ended bytes = ⊥

-- the lines of all rows are out, and the kept monitor has those rows
pub record AllTold (asked : RunAsked) (found : Result Program Status) (ended : Bool) (bytes out : List ℕ)
    (kept : Option State) : Type 0 where
  pub out_is : out ≡ due_by asked found ended bytes
  pub keeps : KeepsTold kept asked found ended bytes

-- the kept monitor runs the program, and has the rows up to the row whose lines aren't all out
abbrev pub KeepsFront : Option State → RunAsked → Result Program Status → Bool → List ℕ → List ℕ → Type 0
KeepsFront (Some monitor) asked (Ok program) ended bytes out =
    HasFront program asked.style monitor (rows_over asked program ended bytes).rows out
KeepsFront kept asked found ended bytes out = ⊥

-- the rows end by this stop
abbrev pub StopsBy : Stop → RunAsked → Result Program Status → Bool → List ℕ → Type 0
StopsBy stop asked (Ok program) ended bytes = (rows_over asked program ended bytes).stop ≡ stop
StopsBy stop asked (Err status) ended bytes = ⊥

-- the first line of the trace isn't there yet, nothing is out, and no monitor was kept
pub record NotBegun (bytes out : List ℕ) (kept : Option State) : Type 0 where
  pub no_line : lines_of false bytes ≡ []
  pub silent : Silent out kept

-- the trace broke off after a line: its lines so far are clean rows of a program, and the lines of these rows are out
pub record BrokenOff (asked : RunAsked) (found : Result Program Status) (bytes out : List ℕ)
    (kept : Option State) : Type 0 where
  pub begun : lines_of false bytes ≢ []
  pub clean : StopsBy Clean asked found false bytes
  pub told : AllTold asked found false bytes out kept

-- no program runs, by this status, nothing is out, and no monitor was kept
pub record NeverRan (status : Status) (found : Result Program Status) (out : List ℕ)
    (kept : Option State) : Type 0 where
  pub refused : found ≡ Err status
  pub silent : Silent out kept

-- each result follows from the bytes of the trace and the output, by the program that ran over its lines
abbrev pub LinesOutcome : Status → RunAsked → Result Program Status → Bool → List ℕ → List ℕ → Option State → Type 0
LinesOutcome Done asked found ended bytes out kept =
    (ended ≡ true) × StopsBy Clean asked found ended bytes × AllTold asked found ended bytes out kept
LinesOutcome TooLong asked found ended bytes out kept =
    StopsBy Past asked found ended bytes × AllTold asked found ended bytes out kept
LinesOutcome (BadTrace number why) asked found ended bytes out kept =
    NeverRan (BadTrace number why) found out kept ⊎ StopsBy (Bad number why) asked found ended bytes
    × AllTold asked found ended bytes out kept
LinesOutcome (Refused line refusal) asked found ended bytes out kept = NeverRan (Refused line refusal) found out kept
LinesOutcome (BadProgram fault) asked found ended bytes out kept = NeverRan (BadProgram fault) found out kept
LinesOutcome (ReadFault Trace) asked found ended bytes out kept =
    (ended ≡ false) × (NotBegun bytes out kept ⊎ BrokenOff asked found bytes out kept)
LinesOutcome (WriteFault Out) asked found ended bytes out kept =
    IsProperFront out (due_by asked found ended bytes) × KeepsFront kept asked found ended bytes out
LinesOutcome Memory asked found ended bytes out kept = Silent out kept
LinesOutcome answer asked found ended bytes out kept = ⊥
