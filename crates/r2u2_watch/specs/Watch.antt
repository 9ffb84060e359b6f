-- The log of the loop over a trace, and the state in which it leaves the monitor.

use Rattle.std.specs.Prelude.{◌≡◌, ◌≤◌, ℕ, Bool, true, false, List, [], ◌∷◌, ◌++◌, ⊤}
use Rattle.mltl_base.specs.declared.limits.TheConstants.{MAX_MISSION}
use Rattle.mltl_base.specs.declared.report.Style.{Style}
use Rattle.mltl_base.specs.declared.program.Program.{Program}
use Rattle.mltl_base.specs.Atoms.{Row}
use Rattle.mltl_base.specs.Programs.{outputs, output_names}
use Rattle.mltl_base.specs.Lines.{lines}
use Rattle.tool_io.specs.declared.host.Place.{Place}
use Rattle.tool_io.specs.declared.host.Place.TheVariants.{Trace, Out}
use Rattle.tool_io.specs.Log.{Event, Took, Gave, taken, given, ended_from, IsFront, IsProperFront, Prompt}
use Rattle.tool_io.specs.Host.{Rose, NoFault, RoseAt}
use Rattle.tool_io.specs.Cutting.{Cutting, lines_of, next_number}
use Rattle.r2u2_monitor.specs.declared.state.State.{State}
use Rattle.r2u2_monitor.specs.Monitoring.{program_of, IsDrained, Stands}
use Rattle.r2u2_watch.specs.declared.status.Watched as watched
use Rattle.r2u2_watch.specs.Trace.{TraceRows, Clean, Past, Bad, due}

-- the events are reads of the trace and writes of verdicts
abbrev pub OnlyRun : List Event → Type 0
OnlyRun [] = ⊤
OnlyRun (Took Trace piece ∷ events) = OnlyRun events
OnlyRun (Gave Out piece ∷ events) = OnlyRun events
OnlyRun (event ∷ events) = ⊥

-- the monitor has taken the rows, and has reported them
pub record HasTold (program : Program) (monitor : State) (rows : List Row) : Type 0 where
  pub program_kept : program_of monitor ≡ program
  pub stands : Stands monitor rows
  pub drained : IsDrained monitor

-- the lines of rows
abbrev pub lines_by : Program → Style → List Row → List ℕ
lines_by program style rows = lines style (output_names program) (outputs program) rows

-- the monitor has the rows up to the row whose lines aren't all out; the lines of the rows before it are out, and a prefix
-- of its own
pub record HasFront (program : Program) (style : Style) (monitor : State) (rows : List Row)
    (out : List ℕ) : Type 0 where
  pub program_kept : program_of monitor ≡ program
  pub before : List Row
  pub last : Row
  pub is_front : IsFront (before ++ last ∷ []) rows
  pub stands : Stands monitor (before ++ last ∷ [])
  pub told : IsFront (lines_by program style before) out
  pub untold : IsProperFront out (lines_by program style (before ++ last ∷ []))

-- all lines that are due are out, and the monitor has taken the rows
pub record IsTold (program : Program) (style : Style) (rows_in : List (List ℕ) → TraceRows) (ended : Bool)
    (bytes out : List ℕ) (monitor : State) : Type 0 where
  pub told : out ≡ due program style rows_in ended bytes
  pub kept : HasTold program monitor (rows_in (lines_of ended bytes)).rows

-- the result and the output follow from the bytes that were read, by the rows of lines
abbrev pub Outcome : watched.Watched → Program → Style → (List (List ℕ) → TraceRows) → Bool → List ℕ → List ℕ → State
    → Type 0
Outcome watched.TheVariants.Done program style rows_in ended bytes out monitor =
    (ended ≡ true) × ((rows_in (lines_of ended bytes)).stop ≡ Clean)
    × IsTold program style rows_in ended bytes out monitor
Outcome watched.TheVariants.TooLong program style rows_in ended bytes out monitor =
    ((rows_in (lines_of ended bytes)).stop ≡ Past) × IsTold program style rows_in ended bytes out monitor
Outcome (watched.TheVariants.BadTrace number why) program style rows_in ended bytes out monitor =
    ((rows_in (lines_of ended bytes)).stop ≡ Bad number why)
    × IsTold program style rows_in ended bytes out monitor
Outcome watched.TheVariants.ReadFault program style rows_in ended bytes out monitor =
    (ended ≡ false) × ((rows_in (lines_of false bytes)).stop ≡ Clean)
    × IsTold program style rows_in false bytes out monitor
Outcome watched.TheVariants.WriteFault program style rows_in ended bytes out monitor =
    IsProperFront out (due program style rows_in ended bytes)
    × HasFront program style monitor (rows_in (lines_of ended bytes)).rows out

-- a trace can be watched: the monitor has taken no rows and has nothing to report, no more than one line was cut, and the
-- mission time is within its limit
pub record CanWatch (monitor : State) (cut : Cutting) (mission : ℕ) : Type 0 where
  pub no_rows : Stands monitor []
  pub drained : IsDrained monitor
  pub within : mission ≤ MAX_MISSION
  pub numbered : cut.number ≤ 1

-- the number of the first line that a cut returns next
abbrev pub first_of : Cutting → ℕ
first_of cut = next_number cut

-- after the end was met, nothing more is read
abbrev pub ReadsNoMore : Cutting → Cutting → List Event → Type 0
ReadsNoMore start cut events = start.ended ≡ true → (cut.ended ≡ true) × (taken Trace events ≡ [])

-- the log of a run that began with the cut `start` and ended with `cut`
pub record IsWatch (program : Program) (style : Style) (rows_in : List (List ℕ) → TraceRows) (start cut : Cutting)
    (monitor : State) (answer : watched.Watched) (events : List Event) : Type 0 where
  pub prompt : Prompt (due program style rows_in false) start.pending events
  pub outcome :
      Outcome answer program style rows_in cut.ended (start.pending ++ taken Trace events) (given Out events) monitor
  pub ended : cut.ended ≡ ended_from start.ended Trace events
  pub no_more : ReadsNoMore start cut events
  pub only : OnlyRun events

-- a read or a write that failed raised the count of its place by one, and nothing else changes a count
abbrev pub WatchCause : watched.Watched → (Place → ℕ) → (Place → ℕ) → Type 0
WatchCause watched.TheVariants.Done before now = NoFault before now
WatchCause watched.TheVariants.TooLong before now = NoFault before now
WatchCause (watched.TheVariants.BadTrace number why) before now = NoFault before now
WatchCause watched.TheVariants.ReadFault before now = RoseAt before now Trace
WatchCause watched.TheVariants.WriteFault before now = RoseAt before now Out

-- no count of a fault rose
abbrev pub NoneRose : (Place → ℕ) → (Place → ℕ) → Type 0
NoneRose before now = (place : Place) → ¬ Rose (before place) (now place)

-- if the rows of all lines that were taken end cleanly, the result is success
abbrev pub EndsDone : watched.Watched → (List (List ℕ) → TraceRows) → Cutting → Cutting → List Event → Type 0
EndsDone answer rows_in start cut events =
    (rows_in (lines_of cut.ended (start.pending ++ taken Trace events))).stop ≡ Clean
    → answer ≡ watched.TheVariants.Done
