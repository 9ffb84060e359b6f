-- The output of the loop over a trace for the rows that it takes.

use Rattle.std.specs.Prelude.{◌≡◌, ℕ, ◌+◌, Bool, true, false, List, [], ◌∷◌, ◌++◌, ⊤}
use Rattle.std.specs.declared.ops.ControlFlow.{ControlFlow}
use Rattle.std.specs.declared.ops.ControlFlow.TheVariants.{Continue, Break}
use Rattle.mltl_base.specs.declared.report.Style.{Style}
use Rattle.mltl_base.specs.declared.program.Program.{Program}
use Rattle.mltl_base.specs.Atoms.{Row}
use Rattle.mltl_base.specs.Programs.{outputs, output_names}
use Rattle.mltl_base.specs.Reports.{reports_after}
use Rattle.mltl_base.specs.Lines.{lines_of_reports}
use Rattle.tool_io.specs.declared.host.Place.{Place}
use Rattle.tool_io.specs.declared.host.Place.TheVariants.{Out}
use Rattle.tool_io.specs.Host.{NoFault, RoseAt}
use Rattle.tool_io.specs.Log.{Event, Writes, WritesFront, IsFront, IsProperFront}
use Rattle.r2u2_monitor.specs.declared.state.State.{State}
use Rattle.r2u2_monitor.specs.Monitoring.{program_of, taken_by, IsDrained, Stands}
use Rattle.r2u2_watch.specs.declared.status.Watched.{Watched}
use Rattle.r2u2_watch.specs.Watch.{HasTold, WatchCause}

-- all of the text went out, or a prefix of it
abbrev pub SendsText : Bool → List ℕ → List Event → Type 0
SendsText true text events = Writes Out text events
SendsText false text events = WritesFront Out text events

-- a write that failed raised the count of Out by one, and nothing else changes a count
abbrev pub TellCause : Bool → (Place → ℕ) → (Place → ℕ) → Type 0
TellCause true before now = NoFault before now
TellCause false before now = RoseAt before now Out

-- a read or a write that failed raised the count of its place by one, and nothing else changes a count
abbrev pub StepCause : {T : Type 0} → ControlFlow Watched T → (Place → ℕ) → (Place → ℕ) → Type 0
StepCause (Continue value) before now = NoFault before now
StepCause (Break answer) before now = WatchCause answer before now

-- a monitor that has reported all is drained
abbrev pub IsDrainedIf : Bool → State → Type 0
IsDrainedIf true monitor = IsDrained monitor
IsDrainedIf false monitor = ⊤

-- the lines of the rows in `more`, after `rows`
abbrev pub text_after : Program → Style → List Row → List Row → List ℕ
text_after program style rows more =
    lines_of_reports (output_names program) (reports_after style (outputs program) rows more)

-- the monitor has taken the rows in `more`, and all their lines are out
pub record TellsAll (program : Program) (style : Style) (rows more : List Row) (monitor : State)
    (events : List Event) : Type 0 where
  pub sends : Writes Out (text_after program style rows more) events
  pub told : HasTold program monitor (rows ++ more)

-- after `rows`, the monitor has taken the rows in `more` up to the row whose lines aren't all out, and these bytes are out
pub record TakesFront (program : Program) (style : Style) (rows more : List Row) (monitor : State)
    (sent : List ℕ) : Type 0 where
  pub program_kept : program_of monitor ≡ program
  pub before : List Row
  pub last : Row
  pub is_front : IsFront (before ++ last ∷ []) more
  pub stands : Stands monitor (rows ++ (before ++ last ∷ []))
  pub told : IsFront (text_after program style rows before) sent
  pub untold : IsProperFront sent (text_after program style rows (before ++ last ∷ []))

-- the monitor has taken the rows in `more` up to the row whose lines aren't all out
pub record TellsFront (program : Program) (style : Style) (rows more : List Row) (monitor : State)
    (events : List Event) : Type 0 where
  pub sends : WritesFront Out (text_after program style rows more) events
  pub kept : TakesFront program style rows more monitor sends.sent

-- all rows in `more` were taken and their lines printed, or a prefix of them
abbrev pub TellsRows : Bool → Program → Style → List Row → List Row → State → List Event → Type 0
TellsRows true program style rows more monitor events = TellsAll program style rows more monitor events
TellsRows false program style rows more monitor events = TellsFront program style rows more monitor events

-- nothing was written, and the monitor has the rows that it had
pub record WritesNone (program : Program) (rows : List Row) (monitor : State) (events : List Event) : Type 0 where
  pub none : events ≡ []
  pub told : HasTold program monitor rows

-- if all lines went out, the monitor has taken this many more rows, and has nothing to report
abbrev pub HasHeld : Bool → ℕ → State → State → Type 0
HasHeld true times before after = (taken_by after ≡ taken_by before + times) × IsDrained after
HasHeld false times before after = ⊤
