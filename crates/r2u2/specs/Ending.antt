-- The ending of the monitor.

use Rattle.std.specs.Prelude.{ℕ, Option, Result, List}
use Rattle.std.specs.declared.alloc.AllocError.{AllocError}
use Rattle.tool_io.specs.declared.host.Place.{Place}
use Rattle.tool_io.specs.Log.{Event, OnLog}
use Rattle.mltl_tools.specs.R2u2Words.{ask}
use Rattle.mltl_tools.specs.State.{State}
use Rattle.mltl_tools.specs.R2u2Run.{IsRun}
use Rattle.mltl_tools.specs.Ending.{EndsBy}

-- the monitor ends by a run with its arguments, which is in the log if the host has one, or at once
abbrev pub MonitorEnds : Result (List (List ℕ)) AllocError → ℕ → (Place → ℕ) → (Place → ℕ) → Option (List Event)
    → Option (List Event) → Type 0
MonitorEnds words code faults now before after =
    EndsBy (λ some status. (kept : Option State) × OnLog before after (IsRun (ask some) status kept faults now)) words
    code faults now before after
