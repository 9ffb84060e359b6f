-- The ending of the compiler.

use Rattle.std.specs.Prelude.{ℕ, Option, Result, List}
use Rattle.std.specs.declared.alloc.AllocError.{AllocError}
use Rattle.tool_io.specs.declared.host.Place.{Place}
use Rattle.tool_io.specs.Log.{Event, OnLog}
use Rattle.mltl_tools.specs.C2poAsking.{ask}
use Rattle.mltl_tools.specs.C2poRun.{IsMade}
use Rattle.mltl_tools.specs.Ending.{EndsBy}

-- the compiler ends by a run with its arguments, which is in the log if the host has one, or at once
abbrev pub CompilerEnds : Result (List (List ℕ)) AllocError → ℕ → (Place → ℕ) → (Place → ℕ) → Option (List Event)
    → Option (List Event) → Type 0
CompilerEnds words code faults now before after =
    EndsBy (λ some status. OnLog before after (IsMade (ask some) status faults now)) words code faults now before after
