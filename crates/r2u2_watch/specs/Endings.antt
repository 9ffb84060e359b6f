-- Endings of the loop over a trace: within the loop, without names, and as the call returns them.

use Rattle.std.specs.Prelude.{⊤}
use Rattle.std.specs.declared.ops.ControlFlow.{ControlFlow}
use Rattle.std.specs.declared.ops.ControlFlow.TheVariants.{Continue, Break}
use Rattle.r2u2_watch.specs.declared.status.Ending as ending
use Rattle.r2u2_watch.specs.declared.status.LineFault as fault
use Rattle.trace_feed.specs.declared.trace_why.TraceWhy as why
use Rattle.r2u2_watch.specs.declared.status.Watched as watched

-- the fault of a line as a fault of the trace
abbrev pub why_of : fault.LineFault → why.TraceWhy
why_of fault.TheVariants.Width = why.TheVariants.Width
why_of (fault.TheVariants.NotWhole column) = why.TheVariants.NotWhole column
why_of (fault.TheVariants.OutOfRange column) = why.TheVariants.OutOfRange column
why_of fault.TheVariants.LongLine = why.TheVariants.LongLine
why_of fault.TheVariants.Stamp = why.TheVariants.Stamp
why_of fault.TheVariants.Order = why.TheVariants.Order

-- the ending of the loop as the whole call returns it
abbrev pub watched_of : ending.Ending → watched.Watched
watched_of ending.TheVariants.Done = watched.TheVariants.Done
watched_of (ending.TheVariants.BadLine number what) = watched.TheVariants.BadTrace number (why_of what)
watched_of ending.TheVariants.TooLong = watched.TheVariants.TooLong
watched_of ending.TheVariants.ReadFault = watched.TheVariants.ReadFault
watched_of ending.TheVariants.WriteFault = watched.TheVariants.WriteFault

-- the loop goes on, or ends as the whole call returns it
abbrev pub told_as : ControlFlow ending.Ending ⊤ → ControlFlow watched.Watched ⊤
told_as (Continue u) = Continue u
told_as (Break end) = Break (watched_of end)
