use Rattle.std.proofs.Common.{◌≡◌, ◌≤◌, ◌+◌, ◌-◌}
use Rattle.tool_io.specs.Log.{OnLog}
use Rattle.tool_io.specs.Host.{NoFault}
use Rattle.tool_io.specs.Cutting.{next_number}
use Rattle.r2u2_monitor.specs.Monitoring.{program_of}
use Rattle.r2u2_watch.specs.Feed.{Feed}
use Rattle.r2u2_watch.specs.Trace.{fed_rows}
use Rattle.r2u2_watch.specs.Turns.{begins_at}
use Rattle.r2u2_watch.specs.Watch.{first_of}
use Rattle.r2u2_watch.proofs.LineTurns.{HasLines}
use Rattle.r2u2_watch.proofs.trace_loop.turns.Given as goal

abbrev pub invariant-loop-ending : goal.invariant-loop-ending
invariant-loop-ending g l = record {
  mission : l.course.mission ≡ l.initial.course.mission;
  style : l.course.style ≡ l.initial.course.style;
  within : l.course.lines ≤ l.course.mission;
  program : program_of l.monitor ≡ program_of l.initial.monitor;
  no_fault : NoFault (g.H.Host.faults l.initial.host) (g.H.Host.faults l.host);
  feed : Feed;
  log : OnLog (g.H.Host.log l.initial.host) (g.H.Host.log l.host)
      (HasLines (program_of l.initial.monitor)
      (fed_rows (begins_at l.initial.course.reader) (program_of l.initial.monitor) l.initial.course.mission (first_of l.initial.cut))
      l.initial.cut l.cut l.monitor l.course feed);
}

-- the lines that are left, one of which may be the header
abbrev pub decreases-loop-ending : goal.decreases-loop-ending
decreases-loop-ending g l = (l.course.mission - l.course.lines) + (2 - next_number l.cut)
