use Rattle.std.proofs.Common.{◌≡◌, ◌+◌, List, replicate}
use Rattle.mltl_base.specs.Atoms.{Row}
use Rattle.tool_io.specs.Log.{OnLog}
use Rattle.tool_io.specs.Host.{NoFault}
use Rattle.r2u2_monitor.specs.Monitoring.{program_of, taken_by, last_of, read_of, IsDrained, Stands}
use Rattle.r2u2_watch.specs.Telling.{TellsAll}
use Rattle.r2u2_watch.proofs.report_lines.repeat_row.Given as goal

abbrev pub invariant-loop-done : goal.invariant-loop-done
invariant-loop-done g l = record {
  no_fault : NoFault (g.H.Host.faults l.initial.host) (g.H.Host.faults l.host);
  program : program_of l.monitor ≡ program_of l.initial.monitor;
  taken : taken_by l.monitor ≡ taken_by l.initial.monitor + l.done;
  last : last_of l.monitor ≡ last_of l.initial.monitor;
  read : read_of l.monitor ≡ read_of l.initial.monitor;
  drained : IsDrained l.monitor;
  log : (rows : List Row) → Stands l.initial.monitor rows → OnLog (g.H.Host.log l.initial.host) (g.H.Host.log l.host) (TellsAll (program_of l.initial.monitor) l.style rows (replicate l.done (last_of l.initial.monitor)) l.monitor);
}
