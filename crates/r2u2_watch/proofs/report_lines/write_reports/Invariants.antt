use Rattle.std.proofs.Common.{◌≡◌, List}
use Rattle.mltl_base.specs.Atoms.{Row}
use Rattle.mltl_base.specs.Lines.{lines_of_reports}
use Rattle.mltl_base.specs.Programs.{output_names}
use Rattle.tool_io.specs.Log.{OnLog}
use Rattle.tool_io.specs.Host.{NoFault}
use Rattle.r2u2_monitor.specs.Monitoring.{program_of, taken_by, last_of, read_of, Stands, left_to_tell, open_in}
use Rattle.r2u2_watch.proofs.TellLaws.{HasSent}
use Rattle.r2u2_watch.proofs.report_lines.write_reports.Given as goal

abbrev pub invariant-loop-report : goal.invariant-loop-report
invariant-loop-report g l = record {
  no_fault : NoFault (g.H.Host.faults l.initial.host) (g.H.Host.faults l.host);
  program : program_of l.monitor ≡ program_of l.initial.monitor;
  as_many : taken_by l.monitor ≡ taken_by l.initial.monitor;
  last : last_of l.monitor ≡ last_of l.initial.monitor;
  read : read_of l.monitor ≡ read_of l.initial.monitor;
  stands : (rows : List Row) → Stands l.initial.monitor rows → Stands l.monitor rows;
  log : (rows : List Row) → Stands l.initial.monitor rows → OnLog (g.H.Host.log l.initial.host) (g.H.Host.log l.host) (HasSent (lines_of_reports (output_names (program_of l.initial.monitor)) (open_in l.style l.initial.monitor rows)) (lines_of_reports (output_names (program_of l.initial.monitor)) (open_in l.style l.monitor rows)));
}

abbrev pub decreases-loop-report : goal.decreases-loop-report
decreases-loop-report g l = left_to_tell l.monitor
