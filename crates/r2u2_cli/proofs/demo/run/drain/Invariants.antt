use Rattle.std.proofs.Common.{◌≡◌, List}
use Rattle.mltl_base.specs.Atoms.{Row}
use Rattle.r2u2_monitor.specs.Monitoring.{Stands, left_to_tell, program_of, taken_by}
use Rattle.r2u2_cli.specs.Tallies.{AreCounted}
use Rattle.r2u2_cli.proofs.demo.run.drain.Given as goal

abbrev pub invariant-loop-report : goal.invariant-loop-report
invariant-loop-report l = record {
  some : (rows : List Row) × Stands l.monitor rows × AreCounted l.tallies l.monitor rows;
  program : program_of l.monitor ≡ program_of l.initial.monitor;
  taken : taken_by l.monitor ≡ taken_by l.initial.monitor;
  stands : (rows : List Row) → Stands l.initial.monitor rows → Stands l.monitor rows;
  counted : (rows : List Row) → Stands l.initial.monitor rows → AreCounted l.initial.tallies l.initial.monitor rows → AreCounted l.tallies l.monitor rows;
}

abbrev pub decreases-loop-report : goal.decreases-loop-report
decreases-loop-report l = left_to_tell l.monitor
