use Rattle.r2u2_monitor.specs.Monitoring.{left_to_tell}
use Rattle.example_embedded.proofs.tell.Given as goal

abbrev pub decreases-loop-report : goal.decreases-loop-report
decreases-loop-report g l = left_to_tell l.monitor
