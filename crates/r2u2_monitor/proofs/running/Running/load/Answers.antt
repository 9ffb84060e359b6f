use Rattle.std.proofs.Common.{refl}
use Rattle.r2u2_monitor.proofs.Taking.{drained_at_start}
use Rattle.r2u2_monitor.proofs.running.Running.load.Goals as goal

pub returns-clause-drained : goal.returns-clause-drained
returns-clause-drained c = drained_at_start _ refl c.in_ok-bz.ensures.drained
