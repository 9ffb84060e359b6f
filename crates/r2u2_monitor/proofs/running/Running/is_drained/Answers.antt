use Rattle.std.proofs.Common.{arith}
use Rattle.r2u2_monitor.proofs.running.Running.is_drained.Goals as goal

pub returns-clause-counted : goal.returns-clause-counted
returns-clause-counted g c = omega (arith, c.drained_at.ensures.counted, c.requires.some.1.stand.placed.count)
