use Rattle.std.proofs.Common.{arith}
use Rattle.r2u2_monitor.proofs.Telling.{yields_of_places}
use Rattle.r2u2_monitor.proofs.running.Running.next.Goals as goal

pub returns-clause-yields : goal.returns-clause-yields
returns-clause-yields g c = yields_of_places c.args.style c.next_at.result c.args.self.now c.next_at.new.self c.next_at.ensures.gives

pub returns-clause-counted : goal.returns-clause-counted
returns-clause-counted g c = omega (arith, c.next_at.ensures.counted, c.requires.some.1.stand.placed.count)
