use Rattle.std.proofs.Common.{refl}
use Rattle.r2u2_monitor.proofs.Resetting.{begun, begun_drained}
use Rattle.r2u2_monitor.proofs.running.Running.reset.Goals as goal

pub returns-clause-stands : goal.returns-clause-stands
returns-clause-stands c = begun c.args.self.now _ c.requires.some.0 c.requires.some.1 refl c.reset-3.ensures.start refl c.reset.ensures.stands c.reset-2.ensures.stands

pub returns-clause-drained : goal.returns-clause-drained
returns-clause-drained c = begun_drained c.args.self.now _ c.requires.some.0 c.requires.some.1 refl c.reset-3.ensures.start refl
