use Rattle.std.proofs.Common.{subst}
use Rattle.r2u2_monitor.specs.declared.state.State.{State}
use Rattle.r2u2_monitor.specs.Kept.{state_of}
use Rattle.r2u2_monitor.specs.Monitoring.{ReturnsNext}
use Rattle.r2u2_monitor.proofs.Telling.{gives_next}
use Rattle.r2u2_monitor.proofs.monitor.Monitor.next_alone.Goals as goal

pub returns : goal.returns
returns g c =
    let monitor : State = state_of c.self.inside in
    let sound = c.self.invariant.sound in
    subst (λ (before : State). ReturnsNext c.args.style c.next.result before (record monitor { running = c.next.new.self })) c.self.view_is
    (gives_next c.args.style c.next.result monitor c.next.new.self (sound.some.0, sound.some.1.taken) sound.early c.next.ensures.yields)
