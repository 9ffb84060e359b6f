use Rattle.std.proofs.Common.{◌<◌, ◌^◌, subst, sym, ◌∙◌, ap}
use Rattle.trace_feed.specs.Readings.{readings_of}
use Rattle.r2u2_monitor.specs.declared.state.State.{State}
use Rattle.r2u2_monitor.specs.Kept.{state_of}
use Rattle.r2u2_monitor.specs.Bursts.{OpensFew}
use Rattle.r2u2_monitor.specs.Monitoring.{IsDrained, KeepsKnown}
use Rattle.r2u2_monitor.proofs.FewReports.{running_few}
use Rattle.r2u2_monitor.proofs.Keeping.{sound_after}
use Rattle.r2u2_monitor.proofs.Known.{keeps_known}
use Rattle.r2u2_monitor.proofs.monitor.Monitor.advance.Goals as goal

pub invariant_of-self : goal.invariant_of-self
invariant_of-self g c =
    let monitor : State = state_of c.self.inside in
    let early : monitor.running.taken < 2 ^ 40 = subst (λ (m : State). m.running.taken < 2 ^ 40) (sym c.self.view_is) c.requires.early in
    let sound = c.self.invariant.sound in
    record {
      sound = sound_after monitor (record { running = c.take.new.self; last = c.of-self-inside.result.numbers; read = monitor.read }) c.args.fields.now sound c.take.ensures.takes early c.of-self-inside.ensures c.take.ensures.numbers sound.read_wide;
      resumes = λ rows future past count known. c.start-self-inside.ensures c.take.new.self.checked rows c.take.new.self.outs;
      readings = c.self.invariant.readings ∙ ap readings_of (sym c.take.ensures.takes.program);
    }

pub returns-clause-few : goal.returns-clause-few
returns-clause-few g c =
    let monitor : State = state_of c.self.inside in
    let after : State = record { running = c.take.new.self; last = c.of-self-inside.result.numbers; read = monitor.read } in
    subst (λ (m : State). OpensFew c.args.fields.now m after) c.self.view_is (running_few c.args.fields.now monitor after c.take.ensures.takes)

pub returns-clause-known : goal.returns-clause-known
returns-clause-known g c =
    let before : State = state_of c.self.inside in
    let after : State = record { running = c.take.new.self; last = c.of-self-inside.result.numbers; read = before.read } in
    let drained : IsDrained before = subst IsDrained (sym c.self.view_is) c.requires.drained in
    subst (λ (m : State). KeepsKnown c.args.fields.now m after) c.self.view_is
    (keeps_known c.args.fields.now before after drained c.take.ensures.takes.program c.take.ensures.takes.told)
