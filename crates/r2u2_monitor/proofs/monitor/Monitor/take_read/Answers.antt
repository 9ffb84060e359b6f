use Rattle.std.proofs.Common.{◌<◌, ◌^◌, ap, subst, sym, ◌∙◌}
use Rattle.trace_feed.specs.Readings.{readings_of}
use Rattle.r2u2_monitor.specs.declared.state.State.{State}
use Rattle.r2u2_monitor.specs.Kept.{state_of}
use Rattle.r2u2_monitor.proofs.Keeping.{sound_after}
use Rattle.r2u2_monitor.proofs.monitor.Monitor.take_read.Goals as goal

pub invariant_of-self : goal.invariant_of-self
invariant_of-self g c =
    let monitor : State = state_of c.self.inside in
    let early : monitor.running.taken < 2 ^ 40 = subst (λ (m : State). m.running.taken < 2 ^ 40) (sym c.self.view_is) c.requires.early in
    let sound = c.self.invariant.sound in
    record {
      sound = sound_after monitor (record { running = c.take.new.self; last = c.of-self-inside.result.numbers; read = monitor.read }) monitor.read sound (rw c.as_slice-row.ensures at c.take.ensures.takes) early (c.of-self-inside.ensures ∙ c.as_slice-row.ensures) c.take.ensures.numbers sound.read_wide;
      resumes = λ rows future past count known. c.start-self-inside.ensures c.take.new.self.checked rows c.take.new.self.outs;
      readings = c.self.invariant.readings ∙ ap readings_of (sym c.take.ensures.takes.program);
    }
