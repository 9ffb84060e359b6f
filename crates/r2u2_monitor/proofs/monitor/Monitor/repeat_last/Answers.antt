use Rattle.std.proofs.Common.{◌<◌, ◌^◌, ap, length, refl, subst, sym, ◌∙◌}
use Rattle.trace_feed.specs.Readings.{readings_of}
use Rattle.r2u2_monitor.specs.declared.state.State.{State}
use Rattle.r2u2_monitor.specs.Kept.{state_of}
use Rattle.r2u2_monitor.proofs.Keeping.{last_fits, sound_after}
use Rattle.r2u2_monitor.proofs.monitor.Monitor.repeat_last.Goals as goal

pub repeat-requires-clause-seen : goal.repeat-requires-clause-seen
repeat-requires-clause-seen g c =
    c.self.invariant.sound.seen (subst (λ (m : State). 0 < m.running.taken) (sym c.self.view_is) c.requires.begun)

pub repeat-requires-clause-fit : goal.repeat-requires-clause-fit
repeat-requires-clause-fit g c =
    let monitor : State = state_of c.self.inside in
    let begun : 0 < monitor.running.taken = subst (λ (m : State). 0 < m.running.taken) (sym c.self.view_is) c.requires.begun in
    last_fits monitor c.self.invariant.sound.some.0 c.self.invariant.sound.some.1 begun

pub invariant_of-self : goal.invariant_of-self
invariant_of-self g c =
    let monitor : State = state_of c.self.inside in
    let early : monitor.running.taken < 2 ^ 40 = subst (λ (m : State). m.running.taken < 2 ^ 40) (sym c.self.view_is) c.requires.early in
    let sound = c.self.invariant.sound in
    let numbers = ap length c.repeat.ensures.numbers ∙ sound.numbers in
    record {
      sound = sound_after monitor (record { running = c.repeat.new.self; last = monitor.last; read = monitor.read }) monitor.last sound c.repeat.ensures.takes early refl numbers sound.read_wide;
      resumes = λ rows future past count known. c.start-self-inside.ensures c.repeat.new.self.checked rows c.repeat.new.self.outs;
      readings = c.self.invariant.readings ∙ ap readings_of (sym c.repeat.ensures.takes.program);
    }
