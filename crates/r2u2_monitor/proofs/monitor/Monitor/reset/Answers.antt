use Rattle.std.proofs.Common.{length, ap, sym, ◌∙◌}
use Rattle.mltl_base.specs.declared.program.Program.{Program}
use Rattle.trace_feed.specs.Readings.{readings_of}
use Rattle.r2u2_monitor.proofs.Keeping.{sound_at_start, stands_at_start}
use Rattle.r2u2_monitor.proofs.monitor.Monitor.reset.Goals as goal

pub returns-clause-stands : goal.returns-clause-stands
returns-clause-stands c = stands_at_start _ c.reset.ensures.stands

pub invariant_of-self : goal.invariant_of-self
invariant_of-self c =
    let sound = c.self.invariant.sound in
    let same = sym c.reset.ensures.program in
    let numbers = c.reset.ensures.numbers ∙ sound.numbers ∙ ap (λ (p : Program). length p.bz) same in
    let width = ap (λ (p : Program). p.width) same in
    record {
      sound = sound_at_start _ c.reset.ensures.stands c.reset.ensures.taken numbers (sound.read_wide ∙ width);
      resumes = λ rows future past count known. c.start-self-inside.ensures c.reset.new.self.checked rows c.reset.new.self.outs;
      readings = c.self.invariant.readings ∙ ap readings_of same;
    }
