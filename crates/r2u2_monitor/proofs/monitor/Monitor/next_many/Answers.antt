use Rattle.std.proofs.Common.{◌≡◌, ap, arith, length, subst, sym, take, ◌∙◌}
use Rattle.trace_feed.specs.Readings.{readings_of}
use Rattle.r2u2_monitor.specs.declared.running.Running.{Running}
use Rattle.r2u2_monitor.specs.declared.state.State.{State}
use Rattle.r2u2_monitor.specs.Kept.{state_of}
use Rattle.r2u2_monitor.specs.Stepping.{ReturnsMany}
use Rattle.r2u2_monitor.proofs.Giving.{returns_many, sound_after_many}
use Rattle.r2u2_monitor.proofs.monitor.Monitor.next_many.Goals as goal

pub invariant_of-self : goal.invariant_of-self
invariant_of-self g c = record {
  sound = sound_after_many c.args.style _ (state_of c.self.inside) c.next_many.new.self c.self.invariant.sound c.next_many.ensures.yields;
  resumes = c.next_many.ensures.cursor;
  readings = c.self.invariant.readings ∙ ap readings_of (sym (ap (λ (r : Running). r.checked) c.next_many.ensures.yields.moved));
}

pub returns-clause-returns : goal.returns-clause-returns
returns-clause-returns g c =
    let monitor : State = state_of c.self.inside in
    subst (λ (before : State). ReturnsMany c.args.style (take c.next_many.result c.next_many.new.reports) before (record monitor { running = c.next_many.new.self })) c.self.view_is
    (returns_many c.args.style _ monitor c.next_many.new.self c.next_many.ensures.yields)

pub returns-clause-counted : goal.returns-clause-counted
returns-clause-counted g c =
    let outs : length c.self.inside.running.checked.outs ≡ length c.args.self.now.running.checked.outs = ap (λ (s : State). length s.running.checked.outs) c.self.view_is in
    omega (arith, c.next_many.ensures.counted, outs)
