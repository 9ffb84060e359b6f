use Rattle.std.proofs.Common.{Option, subst, sym}
use Rattle.r2u2_monitor.specs.declared.state.State.{State}
use Rattle.r2u2_c.specs.Queries.{MirrorsMonitor}
use Rattle.r2u2_c.proofs.Calls.{is_open_as}
use Rattle.r2u2_c.proofs.Mirrors.{told_after}
use Rattle.r2u2_c.proofs.exports.r2u2_reset.Goals as goal

pub invariant_of-it-in-Some : goal.invariant_of-it-in-Some
invariant_of-it-in-Some c =
    let it = c.args.it.now in
    let held = is_open_as c.get_mut.result.now c.in-Some.held.monitor.value it.handle.value c.in-Some.ensures.taken c.get_mut.ensures.value in
    record {
      told = subst (λ (o : Option State). MirrorsMonitor o 0 it.width it.outputs it.signals it.steps it.most_reports) (sym c.put.ensures)
          (told_after c.get_mut.result.now c.reset.new.self it.handle.value it.rows 0 it.width it.outputs it.signals it.steps it.most_reports held it.told c.reset.ensures.program (sym c.reset.ensures.taken));
    }
