use Rattle.std.proofs.Common.{Option, subst, sym, take}
use Rattle.r2u2_monitor.specs.declared.state.State.{State}
use Rattle.r2u2_c.specs.Queries.{MirrorsMonitor}
use Rattle.r2u2_c.specs.Reports.{style_of}
use Rattle.r2u2_c.proofs.Calls.{is_open_as, kept_by_reports, told_still}
use Rattle.r2u2_c.proofs.batches.r2u2_next_many.Goals as goal

pub invariant_of-it-in-Some : goal.invariant_of-it-in-Some
invariant_of-it-in-Some c =
    let it = c.args.it.now in
    let held = is_open_as c.get_mut.result.now c.in-Some.held.monitor.value it.handle.value c.in-Some.ensures.taken c.get_mut.ensures.value in
    let kept = kept_by_reports (style_of c.args.runs) (take c.fill.result c.fill.new.reports) c.get_mut.result.now c.fill.new.monitor c.fill.ensures.tells in
    record {
      told = subst (λ (o : Option State). MirrorsMonitor o it.rows it.width it.outputs it.signals it.steps it.most_reports) (sym c.put.ensures)
          (told_still c.get_mut.result.now c.fill.new.monitor it.handle.value it.rows it.width it.outputs it.signals it.steps it.most_reports held it.told kept.0 kept.1);
    }
