use Rattle.std.proofs.Common.{Option, ap, subst, sym, ◌∙◌}
use Rattle.r2u2_monitor.specs.declared.state.State.{State}
use Rattle.r2u2_monitor.specs.Monitoring.{taken_by}
use Rattle.r2u2_c.specs.Queries.{MirrorsMonitor}
use Rattle.r2u2_c.specs.Reports.{style_of}
use Rattle.r2u2_c.proofs.Calls.{is_open_as}
use Rattle.r2u2_c.proofs.Mirrors.{told_after}
use Rattle.r2u2_c.proofs.RowBatches.{program_kept, row_many_codes}
use Rattle.r2u2_c.proofs.row_batches.r2u2_row_many.Goals as goal

pub returns-in-Some-clause-codes : goal.returns-in-Some-clause-codes
returns-in-Some-clause-codes c = row_many_codes c.take_batch-taken.result c.tell_taken.result c.args.why.now c.tell_taken.new.why (c.tell_taken.ensures.done, c.tell_taken.ensures.fault)

pub invariant_of-it-in-Some : goal.invariant_of-it-in-Some
invariant_of-it-in-Some c =
    let it = c.args.it.now in
    let m = c.get_mut.result.now in
    let n = c.take_batch-taken.new.monitor in
    let held = is_open_as m c.in-Some.held.monitor.value it.handle.value c.in-Some.ensures.taken c.get_mut.ensures.value in
    let same = program_kept c.take_batch-taken.result (style_of c.args.runs) c.max-size.result c.most_reports-most.result c.args.numbers.now c.take_batch-taken.new.batch c.args.reports.now c.take_batch-taken.new.reports m n c.take_batch-taken.ensures.takes c.take_batch-taken.ensures.same in
    record {
      told = subst (λ (o : Option State). MirrorsMonitor o c.rows_taken-it.result it.width it.outputs it.signals it.steps it.most_reports) (sym c.put.ensures)
          (told_after m n it.handle.value it.rows c.rows_taken-it.result it.width it.outputs it.signals it.steps it.most_reports held it.told same (c.rows_taken-it.ensures.taken ∙ ap taken_by c.get.ensures));
    }
