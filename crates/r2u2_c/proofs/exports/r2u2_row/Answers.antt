use Rattle.std.proofs.Common.{Option, ap, subst, sym, ◌∙◌}
use Rattle.r2u2_monitor.specs.declared.state.State.{State}
use Rattle.r2u2_monitor.specs.Monitoring.{taken_by}
use Rattle.r2u2_c.specs.Queries.{MirrorsMonitor}
use Rattle.r2u2_c.proofs.Calls.{held_back, is_open_as, row_codes, untold}
use Rattle.r2u2_c.proofs.Mirrors.{program_kept, told_after}
use Rattle.r2u2_c.proofs.exports.r2u2_row.Goals as goal

pub returns-in-Some-clause-held_back : goal.returns-in-Some-clause-held_back
returns-in-Some-clause-held_back c =
    held_back c.take-taken.result c.tell_taken.result c.args.fields.now c.get_mut.result.now c.args.it.now.handle.value c.args.why.now c.tell_taken.new.why
    (is_open_as c.get_mut.result.now c.in-Some.held.monitor.value c.args.it.now.handle.value c.in-Some.ensures.taken c.get_mut.ensures.value)
    c.take-taken.ensures.cause (c.tell_taken.ensures.done, c.tell_taken.ensures.fault)

pub returns-in-Some-clause-untold : goal.returns-in-Some-clause-untold
returns-in-Some-clause-untold c = untold c.take-taken.result c.tell_taken.result c.args.why.now c.tell_taken.new.why (c.tell_taken.ensures.done, c.tell_taken.ensures.fault)

pub returns-in-Some-clause-codes : goal.returns-in-Some-clause-codes
returns-in-Some-clause-codes c = row_codes c.take-taken.result c.tell_taken.result c.args.why.now c.tell_taken.new.why (c.tell_taken.ensures.done, c.tell_taken.ensures.fault)

pub invariant_of-it-in-Some : goal.invariant_of-it-in-Some
invariant_of-it-in-Some c =
    let it = c.args.it.now in
    let held = is_open_as c.get_mut.result.now c.in-Some.held.monitor.value it.handle.value c.in-Some.ensures.taken c.get_mut.ensures.value in
    record {
      told = subst (λ (o : Option State). MirrorsMonitor o c.rows_taken-it.result it.width it.outputs it.signals it.steps it.most_reports) (sym c.put.ensures)
          (told_after c.get_mut.result.now c.take-taken.new.self it.handle.value it.rows c.rows_taken-it.result it.width it.outputs it.signals it.steps it.most_reports held it.told (program_kept c.take-taken.result c.args.fields.now c.get_mut.result.now c.take-taken.new.self c.take-taken.ensures.takes c.take-taken.ensures.same) (c.rows_taken-it.ensures.taken ∙ ap taken_by c.get.ensures));
    }
