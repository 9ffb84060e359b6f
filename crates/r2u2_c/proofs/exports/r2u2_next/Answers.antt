use Rattle.std.proofs.Common.{Option, subst, sym, ◌∙◌}
use Rattle.r2u2_monitor.specs.declared.state.State.{State}
use Rattle.r2u2_c.specs.Queries.{MirrorsMonitor}
use Rattle.r2u2_c.specs.Reports.{style_of}
use Rattle.r2u2_c.proofs.Calls.{is_open_as, told_by_call, undrained}
use Rattle.r2u2_c.proofs.Mirrors.{told_after}
use Rattle.r2u2_c.proofs.exports.r2u2_next.Goals as goal

pub returns-in-Some-next-clause-tells : goal.returns-in-Some-next-clause-tells
returns-in-Some-next-clause-tells c = λ _.
    told_by_call (style_of c.args.runs) c.of.result c.get_mut.result.now c.next_of-next.new.monitor c.args.it.now.handle.value c.put.new.self.value
    (is_open_as c.get_mut.result.now c.in-Some.held.monitor.value c.args.it.now.handle.value c.in-Some.ensures.taken c.get_mut.ensures.value) c.put.ensures
    (record { report = c.in-Some-next.next; shown_as = c.of.ensures; first = c.in-Some-next.ensures.first; stands = c.in-Some-next.ensures.stands; gives = c.in-Some-next.ensures.given.moved })

pub returns-in-Some-next-clause-drained : goal.returns-in-Some-next-clause-drained
returns-in-Some-next-clause-drained c =
    undrained c.get_mut.result.now c.args.it.now.handle.value
    (is_open_as c.get_mut.result.now c.in-Some.held.monitor.value c.args.it.now.handle.value c.in-Some.ensures.taken c.get_mut.ensures.value) c.in-Some-next.ensures.none.1

pub invariant_of-it-in-Some : goal.invariant_of-it-in-Some
invariant_of-it-in-Some c =
    let it = c.args.it.now in
    let held = is_open_as c.get_mut.result.now c.in-Some.held.monitor.value it.handle.value c.in-Some.ensures.taken c.get_mut.ensures.value in
    record {
      told = subst (λ (o : Option State). MirrorsMonitor o it.rows it.width it.outputs it.signals it.steps it.most_reports) (sym c.put.ensures)
          (told_after c.get_mut.result.now c.next_of-next.new.monitor it.handle.value it.rows it.rows it.width it.outputs it.signals it.steps it.most_reports held it.told c.next_of-next.ensures.program ((subst (λ (o : Option State). MirrorsMonitor o it.rows it.width it.outputs it.signals it.steps it.most_reports) held it.told).rows ∙ sym c.next_of-next.ensures.as_many));
    }
