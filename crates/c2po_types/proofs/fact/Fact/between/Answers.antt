use Rattle.std.proofs.Common.{Some, ap, ◌∙◌}
use Rattle.c2po_ast.specs.Nodes.{formula_in}
use Rattle.c2po_types.specs.Facts.{told_fault, with_future, with_past}
use Rattle.c2po_types.proofs.Knowing.{both_known, known_until, known_since}
use Rattle.c2po_types.proofs.fact.Fact.between.Goals as goal

pub returns-in-U : goal.returns-in-U
returns-in-U c = λ i o q h k.
    let both = both_known c.args.a.now c.args.b.now o q (told_fault c.first_fault-fault.result) (with_past c.or-tenses.result) (with_future c.or-tenses.result)
    (rw (← c.fault_of.ensures, ← c.fault_of-2.ensures) c.first_fault-fault.ensures)
    (rw (← c.tenses_of.ensures.past, ← c.tenses_of-2.ensures.past) c.or-tenses.ensures.past)
    (rw (← c.tenses_of.ensures.future, ← c.tenses_of-2.ensures.future) c.or-tenses.ensures.future) h k in
    ap Some (known_until c.args.op i (formula_in o) (formula_in q) _ _ _ c.in-U.is both.0 (c.and_future.ensures.past ∙ both.1) c.and_future.ensures.future)

pub returns-in-S : goal.returns-in-S
returns-in-S c = λ i o q h k.
    let both = both_known c.args.a.now c.args.b.now o q (told_fault c.first_fault-fault.result) (with_past c.or-tenses.result) (with_future c.or-tenses.result)
    (rw (← c.fault_of.ensures, ← c.fault_of-2.ensures) c.first_fault-fault.ensures)
    (rw (← c.tenses_of.ensures.past, ← c.tenses_of-2.ensures.past) c.or-tenses.ensures.past)
    (rw (← c.tenses_of.ensures.future, ← c.tenses_of-2.ensures.future) c.or-tenses.ensures.future) h k in
    ap Some (known_since c.args.op i (formula_in o) (formula_in q) _ _ _ c.in-S.is both.0 c.and_past.ensures.past (c.and_past.ensures.future ∙ both.2))
