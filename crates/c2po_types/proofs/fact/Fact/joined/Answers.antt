use Rattle.std.proofs.Common.{Some, ap}
use Rattle.c2po_ast.specs.Nodes.{formula_in}
use Rattle.c2po_types.proofs.Knowing.{both_known, known_joined}
use Rattle.c2po_types.proofs.fact.Fact.joined.Goals as goal

pub returns : goal.returns
returns c = λ op o q h k.
    ap Some (known_joined op (formula_in o) (formula_in q) _ _ _
    (both_known c.args.a.now c.args.b.now o q _ _ _
    (rw (← c.fault_of.ensures, ← c.fault_of-2.ensures) c.first_fault-fault.ensures)
    (rw (← c.tenses_of.ensures.past, ← c.tenses_of-2.ensures.past) c.or-tenses.ensures.past)
    (rw (← c.tenses_of.ensures.future, ← c.tenses_of-2.ensures.future) c.or-tenses.ensures.future) h k))
