use Rattle.std.proofs.Common.{Some, ap, ◌∙◌}
use Rattle.c2po_ast.specs.Faults.{or_later, why_none}
use Rattle.c2po_types.specs.Facts.{told_range, told_fault}
use Rattle.c2po_types.proofs.Knowing.{known_compared}
use Rattle.c2po_types.proofs.fact.Fact.compared.Goals as goal

pub returns : goal.returns
returns c = λ op o q h k.
    ap Some (known_compared op c.args.a.now c.args.b.now o q _ (told_range c.range_of.result) (told_range c.range_of-2.result)
    (c.first_fault-fault.ensures ∙ (ap (λ x. or_later x (told_fault c.why_none_of-right.result)) c.why_none_of-left.ensures
    ∙ ap (or_later (why_none (told_range c.range_of.result))) c.why_none_of-right.ensures))
    c.range_of.ensures c.range_of-2.ensures h k)
