use Rattle.std.proofs.Common.{Some, ap, ◌∙◌}
use Rattle.c2po_types.proofs.Knowing.{known_arith}
use Rattle.c2po_types.proofs.fact.Fact.computed.Goals as goal

pub returns : goal.returns
returns c = λ o q h k.
    c.number_fact.ensures ∙ ap Some
    (known_arith c.args.op c.args.a.now c.args.b.now o q _ _ _ c.computed_range-range.ensures c.range_of-left.ensures c.range_of-right.ensures h k)
