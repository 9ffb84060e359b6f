use Rattle.std.proofs.Common.{Some, ap, ◌∙◌}
use Rattle.c2po_types.proofs.Knowing.{known_negative}
use Rattle.c2po_types.proofs.fact.Fact.negative.Goals as goal

pub returns : goal.returns
returns c = λ o h.
    c.number_fact.ensures ∙ ap Some (known_negative c.args.a.now o _ _ c.negated_range-range.ensures c.range_of-operand.ensures h)
