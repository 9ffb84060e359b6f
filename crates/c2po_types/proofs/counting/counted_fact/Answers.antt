use Rattle.std.proofs.Common.{Some, false, ap, sym, ◌∙◌}
use Rattle.c2po_types.proofs.Gathering.{with_bodies, without_bodies}
use Rattle.c2po_types.proofs.counting.counted_fact.Goals as goal

pub returns-then-has_bodies : goal.returns-then-has_bodies
returns-then-has_bodies c = λ ps count h.
    h ∙ ap Some (sym (with_bodies c.args.op c.args.n c.args.number ps count (sym c.has_bodies.ensures ∙ c.if-has_bodies.true)))

pub returns-else-has_bodies : goal.returns-else-has_bodies
returns-else-has_bodies c = λ ps count h.
    c.truth.ensures.truth false ∙ ap Some (sym (without_bodies c.args.op c.args.n c.args.number ps (sym c.has_bodies.ensures ∙ c.if-has_bodies.false)))
