use Rattle.std.proofs.Common.{refl}
use Rattle.c2po_types.specs.Values.{leaf_tree}
use Rattle.c2po_types.proofs.unfolding.Unfolding.add_leaf.Goals as goal

pub returns-clause-holds : goal.returns-clause-holds
returns-clause-holds c = λ l h. (
  h.weight,
  (
    c.in_ok-place.place,
    c.args.summary.fact,
    refl,
    c.in_ok-place.ensures.there,
    h.fact,
    c.fault-fault.ensures (leaf_tree l) h.fact,
  ),
)
