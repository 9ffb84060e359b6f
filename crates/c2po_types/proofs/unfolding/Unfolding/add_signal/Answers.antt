use Rattle.std.proofs.Common.{refl}
use Rattle.c2po_types.specs.Environment.{value, signal_value}
use Rattle.c2po_types.proofs.Later.{stands_later}
use Rattle.c2po_types.proofs.Holding.{signal_leaf}
use Rattle.c2po_types.proofs.unfolding.Unfolding.add_signal.Goals as goal

pub returns : goal.returns
returns c = λ env n h.
    c.in_ok-declare.ensures.stands env (value (signal_value c.args.truth n))
    (stands_later c.args.self.now c.add_leaf.new.self env c.in_ok-stored.ensures.later h) (
      signal_value c.args.truth n,
      signal_leaf c.add_leaf.new.self c.in_ok-stored.stored c.signal_fact.result c.args.truth n c.in_ok-stored.ensures.holds (c.signal_fact.ensures n),
      refl,
    )
