use Rattle.c2po_types.proofs.Summarizing.{declared}
use Rattle.c2po_types.proofs.unfolding.Unfolding.declare.Goals as goal

pub returns-in_ok-add-clause-stands : goal.returns-in_ok-add-clause-stands
returns-in_ok-add-clause-stands c = λ env k h g.
    declared c.args.self.now c.add.new.self c.args.name.now c.args.entry k env c.in_ok-add.ensures.added h g
