use Rattle.c2po_types.proofs.Members.{holds_weight}
use Rattle.c2po_types.proofs.unfolding.Unfolding.held.Goals as goal

pub returns-clause-holds : goal.returns-clause-holds
returns-clause-holds c = λ v h. record { weight = holds_weight v c.args.self.now c.args.stored h; fact = c.held_fact-fact.ensures v h }
