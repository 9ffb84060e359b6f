use Rattle.c2po_types.proofs.Loops.{joined_weight}
use Rattle.c2po_types.proofs.unfold_laws.joined_bodies_weigh.Goals as goal

pub returns : goal.returns
returns c = joined_weight
