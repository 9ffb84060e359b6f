use Rattle.c2po_types.proofs.Loops.{counted_weight}
use Rattle.c2po_types.proofs.unfold_laws.counted_bodies_weigh.Goals as goal

pub returns : goal.returns
returns c = counted_weight
