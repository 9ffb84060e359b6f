use Rattle.obs_show.proofs.WeightLaws.{BzWeighed}
use Rattle.obs_show.proofs.weights.bz_weights.Given as goal

abbrev pub invariant-loop-op : goal.invariant-loop-op
invariant-loop-op l = BzWeighed l.checked.width l.op-items l.op-index l.weights.items
