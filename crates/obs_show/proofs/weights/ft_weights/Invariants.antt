use Rattle.mltl_base.specs.Programs.{expressions}
use Rattle.obs_show.proofs.WeightLaws.{FtWeighed}
use Rattle.obs_show.proofs.weights.ft_weights.Given as goal

abbrev pub invariant-loop-op : goal.invariant-loop-op
invariant-loop-op l = FtWeighed (expressions l.checked.bz) l.op-items l.op-index l.weights.items
