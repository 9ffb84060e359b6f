use Rattle.std.proofs.Common.{◌≡◌}
use Rattle.obs_show.specs.Weighing.{capped}
use Rattle.obs_show.proofs.WeightLaws.{weight_before}
use Rattle.obs_show.proofs.weights.outputs_weight.Given as goal

abbrev pub invariant-loop-out : goal.invariant-loop-out
invariant-loop-out l = l.total ≡ capped (weight_before l.checked l.out-items l.out-index)
