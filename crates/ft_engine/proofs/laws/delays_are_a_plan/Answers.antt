use Rattle.ft_engine.proofs.Planning.{planned_for}
use Rattle.ft_engine.proofs.laws.delays_are_a_plan.Goals as goal

pub returns : goal.returns
returns c = record { plan = λ ops outs order bounds. planned_for ops outs order bounds }
