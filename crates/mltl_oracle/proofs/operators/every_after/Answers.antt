-- The loop takes one more time.
use Rattle.std.proofs.Common.{arith}
use Rattle.mltl_oracle.proofs.Steps.{every_start, every_next, after_end}
use Rattle.mltl_oracle.proofs.operators.every_after.Goals as goal

pub loop-k-init : goal.loop-k-init
loop-k-init c = every_start _ _

pub loop-k-preserved : goal.loop-k-preserved
loop-k-preserved c = every_next _ _ _ _ _ _ c.loop-k.auto.k c.loop-k.invariant c.known.ensures c.and-every.ensures

pub returns : goal.returns
returns c = after_end _ _ _ _ _ c.loop-k.invariant (omega arith)
