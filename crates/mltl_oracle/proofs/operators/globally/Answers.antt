-- The loop takes one more time.
use Rattle.std.proofs.Common.{arith}
use Rattle.mltl_oracle.proofs.Steps.{every_start, every_next, every_end}
use Rattle.mltl_oracle.proofs.operators.globally.Goals as goal

pub loop-k-init : goal.loop-k-init
loop-k-init c = (every_start _ _, omega arith)

pub loop-k-preserved : goal.loop-k-preserved
loop-k-preserved c = (every_next _ _ _ _ _ _ c.loop-k.auto.k c.loop-k.invariant.0 c.later.ensures c.and-every.ensures, omega arith)

pub returns : goal.returns
returns c = every_end _ _ _ _ _ c.loop-k.invariant.0 (omega arith)
