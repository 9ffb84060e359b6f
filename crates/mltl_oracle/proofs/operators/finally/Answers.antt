-- The loop takes one more time.
use Rattle.std.proofs.Common.{arith}
use Rattle.mltl_oracle.proofs.Steps.{some_start, some_next, some_end}
use Rattle.mltl_oracle.proofs.operators.finally.Goals as goal

pub loop-k-init : goal.loop-k-init
loop-k-init c = (some_start _ _, omega arith)

pub loop-k-preserved : goal.loop-k-preserved
loop-k-preserved c = (some_next _ _ _ _ _ _ c.loop-k.auto.k c.loop-k.invariant.0 c.later.ensures c.or-some.ensures, omega arith)

pub returns : goal.returns
returns c = some_end _ _ _ _ _ c.loop-k.invariant.0 (omega arith)
