-- The loop takes one more time.
use Rattle.std.proofs.Common.{arith}
use Rattle.mltl_oracle.proofs.Steps.{every_start, every_next}
use Rattle.mltl_oracle.proofs.operators.every_before.Goals as goal

pub loop-j-init : goal.loop-j-init
loop-j-init c = (every_start _ _, omega arith)

pub loop-j-preserved : goal.loop-j-preserved
loop-j-preserved c = (every_next _ _ _ _ _ _ c.loop-j.auto.j c.loop-j.invariant.0 c.seen.ensures c.and-every.ensures, omega arith)
