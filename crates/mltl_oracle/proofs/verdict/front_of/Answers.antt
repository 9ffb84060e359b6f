-- The list grows while values are known, and ends at the first that isn't.
use Rattle.std.proofs.Common.{arith}
use Rattle.mltl_oracle.proofs.Shaping.{found_more, found_end, found_stop}
use Rattle.mltl_oracle.proofs.verdict.front_of.Goals as goal

pub loop-t-preserved : goal.loop-t-preserved
loop-t-preserved c = found_more _ _ _ _ _ c.loop-t.invariant c.in-Some.ensures c.in_ok-push-in-Some.ensures.pushed

pub returns-in-None-clause-known : goal.returns-in-None-clause-known
returns-in-None-clause-known c = found_stop _ _ _ _ c.loop-t.invariant (omega arith) c.in-None.ensures

pub returns-clause-known : goal.returns-clause-known
returns-clause-known c = found_end _ _ _ _ c.loop-t.invariant (omega arith)
