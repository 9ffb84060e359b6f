-- The times that the loop has passed.
use Rattle.std.proofs.Common.{◌≤◌, ◌+◌, max, suc, slice_get}
use Rattle.mltl_oracle.proofs.Steps.{SomeSo}
use Rattle.mltl_oracle.proofs.operators.finally.Given as goal

abbrev pub invariant-loop-k : goal.invariant-loop-k
invariant-loop-k l = SomeSo l.fn.i.lo l.k (λ k. slice_get l.ps (l.t + k)) l.some × l.k ≤ max l.fn.i.lo (suc l.fn.i.hi)
