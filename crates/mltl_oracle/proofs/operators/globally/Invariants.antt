-- The times that the loop has passed.
use Rattle.std.proofs.Common.{◌≤◌, ◌+◌, max, suc, slice_get}
use Rattle.mltl_oracle.proofs.Steps.{EverySo}
use Rattle.mltl_oracle.proofs.operators.globally.Given as goal

abbrev pub invariant-loop-k : goal.invariant-loop-k
invariant-loop-k l = EverySo l.fn.i.lo l.k (λ k. slice_get l.ps (l.t + k)) l.every × l.k ≤ max l.fn.i.lo (suc l.fn.i.hi)
