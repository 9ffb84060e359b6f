-- The times that the loop has passed.
use Rattle.std.proofs.Common.{◌+◌, slice_get}
use Rattle.mltl_oracle.proofs.Steps.{EverySo}
use Rattle.mltl_oracle.proofs.operators.every_after.Given as goal

abbrev pub invariant-loop-k : goal.invariant-loop-k
invariant-loop-k l = EverySo (l.m + 1) l.k (slice_get l.ps) l.every
