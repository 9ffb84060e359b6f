-- The times that the loop has passed.
use Rattle.std.proofs.Common.{◌-◌, Some, slice_get}
use Rattle.mltl_base.specs.Kleene.{k_and}
use Rattle.mltl_base.specs.Meaning.{within}
use Rattle.mltl_oracle.proofs.Steps.{SomeBelow}
use Rattle.mltl_oracle.proofs.operators.once.Given as goal

abbrev pub invariant-loop-m : goal.invariant-loop-m
invariant-loop-m l = SomeBelow l.m (λ m. k_and (Some (within l.i (l.t - m))) (slice_get l.ps m)) l.some
