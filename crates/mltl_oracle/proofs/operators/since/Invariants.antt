-- The times that the loop has passed.
use Rattle.std.proofs.Common.{◌-◌, suc, Some, slice_get}
use Rattle.mltl_base.specs.Kleene.{k_and, k_every_in}
use Rattle.mltl_base.specs.Meaning.{within}
use Rattle.mltl_oracle.proofs.Steps.{SomeBelow}
use Rattle.mltl_oracle.proofs.operators.since.Given as goal

abbrev pub invariant-loop-m : goal.invariant-loop-m
invariant-loop-m l = SomeBelow l.m (λ m. k_and (Some (within l.i (l.t - m))) (k_and (slice_get l.qs m) (k_every_in (suc m) (suc l.t) (slice_get l.ps)))) l.some
