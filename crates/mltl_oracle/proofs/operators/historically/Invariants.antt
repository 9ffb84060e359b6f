-- The times that the loop has passed.
use Rattle.std.proofs.Common.{◌-◌, not, Some, slice_get}
use Rattle.mltl_base.specs.Kleene.{k_or}
use Rattle.mltl_base.specs.Meaning.{within}
use Rattle.mltl_oracle.proofs.Steps.{EveryBelow}
use Rattle.mltl_oracle.proofs.operators.historically.Given as goal

abbrev pub invariant-loop-m : goal.invariant-loop-m
invariant-loop-m l = EveryBelow l.m (λ m. k_or (Some (not (within l.i (l.t - m)))) (slice_get l.ps m)) l.every
