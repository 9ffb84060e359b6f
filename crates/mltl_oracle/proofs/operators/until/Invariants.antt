-- The times that the loop has passed.
use Rattle.std.proofs.Common.{◌≤◌, ◌+◌, max, suc}
use Rattle.mltl_base.specs.Kleene.{k_and, k_every_in}
use Rattle.mltl_oracle.specs.Computing.{known_verdict}
use Rattle.mltl_oracle.proofs.Steps.{SomeSo}
use Rattle.mltl_oracle.proofs.operators.until.Given as goal

abbrev pub invariant-loop-k : goal.invariant-loop-k
invariant-loop-k l = SomeSo l.fn.i.lo l.k (λ k. k_and (known_verdict l.turned l.qs (l.t + k)) (k_every_in l.fn.i.lo k (λ j. known_verdict l.turned l.ps (l.t + j)))) l.some × l.k ≤ max l.fn.i.lo (suc l.fn.i.hi)
