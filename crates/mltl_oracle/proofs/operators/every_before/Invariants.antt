-- The times that the loop has passed.
use Rattle.std.proofs.Common.{◌≤◌, ◌+◌, max}
use Rattle.mltl_oracle.specs.Computing.{known_verdict}
use Rattle.mltl_oracle.proofs.Steps.{EverySo}
use Rattle.mltl_oracle.proofs.operators.every_before.Given as goal

abbrev pub invariant-loop-j : goal.invariant-loop-j
invariant-loop-j l = EverySo l.lo l.j (λ j. known_verdict l.turned l.ps (l.t + j)) l.every × l.j ≤ max l.lo l.end
