-- One value for each time that the loop has passed.
use Rattle.std.proofs.Common.{slice_get}
use Rattle.mltl_oracle.specs.Computing.{k_operator}
use Rattle.mltl_oracle.proofs.Shaping.{FoundUpTo}
use Rattle.mltl_oracle.proofs.verdict.front_of.Given as goal

abbrev pub invariant-loop-t : goal.invariant-loop-t
invariant-loop-t l = FoundUpTo (k_operator l.op (slice_get l.ps) (slice_get l.qs)) l.t l.known
