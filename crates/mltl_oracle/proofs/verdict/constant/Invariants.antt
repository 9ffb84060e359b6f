-- As many truths as rows that the loop has passed.
use Rattle.std.proofs.Common.{◌≡◌, replicate}
use Rattle.mltl_oracle.proofs.verdict.constant.Given as goal

abbrev pub invariant-loop : goal.invariant-loop
invariant-loop l = l.known ≡ replicate l.index l.b
