-- One word for each time that the loop has passed.
use Rattle.std.proofs.Common.{slice_get}
use Rattle.mltl_base.specs.Reports.{status}
use Rattle.mltl_oracle.proofs.Shaping.{FoundUpTo}
use Rattle.mltl_oracle.proofs.report.statuses_of.Given as goal

abbrev pub invariant-loop-t : goal.invariant-loop-t
invariant-loop-t l = FoundUpTo (λ t. status (slice_get l.ps t) (slice_get l.qs t)) l.t l.ws
