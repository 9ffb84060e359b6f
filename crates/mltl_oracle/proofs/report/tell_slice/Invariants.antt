-- What was told with what is still to be told is all that is due.
use Rattle.std.proofs.Common.{drop, ◌++◌}
use Rattle.mltl_base.specs.Reports.{of_words}
use Rattle.mltl_oracle.proofs.Rows.{IsDue}
use Rattle.mltl_oracle.proofs.report.tell_slice.Given as goal

abbrev pub invariant-loop-t : goal.invariant-loop-t
invariant-loop-t l = IsDue l.told (l.initial.told ++ of_words l.fn.style l.fn.out l.fn.from (drop l.fn.from l.ws)) (of_words l.fn.style l.fn.out l.t (drop l.t l.ws))
