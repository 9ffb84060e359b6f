-- What was told with the reports of the outputs that are left is all that is due.
use Rattle.std.proofs.Common.{drop, map, ◌++◌}
use Rattle.mltl_oracle.specs.Shapes.{as_output}
use Rattle.mltl_oracle.specs.Telling.{of_outputs}
use Rattle.mltl_oracle.proofs.Rows.{IsDue}
use Rattle.mltl_oracle.proofs.report.report_row.Given as goal

abbrev pub invariant-loop-k : goal.invariant-loop-k
invariant-loop-k l =
    IsDue l.told (l.initial.told ++ of_outputs l.style 0 (map as_output l.outs) l.before l.now) (of_outputs l.style l.k (map as_output (drop l.k l.outs)) l.before l.now)
