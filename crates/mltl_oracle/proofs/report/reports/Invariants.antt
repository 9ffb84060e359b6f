-- The reports of the rows that the loop has passed.
use Rattle.std.proofs.Common.{◌≡◌, map, take}
use Rattle.mltl_base.specs.Reports.{reports}
use Rattle.mltl_oracle.specs.Shapes.{as_output}
use Rattle.mltl_oracle.proofs.report.reports.Given as goal

abbrev pub invariant-loop-n : goal.invariant-loop-n
invariant-loop-n l = l.told ≡ reports l.style (map as_output l.outs) (take l.n l.rows)
