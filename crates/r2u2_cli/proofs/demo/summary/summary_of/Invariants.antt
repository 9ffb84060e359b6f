use Rattle.std.proofs.Common.{◌≡◌, List, ◌++◌, drop, map}
use Rattle.mltl_base.specs.declared.report.Report.{Report}
use Rattle.r2u2_cli.specs.Summary.{lines_from, listed_out, summary_of}
use Rattle.r2u2_cli.specs.Tallies.{AreTallies}
use Rattle.r2u2_cli.proofs.demo.summary.summary_of.Given as goal

abbrev pub invariant-loop-k : goal.invariant-loop-k
invariant-loop-k l = (told : List Report) → AreTallies l.tallies told
    → l.text.items ++ lines_from l.k (map listed_out (drop l.k l.outs)) told ≡ summary_of l.rows (map listed_out l.outs) told
