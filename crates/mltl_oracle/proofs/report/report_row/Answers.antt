-- One output more was told.
use Rattle.std.proofs.Common.{arith}
use Rattle.mltl_oracle.proofs.Rows.{row_more, row_end}
use Rattle.mltl_oracle.proofs.report.report_row.Goals as goal

pub loop-k-preserved : goal.loop-k-preserved
loop-k-preserved c =
    row_more _ _ _ _ _ _ _ _ _ _ _ _ (omega arith) c.index-outs-k.is c.in_ok-old.ensures.known c.in_ok-all.ensures.known c.len-from.ensures c.in_ok-tell.ensures.told c.loop-k.invariant

pub returns-clause-told : goal.returns-clause-told
returns-clause-told c = row_end _ _ _ _ _ _ _ c.loop-k-test.false c.loop-k.invariant
