-- One row more was told.
use Rattle.std.proofs.Common.{◌∙◌, arith, rules}
use Rattle.mltl_oracle.proofs.Rows.{rows_more, rows_none, outputs_first}
use Rattle.mltl_oracle.proofs.report.reports.Goals as goal

pub loop-n-init : goal.loop-n-init
loop-n-init c = c.new-told.ensures ∙ rows_none _ _ c.args.rows.now

pub loop-n-preserved : goal.loop-n-preserved
loop-n-preserved c = rows_more _ _ _ _ _ _ (omega arith) c.loop-n.invariant c.in_ok-report_row.ensures.told

pub returns-in_err-report_row-clause-cause : goal.returns-in_err-report_row-clause-cause
returns-in_err-report_row-clause-cause c = λ h.
    let g = c.in_err-report_row.ensures.cause (outputs_first c.loop-n.n c.args.rows.now c.args.outs.now h) in
    search (rules, g)
