use Rattle.r2u2_monitor.proofs.FewReports.{opens_few}
use Rattle.r2u2_monitor.proofs.laws.rows_bring_few_reports.Goals as goal

pub returns : goal.returns
returns c = opens_few
