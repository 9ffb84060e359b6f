use Rattle.r2u2_monitor.proofs.Fitting.{column_fits}
use Rattle.r2u2_monitor.proofs.laws.fit_rows_fit_each_column.Goals as goal

pub returns-clause-holds : goal.returns-clause-holds
returns-clause-holds c = λ program row column fit. column_fits program row fit column
