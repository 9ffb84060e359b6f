use Rattle.trace_feed.proofs.FitLaws.{row_fits}
use Rattle.trace_feed.proofs.laws.rows_are_fit.Goals as goal

pub returns : goal.returns
returns c = row_fits
