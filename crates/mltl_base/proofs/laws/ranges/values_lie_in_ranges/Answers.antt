-- That a value lies in its range is the lemma itself.
use Rattle.mltl_base.proofs.Ranging.{value_in_range}
use Rattle.mltl_base.proofs.laws.ranges.values_lie_in_ranges.Goals as goal

pub returns-clause-lies : goal.returns-clause-lies
returns-clause-lies c = value_in_range
