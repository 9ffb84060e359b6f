use Rattle.contract_status.proofs.Draining.{entries_kept, entries_kept_after_row}
use Rattle.contract_status.proofs.laws.reads_are_kept.Goals as goal

pub returns-clause-placed : goal.returns-clause-placed
returns-clause-placed c = entries_kept

pub returns-clause-after_row : goal.returns-clause-after_row
returns-clause-after_row c = entries_kept_after_row
