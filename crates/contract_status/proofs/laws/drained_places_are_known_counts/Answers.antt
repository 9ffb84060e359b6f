use Rattle.contract_status.proofs.Draining.{counts_drained, placed_after_row}
use Rattle.contract_status.proofs.laws.drained_places_are_known_counts.Goals as goal

pub returns-clause-drained : goal.returns-clause-drained
returns-clause-drained c = λ style program rows. counts_drained style program rows

pub returns-clause-placed : goal.returns-clause-placed
returns-clause-placed c = λ program rows row. placed_after_row program rows row
