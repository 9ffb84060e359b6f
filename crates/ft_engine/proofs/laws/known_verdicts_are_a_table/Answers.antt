use Rattle.ft_engine.proofs.Tabled.{is_table}
use Rattle.ft_engine.proofs.laws.known_verdicts_are_a_table.Goals as goal

pub returns-clause-table : goal.returns-clause-table
returns-clause-table c = λ plan rows loaded ops planned. is_table plan rows loaded ops planned
