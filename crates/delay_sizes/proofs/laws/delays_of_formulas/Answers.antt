use Rattle.delay_sizes.proofs.FormulaLaws.{best_of_formulas, worst_of_formulas}
use Rattle.delay_sizes.proofs.laws.delays_of_formulas.Goals as goal

pub returns-clause-best : goal.returns-clause-best
returns-clause-best c = best_of_formulas

pub returns-clause-worst : goal.returns-clause-worst
returns-clause-worst c = worst_of_formulas
