-- The two facts on outputs and reports are the lemmas themselves.
use Rattle.mltl_base.proofs.Graphs.{program_unfolds, program_tells}
use Rattle.mltl_base.proofs.laws.instructions.program_means_its_specification.Goals as goal

pub returns-clause-outputs : goal.returns-clause-outputs
returns-clause-outputs c = program_unfolds

pub returns-clause-reports : goal.returns-clause-reports
returns-clause-reports c = program_tells
