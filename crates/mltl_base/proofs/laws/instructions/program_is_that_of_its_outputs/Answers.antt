use Rattle.mltl_base.proofs.Returning.{lists_return, tensed_return}
use Rattle.mltl_base.proofs.laws.instructions.program_is_that_of_its_outputs.Goals as goal

pub returns-clause-tensed : goal.returns-clause-tensed
returns-clause-tensed c = tensed_return

pub returns-clause-lists : goal.returns-clause-lists
returns-clause-lists c = lists_return
