use Rattle.mltl_tools.proofs.Joining.{watched_told}
use Rattle.mltl_tools.proofs.laws.compiled_and_watched.Goals as goal

pub returns : goal.returns
returns c = watched_told
