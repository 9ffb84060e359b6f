use Rattle.mltl_tools.proofs.OneByOne.{not_one_by_one}
use Rattle.mltl_tools.proofs.laws.one_by_one_is_not_longest.Goals as goal

pub returns : goal.returns
returns c = not_one_by_one
