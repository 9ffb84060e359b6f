use Rattle.obs_binary.proofs.NameLaws.{names_upgraded}
use Rattle.obs_binary.proofs.laws.upgraded_names_fit.Goals as goal

pub returns : goal.returns
returns c = names_upgraded
