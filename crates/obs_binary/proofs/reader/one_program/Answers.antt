use Rattle.obs_binary.proofs.Whole.{one-program}
use Rattle.obs_binary.proofs.reader.one_program.Goals as goal

pub returns : goal.returns
returns c = one-program
