use Rattle.obs_verify.proofs.WellRaised.{all_within, signals_within}
use Rattle.obs_verify.proofs.checked.Checked.of.Goals as goal

pub signal_numbers_of-requires-clause-signals : goal.signal_numbers_of-requires-clause-signals
signal_numbers_of-requires-clause-signals c = signals_within c.args.program c.requires.well_formed

pub signal_numbers_of-requires-clause-reads : goal.signal_numbers_of-requires-clause-reads
signal_numbers_of-requires-clause-reads c = all_within c.args.program c.requires.well_formed
