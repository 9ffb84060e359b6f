use Rattle.std.proofs.lemmas.Bool.{false≢true}
use Rattle.trace_columns.proofs.PlaceLaws.{places_other}
use Rattle.trace_columns.proofs.names.Places.add.Goals as goal

pub returns-in-None : goal.returns-in-None
returns-in-None c = λ names size known. places_other names c.args.self.now c.args.name.now known (λ fits. false≢true (c.in-None.ensures.fits.1 fits))
