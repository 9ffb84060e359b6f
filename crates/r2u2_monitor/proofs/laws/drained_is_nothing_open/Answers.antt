use Rattle.r2u2_monitor.proofs.Alike.{drained_alike}
use Rattle.r2u2_monitor.proofs.laws.drained_is_nothing_open.Goals as goal

pub returns : goal.returns
returns c = λ style monitor rows stands. (λ drained. drained style rows stands.taken, λ none. drained_alike monitor.running style rows stands.taken none)
