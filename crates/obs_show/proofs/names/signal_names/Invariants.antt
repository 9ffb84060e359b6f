use Rattle.std.proofs.Common.{◌≡◌, ℕ, List, take}
use Rattle.obs_verify.specs.Kinds.{has_name}
use Rattle.obs_show.specs.Naming.{is_signal_name}
use Rattle.obs_show.proofs.names.signal_names.Given as goal

abbrev pub invariant-loop-signal : goal.invariant-loop-signal
invariant-loop-signal l = (name : List ℕ) → has_name l.names name ≡ is_signal_name (take l.signal-index l.signals) name
