use Rattle.std.proofs.Common.{◌≡◌, take}
use Rattle.std.specs.List.{flat_map}
use Rattle.obs_binary.specs.Layout.{signal_name}
use Rattle.obs_binary.proofs.writer.joined_signal_names.Given as goal

abbrev pub invariant-loop-signal : goal.invariant-loop-signal
invariant-loop-signal l = l.names.items ≡ flat_map signal_name (take l.signal-index l.signals)
