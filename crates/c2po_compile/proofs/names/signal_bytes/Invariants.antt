use Rattle.std.proofs.Common.{◌≡◌, ◌≤◌, ◌*◌, take, length}
use Rattle.std.specs.List.{flat_map}
use Rattle.obs_binary.specs.Layout.{signal_name}
use Rattle.c2po_compile.proofs.names.signal_bytes.Given as goal

-- the bytes of the names so far, at most 64 of each
abbrev pub invariant-loop-signal : goal.invariant-loop-signal
invariant-loop-signal l = (l.bytes ≡ length (flat_map signal_name (take l.signal-index l.signals))) × (l.bytes ≤ 64 * l.signal-index)
