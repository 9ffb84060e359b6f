use Rattle.std.proofs.Common.{◌≡◌, ◌++◌, take}
use Rattle.std.specs.List.{flat_map, AllByRecursion}
use Rattle.obs_binary.specs.Layout.{signal_entry, signal_head, FitsSignal}
use Rattle.obs_binary.proofs.writer.put_signals.Given as goal

abbrev pub invariant-loop-signal : goal.invariant-loop-signal
invariant-loop-signal l = record {
  written : l.out.items ≡ l.initial.out.items ++ flat_map (λ s. signal_entry (signal_head s)) (take l.signal-index l.signals);
  fits : AllByRecursion FitsSignal (take l.signal-index l.signals);
}
