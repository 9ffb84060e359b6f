use Rattle.std.proofs.Common.{◌≡◌, map, take}
use Rattle.obs_verify.specs.SignalNumbers.{signal_read}
use Rattle.obs_verify.proofs.signal_numbers.signal_numbers_of.Given as goal

abbrev pub invariant-loop-op : goal.invariant-loop-op
invariant-loop-op l = l.signal_numbers ≡ map (signal_read l.program.signals) (take l.op-index l.op-items)
