use Rattle.std.proofs.Common.{◌≡◌, ◌<◌, ℕ, None, length, slice_index_or, take}
use Rattle.obs_verify.specs.SignalNumbers.{signal_in}
use Rattle.obs_verify.proofs.signal_numbers.numbers_by_column.Given as goal

abbrev pub invariant-loop-k : goal.invariant-loop-k
invariant-loop-k l = record {
  long : length l.numbers.items ≡ l.width;
  told : (c : ℕ) → c < l.width → slice_index_or l.numbers.items c None ≡ signal_in (take l.k l.signals) c;
}
