use Rattle.std.proofs.Common.{◌≡◌, ◌≤◌, ◌<◌, ◌+◌, ◌-◌, ℕ, All, length, slice_index}
use Rattle.delay_sizes.proofs.queues.lengths_of.Given as goal

abbrev pub invariant-loop-g : goal.invariant-loop-g
invariant-loop-g l = record {
  len : length l.sizes ≡ l.g;
  each : (k : ℕ) → k < l.g → slice_index l.sizes k ≡ slice_index l.widths k - slice_index l.best k + 1;
  small : All (λ n. n ≤ 16777217) l.sizes;
}
