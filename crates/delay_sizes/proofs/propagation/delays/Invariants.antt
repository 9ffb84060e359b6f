use Rattle.std.proofs.Common.{◌≡◌, ℕ, ◌≤◌, length, drop, slice_index, All}
use Rattle.mltl_base.specs.Queues.{best_of, worst_of, best_delays, worst_delays, numbered_after}
use Rattle.delay_sizes.proofs.propagation.delays.Given as goal

abbrev pub invariant-loop-i : goal.invariant-loop-i
invariant-loop-i l = record {
  best_len : length l.best ≡ l.i;
  worst_len : length l.worst ≡ l.i;
  best : numbered_after best_of l.best (drop l.i l.op-items) ≡ best_delays l.op-items;
  worst : numbered_after worst_of l.worst (drop l.i l.op-items) ≡ worst_delays l.op-items;
  in_time : All (λ d. d ≤ 16777216) l.worst;
  below : (k : ℕ) → slice_index l.best k ≤ slice_index l.worst k;
}
