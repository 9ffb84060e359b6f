use Rattle.std.proofs.Common.{◌≡◌, ℕ, ◌<◌, length, map, max, slice_index, take}
use Rattle.mltl_base.specs.Queues.{reported, widest_beside}
use Rattle.delay_sizes.proofs.queues.widen_by_outputs.Given as goal

abbrev pub invariant-loop-out : goal.invariant-loop-out
invariant-loop-out l = (g : ℕ) → g < length l.worst → slice_index l.widths g ≡ max (slice_index l.initial.widths g) (widest_beside l.worst (map reported (take l.out-index l.out-items)) g)
