use Rattle.std.proofs.Common.{◌≡◌, ℕ, ◌<◌, length, map, max, slice_index, take}
use Rattle.mltl_base.specs.Queues.{operands, widest_beside}
use Rattle.delay_sizes.proofs.queues.widen_by_instructions.Given as goal

abbrev pub invariant-loop-op : goal.invariant-loop-op
invariant-loop-op l = (g : ℕ) → g < length l.worst → slice_index l.widths g ≡ max (slice_index l.initial.widths g) (widest_beside l.worst (map operands (take l.op-index l.op-items)) g)
