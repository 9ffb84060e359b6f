use Rattle.std.proofs.Common.{◌≡◌, ◌≤◌, map, take, All}
use Rattle.mltl_base.specs.Queues.{boxes_of}
use Rattle.delay_sizes.proofs.boxes.box_counts.Given as goal

abbrev pub invariant-loop-op : goal.invariant-loop-op
invariant-loop-op l = record {
  counted : l.sizes ≡ map boxes_of (take l.op-index l.pt);
  small : All (λ n. n ≤ 1048576) l.sizes;
}
