use Rattle.std.proofs.Common.{◌≡◌, ◌≤◌, length, map, take}
use Rattle.std.specs.Vec.{vec_capacity, vec_len}
use Rattle.mltl_base.specs.Room.{room}
use Rattle.obs_binary.proofs.reader.split.Given as goal

abbrev pub invariant-loop-op : goal.invariant-loop-op
invariant-loop-op g l = record {
  ops : l.ops.items ≡ map (λ x. x.0) (take l.op-index l.sized);
  sizes : l.sizes.items ≡ map (λ x. x.1) (take l.op-index l.sized);
  op_len : vec_len l.ops ≡ l.op-index;
  size_len : vec_len l.sizes ≡ l.op-index;
  op_room : vec_capacity l.ops ≡ room (length l.sized);
  size_room : vec_capacity l.sizes ≡ room (length l.sized);
  op_enough : length l.sized ≤ vec_capacity l.ops;
  size_enough : length l.sized ≤ vec_capacity l.sizes;
}
