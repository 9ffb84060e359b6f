use Rattle.std.proofs.Common.{◌≡◌, ◌+◌, take}
use Rattle.std.specs.Prelude.{count_by}
use Rattle.obs_show.specs.Showing.{HasNumbers}
use Rattle.obs_show.proofs.instruction_names.operations_before.Given as goal

abbrev pub invariant-loop-op : goal.invariant-loop-op
invariant-loop-op g l = record {
  next : l.next ≡ l.fn.next + count_by g.T.Instruction.operation (take l.op-index l.ops);
  counts : HasNumbers l.op-index (λ i. l.fn.next + count_by g.T.Instruction.operation (take i l.ops)) l.counts.items;
}
