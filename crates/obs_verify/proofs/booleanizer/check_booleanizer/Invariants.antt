use Rattle.std.proofs.Common.{◌≡◌, ◌≤◌, drop, length}
use Rattle.std.specs.Vec.{vec_capacity, vec_len}
use Rattle.obs_verify.specs.InstructionRanges.{AreRanges}
use Rattle.obs_verify.specs.WellFormed.{bz_fault, first_in}
use Rattle.obs_verify.proofs.booleanizer.check_booleanizer.Given as goal

abbrev pub invariant-loop-op : goal.invariant-loop-op
invariant-loop-op l = record {
  passed : first_in (bz_fault l.program) l.op-index (drop l.op-index l.op-items) ≡ first_in (bz_fault l.program) 0 l.op-items;
  long : vec_len l.before ≡ l.op-index;
  known : AreRanges l.program.bz l.before.items;
  enough : length l.op-items ≤ vec_capacity l.before;
}
