use Rattle.std.proofs.Common.{◌≡◌, ◌+◌, ◌<◌, ℕ, slice_index_or}
use Rattle.mltl_base.specs.declared.operators.BzOp.{BzOp}
use Rattle.mltl_base.specs.Programs.{FitsRow}
use Rattle.booleanizer.proofs.row_fit.is_fit.Given as goal

abbrev pub invariant-loop-op : goal.invariant-loop-op
invariant-loop-op g l = record {
  fit : (k : ℕ) (d : BzOp) → k < l.op-index → FitsRow l.fields (slice_index_or l.op-items k d);
  counted : l.steps ≡ l.initial.steps + l.op-index;
}
