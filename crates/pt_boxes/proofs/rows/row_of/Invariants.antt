use Rattle.std.proofs.Common.{◌+◌, ◌≤◌, take, sum_by}
use Rattle.mltl_base.specs.Queues.{boxes_of}
use Rattle.pt_boxes.specs.Tables.{LoadsMatchTable, HasTable, IsTruthTable, TruthTable}
use Rattle.pt_boxes.proofs.Turning.{Retold, Turned}
use Rattle.pt_boxes.proofs.rows.row_of.Given as goal

abbrev pub invariant-loop-i : goal.invariant-loop-i
invariant-loop-i g l = record {
  turned : Turned l.ops l.now l.nodes l.slab l.i;
  told : (loaded table : TruthTable) → IsTruthTable l.ops loaded (l.now + 1) table → LoadsMatchTable l.ops l.bz loaded l.now → HasTable l.ops table l.now l.initial.nodes l.initial.slab
      → Retold l.ops table l.now l.nodes l.slab l.i;
  counted : l.steps ≤ l.initial.steps + sum_by (λ op. boxes_of op + 2) (take l.i l.ops);
}
