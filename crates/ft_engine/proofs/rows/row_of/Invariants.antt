use Rattle.std.proofs.Common.{ℕ, ◌+◌, ◌<◌, ◌≤◌, ◌^◌}
use Rattle.ft_engine.specs.Queues.{KeepsSeats, size_in, work_before}
use Rattle.ft_engine.specs.Tables.{AgreeOnLoads, Loads, VerdictTable, QueuesTake}
use Rattle.ft_engine.specs.Plans.{Plan, IsPaced}
use Rattle.ft_engine.proofs.Turning.{Turned, Retold}
use Rattle.ft_engine.proofs.rows.row_of.Given as goal

abbrev pub invariant-loop-i : goal.invariant-loop-i
invariant-loop-i g l = record {
  seats : KeepsSeats l.initial.queues l.queues;
  turned : (plan : Plan) (n : ℕ) → n < 2 ^ 40 → IsPaced plan l.ops l.initial.queues l.initial.slab n → Turned plan l.ops l.queues l.slab n l.i;
  told : (plan : Plan) (truth : Loads) (n : ℕ) (old new : VerdictTable) → QueuesTake plan truth n l.ops l.initial.queues l.initial.slab old new
      → AgreeOnLoads l.ops (truth n) l.bz → Retold l.ops old new l.queues l.slab l.i;
  counted : l.steps ≤ l.initial.steps + work_before l.ops (size_in l.initial.queues) l.i;
}
