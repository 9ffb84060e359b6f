use Rattle.std.proofs.Common.{◌<◌, ℕ}
use Rattle.ft_engine.specs.Queues.{KeepsSeats, op_at, queue_at}
use Rattle.ft_engine.specs.Restarts.{IsEmptied}
use Rattle.ft_engine.proofs.restart.restart.Given as goal

abbrev pub invariant-loop-i : goal.invariant-loop-i
invariant-loop-i l = record {
  seats : KeepsSeats l.fn.queues l.queues;
  emptied : (j : ℕ) → j < l.i → IsEmptied (op_at l.ops j) (queue_at l.queues j);
}
