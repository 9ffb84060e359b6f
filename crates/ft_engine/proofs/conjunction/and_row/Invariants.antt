use Rattle.std.proofs.Common.{◌+◌, ◌-◌, ◌*◌, ◌≤◌, max}
use Rattle.mltl_base.specs.Verdicts.{Known, k_conjunction}
use Rattle.scq_ring.specs.Runs.{frontier_of}
use Rattle.ft_engine.specs.Decisions.{Shown, GoesOn, operand_runs}
use Rattle.ft_engine.proofs.Going.{Told}
use Rattle.ft_engine.proofs.conjunction.and_row.Given as goal

abbrev pub invariant-turns : goal.invariant-turns
invariant-turns g l = record {
  goes_on : GoesOn l.initial.own l.initial.own_slots l.own l.own_slots;
  within : frontier_of l.own ≤ max (frontier_of l.initial.own) (max (frontier_of l.left.ring.now) (frontier_of l.right.ring.now));
  counted : l.steps + 3 * frontier_of l.initial.own ≤ l.initial.steps + 3 * frontier_of l.own;
  by_runs : l.steps + 3 * (operand_runs l.left (frontier_of l.own) + operand_runs l.right (frontier_of l.own)) ≤ l.initial.steps + 3 * (operand_runs l.left (frontier_of l.initial.own) + operand_runs l.right (frontier_of l.initial.own));
  told : (p q : Known) → Shown l.left.ring.now l.left.slots.now p → Shown l.right.ring.now l.right.slots.now q → Told (k_conjunction p q) l.own l.own_slots (frontier_of l.initial.own);
}

abbrev pub decreases-turns : goal.decreases-turns
decreases-turns g l = max (frontier_of l.left.ring.now) (frontier_of l.right.ring.now) - frontier_of l.own
