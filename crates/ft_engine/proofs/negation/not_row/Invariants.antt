use Rattle.std.proofs.Common.{◌+◌, ◌-◌, ◌*◌, ◌≤◌, max}
use Rattle.mltl_base.specs.Verdicts.{Known, k_negation}
use Rattle.scq_ring.specs.Runs.{frontier_of}
use Rattle.ft_engine.specs.Decisions.{Shown, GoesOn, operand_runs}
use Rattle.ft_engine.proofs.Going.{Told}
use Rattle.ft_engine.proofs.negation.not_row.Given as goal

abbrev pub invariant-turns : goal.invariant-turns
invariant-turns g l = record {
  goes_on : GoesOn l.initial.own l.initial.own_slots l.own l.own_slots;
  within : frontier_of l.own ≤ max (frontier_of l.initial.own) (frontier_of l.operand.ring.now);
  counted : l.steps + 2 * frontier_of l.initial.own ≤ l.initial.steps + 2 * frontier_of l.own;
  by_runs : l.steps + 2 * operand_runs l.operand (frontier_of l.own) ≤ l.initial.steps + 2 * operand_runs l.operand (frontier_of l.initial.own);
  told : (p : Known) → Shown l.operand.ring.now l.operand.slots.now p → Told (k_negation p) l.own l.own_slots (frontier_of l.initial.own);
}

abbrev pub decreases-turns : goal.decreases-turns
decreases-turns g l = frontier_of l.operand.ring.now - frontier_of l.own
