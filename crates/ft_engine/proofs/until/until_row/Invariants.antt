use Rattle.std.proofs.Common.{◌+◌, ◌-◌, ◌*◌, ◌≤◌, max}
use Rattle.mltl_base.specs.Verdicts.{Known, k_until}
use Rattle.scq_ring.specs.Runs.{frontier_of}
use Rattle.ft_engine.specs.Decisions.{GoesOn, ShownBy}
use Rattle.ft_engine.specs.Scans.{Scan, steps_by_runs, steps_left}
use Rattle.ft_engine.proofs.Going.{Told}
use Rattle.ft_engine.proofs.until.until_row.Given as goal

abbrev pub invariant-turns : goal.invariant-turns
invariant-turns g l = record {
  goes_on : GoesOn l.initial.own l.initial.own_slots l.own l.own_slots;
  reach : frontier_of l.own + l.until.window.lo ≤ l.at.reads_at;
  onward : l.initial.reads_at ≤ l.at.reads_at;
  order : l.at.reads_at ≤ l.at.seen;
  in_time : l.at.seen ≤ max l.initial.reads_at (frontier_of l.until.right.ring.now);
  counted : l.steps + frontier_of l.initial.own + 3 * l.initial.reads_at ≤ l.initial.steps + frontier_of l.own + l.at.reads_at + 2 * l.at.seen;
  by_runs : l.steps + steps_left l.until (frontier_of l.own) l.at.reads_at l.at.seen ≤ l.initial.steps + steps_by_runs l.until l.initial.reads_at;
  told : (p q : Known) → ShownBy l.until.left p → ShownBy l.until.right q → Scan l.until.window p q (frontier_of l.initial.own) l.initial.reads_at l.initial.reads_at
      → Told (k_until l.until.window p q) l.own l.own_slots (frontier_of l.initial.own) × Scan l.until.window p q (frontier_of l.own) l.at.reads_at l.at.seen;
}

abbrev pub decreases-turns : goal.decreases-turns
decreases-turns g l = 3 * max l.initial.reads_at (frontier_of l.until.right.ring.now) - (frontier_of l.own + l.at.reads_at + l.at.seen)
