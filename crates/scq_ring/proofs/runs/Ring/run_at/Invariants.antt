use Rattle.std.proofs.Common.{◌-◌}
use Rattle.scq_ring.specs.Runs.{IsAround}
use Rattle.scq_ring.proofs.runs.Ring.run_at.Given as goal

abbrev pub invariant-halving : goal.invariant-halving
invariant-halving l = record {
  around : IsAround l.self l.slots l.from l.first l.last;
}

abbrev pub decreases-halving : goal.decreases-halving
decreases-halving l = l.last - l.first
