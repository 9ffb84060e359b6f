use Rattle.std.proofs.Common.{◌+◌, ◌<◌, ◌≤◌}
use Rattle.scq_ring.specs.Runs.{runs_of, upto_at}
use Rattle.scq_ring.proofs.runs.Ring.newest_around.Given as goal

-- the run `last` doesn't end before the time that is looked for, and a step isn't longer than what was gone back, and one
abbrev pub invariant-back : goal.invariant-back
invariant-back l = record {
  onward : 0 < l.step;
  paced : l.step + l.last ≤ l.self.used;
  reached : l.from ≤ upto_at (runs_of l.self l.slots) l.last;
}

abbrev pub decreases-back : goal.decreases-back
decreases-back l = l.last
