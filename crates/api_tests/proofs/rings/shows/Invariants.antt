use Rattle.scq_ring.specs.Runs.{Belongs}
use Rattle.api_tests.proofs.rings.shows.Given as goal

abbrev pub invariant-writes : goal.invariant-writes
invariant-writes g l = Belongs l.ring l.slots
