use Rattle.std.proofs.Common.{length}
use Rattle.c2po_types.proofs.unfolding.+first_of.Given as goal

abbrev pub decreases-first_of : goal.decreases-first_of
decreases-first_of l = length l.members.now
