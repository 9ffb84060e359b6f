use Rattle.std.proofs.Common.{◌+◌, ◌*◌}
use Rattle.set_expand.proofs.plan.+naming.Given as goal

abbrev pub decreases-levels_of : goal.decreases-levels_of
decreases-levels_of l = 2 * l.depth

abbrev pub decreases-levels_of_both : goal.decreases-levels_of_both
decreases-levels_of_both l = 2 * l.depth + 1

abbrev pub decreases-levels_of_all : goal.decreases-levels_of_all
decreases-levels_of_all l = 2 * l.depth + 1
