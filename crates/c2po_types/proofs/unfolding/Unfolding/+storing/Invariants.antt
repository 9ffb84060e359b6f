use Rattle.std.proofs.Common.{take, ◌+◌, ◌*◌}
use Rattle.c2po_types.proofs.Loops.{BuiltSoFar}
use Rattle.c2po_types.proofs.unfolding.Unfolding.+storing.Given as goal

abbrev pub decreases-store : goal.decreases-store
decreases-store l = 2 * l.at.depth

abbrev pub decreases-store_all : goal.decreases-store_all
decreases-store_all l = 2 * l.at.depth + 1

abbrev pub invariant-store_all-loop-e : goal.invariant-store_all-loop-e
invariant-store_all-loop-e l = BuiltSoFar l.fn.self l.self l.at.scope.now (take l.e-index l.es) l.members l.room l.left
