use Rattle.std.proofs.Common.{take, ◌+◌, ◌*◌}
use Rattle.c2po_types.proofs.Loops.{WeighedSoFar, JoinedSoFar, GatheredSoFar}
use Rattle.c2po_types.proofs.unfolding.Unfolding.+summing.Given as goal

abbrev pub decreases-summary : goal.decreases-summary
decreases-summary l = 5 * l.at.depth

abbrev pub decreases-parts_summary : goal.decreases-parts_summary
decreases-parts_summary l = 5 * l.at.depth + 1

abbrev pub decreases-operator : goal.decreases-operator
decreases-operator l = 5 * l.at.depth + 4

abbrev pub decreases-unary : goal.decreases-unary
decreases-unary l = 5 * l.at.depth + 1

abbrev pub decreases-binary : goal.decreases-binary
decreases-binary l = 5 * l.at.depth + 1

abbrev pub decreases-joined_bodies : goal.decreases-joined_bodies
decreases-joined_bodies l = 5 * l.at.depth + 2

abbrev pub decreases-body : goal.decreases-body
decreases-body l = 5 * l.at.depth + 1

abbrev pub decreases-counted_bodies : goal.decreases-counted_bodies
decreases-counted_bodies l = 5 * l.at.depth + 3

abbrev pub decreases-gather : goal.decreases-gather
decreases-gather l = 5 * l.at.depth + 2

abbrev pub invariant-parts_summary-loop-e : goal.invariant-parts_summary-loop-e
invariant-parts_summary-loop-e l = WeighedSoFar l.self l.at.scope.now (take l.e-index l.es) l.room l.left

abbrev pub invariant-joined_bodies-loop-i : goal.invariant-joined_bodies-loop-i
invariant-joined_bodies-loop-i l = JoinedSoFar l.self l.at.scope.now l.set l.bodies l.op l.room l.i l.all l.last

abbrev pub invariant-gather-loop-i : goal.invariant-gather-loop-i
invariant-gather-loop-i l = GatheredSoFar l.self l.at.scope.now l.set l.bodies l.fn.room l.i l.fact l.left l.last
