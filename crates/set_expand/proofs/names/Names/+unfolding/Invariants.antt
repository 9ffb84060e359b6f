use Rattle.std.proofs.Common.{◌+◌, ◌*◌}
use Rattle.c2po_types.specs.Operators.{bodies_over}
use Rattle.set_expand.specs.Heads.{env_in, head_value}
use Rattle.set_expand.proofs.Gates.{CountedSoFar}
use Rattle.set_expand.proofs.Joining.{JoinedSoFar}
use Rattle.set_expand.proofs.names.Names.+unfolding.Given as goal

abbrev pub decreases-made : goal.decreases-made
decreases-made l = 8 * l.at.depth

abbrev pub decreases-number : goal.decreases-number
decreases-number l = 8 * l.at.depth + 1

abbrev pub decreases-formula : goal.decreases-formula
decreases-formula l = 8 * l.at.depth + 1

abbrev pub decreases-numbers : goal.decreases-numbers
decreases-numbers l = 8 * l.at.depth + 2

abbrev pub decreases-formulas : goal.decreases-formulas
decreases-formulas l = 8 * l.at.depth + 2

abbrev pub decreases-body : goal.decreases-body
decreases-body l = 8 * l.at.depth + 2

abbrev pub decreases-unary : goal.decreases-unary
decreases-unary l = 8 * l.at.depth + 3

abbrev pub decreases-binary : goal.decreases-binary
decreases-binary l = 8 * l.at.depth + 3

abbrev pub decreases-joined : goal.decreases-joined
decreases-joined l = 8 * l.at.depth + 3

abbrev pub decreases-body_nodes : goal.decreases-body_nodes
decreases-body_nodes l = 8 * l.at.depth + 3

abbrev pub decreases-counted : goal.decreases-counted
decreases-counted l = 8 * l.at.depth + 4

abbrev pub decreases-operator : goal.decreases-operator
decreases-operator l = 8 * l.at.depth + 5

abbrev pub invariant-joined-loop-i : goal.invariant-joined-loop-i
invariant-joined-loop-i l =
    JoinedSoFar l.self l.fn.nodes l.nodes l.op (bodies_over l.bodies (env_in l.self l.at.scope.now) (head_value l.self l.set)) l.i l.all

abbrev pub invariant-body_nodes-loop-i : goal.invariant-body_nodes-loop-i
invariant-body_nodes-loop-i l =
    CountedSoFar l.self l.fn.nodes l.nodes (bodies_over l.bodies (env_in l.self l.at.scope.now) (head_value l.self l.set)) l.i l.places.items
