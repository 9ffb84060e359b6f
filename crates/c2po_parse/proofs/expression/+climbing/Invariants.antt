use Rattle.std.proofs.Common.{◌+◌, ◌*◌}
use Rattle.c2po_parse.proofs.expression.+climbing.Given as goal

abbrev pub decreases-elements : goal.decreases-elements
decreases-elements l = 3 * l.room

abbrev pub decreases-follow : goal.decreases-follow
decreases-follow l = 3 * l.room

abbrev pub decreases-in_brackets : goal.decreases-in_brackets
decreases-in_brackets l = 3 * l.room + 1

abbrev pub decreases-operand : goal.decreases-operand
decreases-operand l = 3 * l.room

abbrev pub decreases-prefixed_operand : goal.decreases-prefixed_operand
decreases-prefixed_operand l = 3 * l.room + 1

abbrev pub decreases-quantified_operand : goal.decreases-quantified_operand
decreases-quantified_operand l = 3 * l.room + 2

abbrev pub decreases-whole : goal.decreases-whole
decreases-whole l = 3 * l.room
