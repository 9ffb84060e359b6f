use Rattle.std.proofs.Common.{◌≡◌, length}
use Rattle.c2po_types.specs.Kinds.{other_line}
use Rattle.c2po_types.proofs.operand.first_other.Given as goal

-- the first one stands among those that are left
abbrev pub invariant-loop-rest : goal.invariant-loop-rest
invariant-loop-rest l = other_line l.kind l.rest ≡ other_line l.kind l.operands

abbrev pub decreases-loop-rest : goal.decreases-loop-rest
decreases-loop-rest l = length l.rest
