use Rattle.std.proofs.Common.{◌≡◌, drop}
use Rattle.c2po_ast.specs.Shape.{shapes}
use Rattle.c2po_types.specs.Scopes.{visible}
use Rattle.c2po_types.specs.Expressions.{operand_kinds}
use Rattle.c2po_types.proofs.Operands.{ahead}
use Rattle.c2po_types.proofs.expression.+kinds.Given as goal

-- the kinds so far and those of what is left are all
abbrev pub invariant-kinds_of-loop-operand : goal.invariant-kinds_of-loop-operand
invariant-kinds_of-loop-operand l = ahead l.kinds.items (operand_kinds (shapes (drop l.operand-index l.operands)) (visible l.scope)) ≡ operand_kinds (shapes l.operands) (visible l.scope)
