use Rattle.std.proofs.Common.{◌≡◌, map, take}
use Rattle.c2po_ast.specs.Shape.{shape}
use Rattle.c2po_ast.proofs.copy.expression.+copying.Given as goal

abbrev pub invariant-copy_all-loop-expr : goal.invariant-copy_all-loop-expr
invariant-copy_all-loop-expr l = map shape l.copies.items ≡ map shape (take l.expr-index l.exprs)
