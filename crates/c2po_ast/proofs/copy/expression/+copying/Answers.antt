use Rattle.std.proofs.Common.{◌≡◌, IfOk, subst}
use Rattle.c2po_ast.specs.Shape.{Shape, shape}
use Rattle.c2po_ast.proofs.Copying.{copied-more, enclosed-Build, enclosed-Group}
use Rattle.c2po_ast.proofs.copy.expression.+copying.Goals as goal

pub copy_all-loop-expr-preserved : goal.copy_all-loop-expr-preserved
copy_all-loop-expr-preserved t c = copied-more shape c.args.exprs.now c.loop-expr.copies.items _ c.loop-expr.expr-index c.expr-item.result c.in_ok-copy.copy
    c.loop-expr-test.true c.expr-item.is c.in_ok-copy.ensures c.loop-expr.invariant c.in_ok-push.ensures.items

pub copy_expr-returns-in-Build : goal.copy_expr-returns-in-Build
copy_expr-returns-in-Build t c = subst (λ (s : Shape). IfOk c.copy_enclosed.result (λ copy. shape copy ≡ s))
    (enclosed-Build c.args.expr.now c.in-Build.parts c.as_slice.result.now c.as_slice.ensures.value c.in-Build.name c.copy-in-Build.result
    c.in-Build.is c.copy-in-Build.ensures) c.copy_enclosed.ensures

pub copy_expr-returns-in-Group : goal.copy_expr-returns-in-Group
copy_expr-returns-in-Group t c = subst (λ (s : Shape). IfOk c.copy_enclosed-in-Group.result (λ copy. shape copy ≡ s))
    (enclosed-Group c.args.expr.now c.in-Group.members c.as_slice-in-Group.result.now c.as_slice-in-Group.ensures.value c.in-Group.is)
    c.copy_enclosed-in-Group.ensures
