use Rattle.std.proofs.Common.{◌∙◌, sym, subst}
use Rattle.std.proofs.lemmas.Result.{err_from_is_err_and}
use Rattle.c2po_types.specs.Checking.{Gives, Fails}
use Rattle.c2po_types.specs.Scopes.{visible}
use Rattle.c2po_types.proofs.Operands.{build-fails, group-fails, build-kind, group-kind, kinds-more, kinds-fail}
use Rattle.c2po_types.proofs.expression.+kinds.Goals as goal

pub kind_of-returns-in_err-kinds-in-Build : goal.kind_of-returns-in_err-kinds-in-Build
kind_of-returns-in_err-kinds-in-Build t c =
    let p = err_from_is_err_and c.from_residual.result c.from_residual.ensures.1 in
    rw (p.1, p.2) (record {
      kind = build-fails c.args.expr.now c.in-Build.arguments c.as_slice.result.now (visible c.args.scope.now) c.as_slice.ensures.value
          c.in-Build.name _ c.in-Build.is c.in_err-kinds-in-Build.ensures;
    })

pub kind_of-returns-in_err-kinds-in-Group : goal.kind_of-returns-in_err-kinds-in-Group
kind_of-returns-in_err-kinds-in-Group t c =
    let p = err_from_is_err_and c.from_residual-in_err-kinds-in-Group.result c.from_residual-in_err-kinds-in-Group.ensures.1 in
    rw (p.1, p.2) (record {
      kind = group-fails c.args.expr.now c.in-Group.elements c.as_slice-in-Group.result.now (visible c.args.scope.now) c.as_slice-in-Group.ensures.value
          _ c.in-Group.is c.in_err-kinds-in-Group.ensures;
    })

pub kind_of-returns-in_ok-kinds-in-Build : goal.kind_of-returns-in_ok-kinds-in-Build
kind_of-returns-in_ok-kinds-in-Build t c = record {
  kind =
      subst (Gives c.built.result) (build-kind c.args.expr.now c.in-Build.arguments c.as_slice.result.now (visible c.args.scope.now) c.as_slice.ensures.value
      c.in-Build.name c.as_slice-in-Build.result.now _
      c.in-Build.is c.in_ok-kinds-in-Build.ensures c.as_slice-in-Build.ensures.value) c.built.ensures;
}

pub kind_of-returns-in_ok-kinds-in-Group : goal.kind_of-returns-in_ok-kinds-in-Group
kind_of-returns-in_ok-kinds-in-Group t c = record {
  kind =
      subst (Gives c.gather.result) (group-kind c.args.expr.now c.in-Group.elements c.as_slice-in-Group.result.now (visible c.args.scope.now) c.as_slice-in-Group.ensures.value
      c.as_slice-in-Group-2.result.now _ c.in-Group.is c.in_ok-kinds-in-Group.ensures c.as_slice-in-Group-2.ensures.value) c.gather.ensures;
}

pub kinds_of-loop-operand-preserved : goal.kinds_of-loop-operand-preserved
kinds_of-loop-operand-preserved t c =
    rw c.in_ok-push.ensures.items (sym (kinds-more c.args.operands.now c.loop-operand.operand-index (visible c.args.scope.now) c.loop-operand.kinds.items c.operand-item.result c.in_ok-kind.kind
    c.loop-operand-test.true c.operand-item.is c.in_ok-kind.ensures.kind) ∙ c.loop-operand.invariant)

pub kinds_of-returns-in_err-kind : goal.kinds_of-returns-in_err-kind
kinds_of-returns-in_err-kind t c =
    let p = err_from_is_err_and c.from_residual.result c.from_residual.ensures.1 in
    rw (p.1, p.2) (subst (Fails c.in_err-kind.field-0.0) c.loop-operand.invariant
    (kinds-fail c.args.operands.now c.loop-operand.operand-index (visible c.args.scope.now) c.loop-operand.kinds.items c.operand-item.result _
    c.loop-operand-test.true c.operand-item.is c.in_err-kind.ensures.kind))
