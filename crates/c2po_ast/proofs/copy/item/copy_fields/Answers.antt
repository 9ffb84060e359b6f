use Rattle.c2po_ast.specs.ItemShape.{field_shape}
use Rattle.c2po_ast.proofs.Copying.{copied-more}
use Rattle.c2po_ast.proofs.copy.item.copy_fields.Goals as goal

pub loop-field-preserved : goal.loop-field-preserved
loop-field-preserved c = copied-more field_shape c.args.fields.now c.loop-field.copies _ c.loop-field.field-index c.field-item.result c.in_ok-copy.copy
    c.loop-field-test.true c.field-item.is c.in_ok-copy.ensures c.loop-field.invariant c.in_ok-push.ensures.pushed
