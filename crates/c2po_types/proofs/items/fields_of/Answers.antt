use Rattle.std.proofs.Common.{◌∙◌, sym, subst}
use Rattle.std.proofs.lemmas.Result.{err_from_is_err_and}
use Rattle.c2po_ast.specs.ItemShape.{field_shape}
use Rattle.c2po_types.specs.Checking.{Fails}
use Rattle.c2po_types.specs.Items.{with_field}
use Rattle.c2po_types.proofs.Turns.{turn-map, turn-more, turn-fails}
use Rattle.c2po_types.proofs.items.fields_of.Goals as goal

pub loop-decl-init : goal.loop-decl-init
loop-decl-init c = rw c.new-fields.ensures (turn-map (with_field c.args.line c.args.declared.now) field_shape c.args.decls.now _)

pub loop-decl-preserved : goal.loop-decl-preserved
loop-decl-preserved c = sym (turn-more (λ f. with_field c.args.line c.args.declared.now (field_shape f)) c.args.decls.now c.loop-decl.decl-index c.decl-item.result c.loop-decl.fields
    c.loop-decl-test.true c.decl-item.is c.add_field.new.fields c.in_ok-add_field.ensures) ∙ c.loop-decl.invariant

pub returns-in_err-add_field : goal.returns-in_err-add_field
returns-in_err-add_field c =
    let p = err_from_is_err_and c.from_residual.result c.from_residual.ensures.1 in
    rw (p.1, p.2) (subst (Fails c.in_err-add_field.field-0.0) c.loop-decl.invariant
    (turn-fails (λ f. with_field c.args.line c.args.declared.now (field_shape f)) c.args.decls.now c.loop-decl.decl-index c.decl-item.result c.loop-decl.fields
    c.loop-decl-test.true c.decl-item.is _ c.in_err-add_field.ensures))
