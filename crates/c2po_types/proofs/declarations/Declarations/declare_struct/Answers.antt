use Rattle.std.proofs.Common.{◌∙◌, sym, subst, map, []}
use Rattle.std.proofs.lemmas.Result.{err_from_is_err_and}
use Rattle.c2po_ast.specs.ItemShape.{field_shape}
use Rattle.c2po_types.specs.Checking.{Fails, in_turn}
use Rattle.c2po_types.specs.Items.{with_field}
use Rattle.c2po_types.proofs.Declaring.{struct-fails}
use Rattle.c2po_types.proofs.declarations.Declarations.declare_struct.Goals as goal

pub returns-in_err-table : goal.returns-in_err-table
returns-in_err-table c =
    let p = err_from_is_err_and c.from_residual.result c.from_residual.ensures.1 in
    rw (p.1, p.2) (struct-fails c.in_err-table.field-0.0 c.args.line c.args.name.now (map field_shape c.args.fields.now) c.args.self.now (sym c.contains.ensures ∙ c.if-contains.false)
    (subst (λ decls. Fails c.in_err-table.field-0.0 (in_turn (with_field c.args.line c.args.self.now) (map field_shape decls) [])) c.as_slice.ensures c.in_err-table.ensures))
