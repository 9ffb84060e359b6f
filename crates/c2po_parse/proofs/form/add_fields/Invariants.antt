use Rattle.std.proofs.Common.{◌≡◌, ◌++◌, map, take}
use Rattle.c2po_ast.specs.ItemShape.{type_shape, field_shape}
use Rattle.c2po_parse.specs.Grammar.{fields_for}
use Rattle.c2po_parse.proofs.form.add_fields.Given as goal

abbrev pub invariant-loop-name : goal.invariant-loop-name
invariant-loop-name l = map field_shape l.fields ≡ map field_shape l.fn.fields ++ fields_for (take l.name-index l.names) (type_shape l.kind)
