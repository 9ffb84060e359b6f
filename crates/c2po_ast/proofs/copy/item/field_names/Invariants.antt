use Rattle.std.proofs.Common.{◌≡◌, map, take}
use Rattle.c2po_ast.specs.ItemShape.{field_shape}
use Rattle.c2po_ast.proofs.copy.item.field_names.Given as goal

abbrev pub invariant-loop-field : goal.invariant-loop-field
invariant-loop-field l = l.names ≡ map (λ f. f.name) (map field_shape (take l.field-index l.fields))
