use Rattle.std.proofs.Common.{◌≡◌, drop, map, []}
use Rattle.c2po_ast.specs.ItemShape.{field_shape}
use Rattle.c2po_types.specs.Checking.{in_turn}
use Rattle.c2po_types.specs.Items.{with_field}
use Rattle.c2po_types.proofs.items.fields_of.Given as goal

-- what is left to be added makes the whole of the fields
abbrev pub invariant-loop-decl : goal.invariant-loop-decl
invariant-loop-decl l = in_turn (λ f. with_field l.line l.declared (field_shape f)) (drop l.decl-index l.decls) l.fields
    ≡ in_turn (with_field l.line l.declared) (map field_shape l.decls) []
