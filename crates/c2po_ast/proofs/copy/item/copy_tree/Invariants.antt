use Rattle.std.proofs.Common.{◌≡◌, map, take}
use Rattle.c2po_ast.specs.ItemShape.{item_shape}
use Rattle.c2po_ast.proofs.copy.item.copy_tree.Given as goal

abbrev pub invariant-loop-item : goal.invariant-loop-item
invariant-loop-item l = map item_shape l.items ≡ map item_shape (take l.item-index l.item-items)
