use Rattle.std.proofs.Common.{drop, map}
use Rattle.c2po_ast.specs.ItemShape.{item_shape}
use Rattle.set_expand.specs.Unfolded.{Leaves}
use Rattle.set_expand.proofs.expanding.unfold_all.Given as goal

-- what is left to be unfolded makes the whole
abbrev pub invariant-loop-i : goal.invariant-loop-i
invariant-loop-i l = Leaves l.unfolded (map item_shape (drop l.i l.items)) (map item_shape l.items)
