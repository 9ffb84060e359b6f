use Rattle.std.specs.Prelude.{◌≡◌, Option, Some, None, Result, Ok, Err, ⊤}
use Rattle.c2po_parse.specs.declared.tree_fault.TreeFault.{TreeFault}
use Rattle.c2po_parse.specs.declared.tree_fault.TreeFault.TheVariants.{NoTree, Memory}

-- The code's result, through the view, is the tree that the definition finds. If there is a tree, the only fault is out of
-- memory.
abbrev pub GivesTree : {X Y : Type 0} → (X → Y) → Result X TreeFault → Option Y → Type 0
GivesTree view (Ok x) o = o ≡ Some (view x)
GivesTree view (Err NoTree) o = o ≡ None
GivesTree view (Err Memory) o = ⊤
