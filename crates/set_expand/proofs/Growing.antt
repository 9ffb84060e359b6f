-- Nodes that get one more, and operators over their operands' nodes.

use Rattle.std.proofs.Common.{Some, ℕ, List, [], ◌∷◌, ◌++◌, subst}
use Rattle.mltl_base.specs.declared.operators.LogicOp.{LogicOp}
use Rattle.mltl_base.specs.Formula.{Formula}
use Rattle.mltl_base.specs.Tables.{Table}
use Rattle.c2po_ast.specs.declared.nodes.Plain.{Plain}
use Rattle.c2po_ast.specs.declared.nodes.Plain.TheVariants as plain
use Rattle.c2po_ast.specs.Nodes.{Grows, number, formula, node_formula, connected, tree_of, trees, Has, IsFormed}
use Rattle.c2po_ast.proofs.Pushing.{grows_same, grows_then, grows_push, sound_push, formula_in_place}
use Rattle.set_expand.specs.declared.names.Declared.{Declared}
use Rattle.set_expand.specs.Names.{SignalsBelow}
use Rattle.set_expand.specs.declared.names.Entry.{Entry}
use Rattle.set_expand.specs.declared.names.Entry.TheVariants as entry
use Rattle.set_expand.specs.declared.nodes.Made.{Made}
use Rattle.set_expand.specs.declared.nodes.Made.TheVariants as made
use Rattle.set_expand.specs.Nodes.{HaveNodes, IsKept, IsMade, IsMore}
use Rattle.c2po_types.specs.Values.{Value}

-- what is kept stays where nodes get more
made_later : (old new : List Plain) (m : Made) (v : Value) → Grows old new → IsMade old m v → IsMade new m v
made_later old new (made.Number n) v g h = (h.0, h.1, g.kept n (number h.0) h.2)
made_later old new (made.Formula n) v g h = (h.0, h.1, g.kept n (formula h.0) h.2)
made_later old new made.Whole v g h = h

entry_later : (names : Table Declared) (old new : List Plain) (e : Entry) → Grows old new → IsKept old names e → IsKept new names e
entry_later names old new (entry.Defined e n (Some m)) g h = made_later old new m _ g h
entry_later names old new _ g h = tt

have_later : (names : Table Declared) (old new : List Plain) → Grows old new → HaveNodes old names → HaveNodes new names
have_later names old new g h = record { each = λ x d at. entry_later names old new d.entry g (h.each x d at) }

pub more_same : (names : Table Declared) (nodes : List Plain) → IsMore names nodes nodes
more_same names nodes = record { grows = grows_same nodes; kept = λ h. h; sound = λ signals below h. h }

pub more_then : (names : Table Declared) (old mid new : List Plain) → IsMore names old mid → IsMore names mid new → IsMore names old new
more_then names old mid new g h = record {
  grows = grows_then old mid new g.grows h.grows;
  kept = λ s. h.kept (g.kept s);
  sound = λ signals below s. h.sound signals below (g.sound signals below s);
}

pub more_push : (names : Table Declared) (nodes : List Plain) (node : Plain)
    → ((signals : ℕ) → SignalsBelow signals names → IsFormed signals (trees nodes) node) → IsMore names nodes (nodes ++ node ∷ [])
more_push names nodes node formed = record {
  grows = grows_push nodes node;
  kept = have_later names nodes (nodes ++ node ∷ []) (grows_push nodes node);
  sound = λ signals below h. sound_push signals nodes node h (formed signals below);
}

-- a connective over its operands' nodes
pub logic_has : (old new : List Plain) (n : ℕ) (op : LogicOp) (x y : ℕ) (p q : Formula) → Has new n (tree_of (trees old) (plain.Logic op x y))
    → Has old x (formula p) → Has old y (formula q) → Has new n (formula (connected op p q))
logic_has old new n op x y p q h a b =
    subst (λ r. Has new n (formula (connected op p r))) (formula_in_place old y q b)
    (subst (λ r. Has new n (formula (connected op r (node_formula (trees old) y)))) (formula_in_place old x p a) h)
