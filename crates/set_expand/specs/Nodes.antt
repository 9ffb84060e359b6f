-- Nodes of unfolded values.

use Rattle.std.specs.Prelude.{ℕ, ◌≡◌, Bool, true, false, Option, Some, None, List, length, slice_get, ⊤}
use Rattle.mltl_base.specs.Atoms.{Term}
use Rattle.mltl_base.specs.Formula.{Formula}
use Rattle.mltl_base.specs.Tables.{Table, entry_of}
use Rattle.c2po_ast.specs.Shape.{shape}
use Rattle.c2po_ast.specs.declared.nodes.Plain.{Plain}
use Rattle.c2po_ast.specs.declared.nodes.Plain.TheVariants as plain
use Rattle.c2po_ast.specs.Nodes.{AreSound, Grows, Has, IsFormula, formula, number, trees}
use Rattle.c2po_types.specs.Environment.{value_of}
use Rattle.c2po_types.specs.Values.{Value, tree_in}
use Rattle.set_expand.specs.declared.names.Entry.{Entry}
use Rattle.set_expand.specs.declared.names.Entry.TheVariants as entry
use Rattle.set_expand.specs.declared.scope.Named.{Named}
use Rattle.set_expand.specs.declared.scope.Named.TheVariants as named
use Rattle.set_expand.specs.declared.scope.Head.{Head}
use Rattle.set_expand.specs.declared.scope.Head.TheVariants as head
use Rattle.set_expand.specs.declared.names.Declared.{Declared}
use Rattle.set_expand.specs.declared.nodes.Made.{Made}
use Rattle.set_expand.specs.declared.nodes.Made.TheVariants as made
use Rattle.set_expand.specs.Heads.{env_in}
use Rattle.set_expand.specs.Names.{SignalsBelow, env_of}

-- the node has the integer or the formula of the value; a struct's value or a set has no node
abbrev pub IsMade : List Plain → Made → Value → Type 0
IsMade nodes (made.Number n) v = (a : Term) × (tree_in v ≡ Some (number a)) × Has nodes n (number a)
IsMade nodes (made.Formula n) v = (p : Formula) × (tree_in v ≡ Some (formula p)) × Has nodes n (formula p)
IsMade nodes made.Whole v = tree_in v ≡ None

-- the value's node, if it has been made, has the value
abbrev pub MadeAs : List Plain → Value → Option Made → Type 0
MadeAs nodes v None = ⊤
MadeAs nodes v (Some made) = IsMade nodes made v

-- if the entry is a definition whose node has been made, the node has the definition's value
abbrev pub IsKept : List Plain → Table Declared → Entry → Type 0
IsKept nodes names (entry.Struct fs i) = ⊤
IsKept nodes names (entry.Signal b k) = ⊤
IsKept nodes names (entry.Defined e n made) = MadeAs nodes (value_of (shape e.now) (env_of names n)) made

-- each node that an entry keeps has the value of the entry's definition
pub record HaveNodes (nodes : List Plain) (names : Table Declared) : Type 0 where
  pub each : (x : List ℕ) (d : Declared) → entry_of x names ≡ Some d → IsKept nodes names d.entry

-- if the answer of a look-up has a node, the node has the value that the answer stands for
abbrev pub NamedKept : List Plain → Table Declared → Named → Type 0
NamedKept nodes names (named.Open scope e made) = MadeAs nodes (value_of (shape e.now) (env_in names scope)) made
NamedKept nodes names _ = ⊤

-- if the head has a node, the node has the head's value
abbrev pub HeadKept : List Plain → Table Declared → Head → Type 0
HeadKept nodes names (head.Kept made scope e) = IsMade nodes made (value_of (shape e.now) (env_in names scope))
HeadKept nodes names _ = ⊤

-- Each old node unfolds to the same tree among the new nodes, which have the nodes that entries keep if the old ones have
-- them, and are sound over the signals of the names if the old ones are.
pub record IsMore (names : Table Declared) (old new : List Plain) : Type 0 where
  pub grows : Grows old new
  pub kept : HaveNodes old names → HaveNodes new names
  pub sound : (signals : ℕ) → SignalsBelow signals names → AreSound signals old → AreSound signals new

-- each of these nodes is a formula
pub record AreFormulas (nodes : List Plain) (ns : List ℕ) : Type 0 where
  pub each : (i n : ℕ) → slice_get ns i ≡ Some n → IsFormula (slice_get (trees nodes) n)

-- each of these nodes has the formula at the same place in the list
pub record HaveFormulas (nodes : List Plain) (ns : List ℕ) (ps : List Formula) : Type 0 where
  pub count : length ns ≡ length ps
  pub each : (i n : ℕ) (p : Formula) → slice_get ns i ≡ Some n → slice_get ps i ≡ Some p → Has nodes n (formula p)

-- the node of a signal, Boolean or integer
abbrev pub signal_node : Bool → ℕ → Plain
signal_node true n = plain.Flag n
signal_node false n = plain.Signal n
