-- Lists of vertices that become instructions, and the instructions.

use Rattle.std.specs.Prelude.{◌≡◌, ℕ, ◌<◌, ◌≤◌, Bool, true, not, if◌then◌else◌, Some, List, [], ◌∷◌, length, map}
use Rattle.std.specs.Prelude.{filter, flat_map, slice_get, slice_index, slice_index_or}
use Rattle.mltl_base.specs.declared.interval.Engine.{Engine}
use Rattle.mltl_base.specs.declared.interval.Engine.TheVariants as engine
use Rattle.mltl_base.specs.declared.interval.Part.{Part}
use Rattle.mltl_base.specs.declared.interval.Part.TheVariants.{Bz, Ft, Pt}
use Rattle.mltl_base.specs.declared.limits.TheConstants.{MAX_INSTRUCTIONS}
use Rattle.mltl_base.specs.declared.operators.ArithOp as arith
use Rattle.mltl_base.specs.declared.operators.BzOp as bz
use Rattle.mltl_base.specs.declared.operators.FtOp as ft
use Rattle.mltl_base.specs.declared.operators.PtOp as pt
use Rattle.mltl_base.specs.declared.program.Out as out
use Rattle.mltl_base.specs.Subformulas.{Asked, same_engine}
use Rattle.c2po_ast.specs.declared.nodes.Plain.{Plain}
use Rattle.c2po_ast.specs.declared.nodes.PlainOut.{PlainOut}
use Rattle.c2po_ast.specs.declared.nodes.PlainOut.TheVariants.{Formula, Contract}
use Rattle.c2po_ast.specs.Nodes as plain
use Rattle.c2po_ast.specs.Outputs.{asked_by, asked_over}
use Rattle.core_graph.specs.declared.vertex.Vertex.{Vertex}
use Rattle.core_graph.specs.declared.vertex.Vertex.TheVariants.{Column, Const, Neg, Arith, IsTrue, Eq, Lt, Le, True}
use Rattle.core_graph.specs.declared.vertex.Vertex.TheVariants.{Load, Not, And, Until, Since}
use Rattle.core_graph.specs.Trees.{LabelTree, completed, is_core_tree}
use Rattle.core_graph.specs.Vertices.{is_formula}
use Rattle.core_graph.specs.Walks.{trees_of}

-- the part of a program is walked from the outputs of an engine
abbrev pub asks : Part → Engine → Bool
asks Bz e = true
asks Ft e = same_engine e engine.Ft
asks Pt e = same_engine e engine.Pt

-- the tree becomes an instruction of the part
abbrev pub is_in : Part → LabelTree → Bool
is_in Bz t = not (is_core_tree t)
is_in Ft t = is_core_tree t
is_in Pt t = is_core_tree t

-- the vertex becomes an instruction of the part
abbrev pub is_vertex_in : Part → Vertex → Bool
is_vertex_in Bz vertex = not (is_formula vertex)
is_vertex_in Ft vertex = is_formula vertex
is_vertex_in Pt vertex = is_formula vertex

-- the output names the first n nodes
abbrev pub NamesNodes : ℕ → PlainOut → Type 0
NamesNodes n (Formula e a name) = a < n
NamesNodes n (Contract e a b name) = (a < n) × (b < n)

-- the vertices that an output begins the walk of a part with
abbrev pub roots_by : Part → List ℕ → PlainOut → List ℕ
roots_by part ids (Formula e a name) = if asks part e then slice_index ids a ∷ [] else []
roots_by part ids (Contract e a b name) = if asks part e then slice_index ids a ∷ slice_index ids b ∷ [] else []

-- the vertices that all outputs together begin the walk of a part with
abbrev pub roots_of : Part → List ℕ → List PlainOut → List ℕ
roots_of part ids outs = flat_map (roots_by part ids) outs

-- the trees of the instructions of a part, in order
abbrev pub listed_trees : List Vertex → Part → List ℕ → List PlainOut → List LabelTree
listed_trees vertices part ids outs = filter (is_in part) (completed (trees_of vertices (roots_of part ids outs)))

-- the reports that outputs over some nodes ask for, over columns
abbrev pub asked_of_nodes : List ℕ → List Plain → List PlainOut → List Asked
asked_of_nodes columns nodes outs = map (asked_over columns) (map (asked_by (plain.trees nodes)) outs)

-- no number occurs twice
pub record AreOnce (ids : List ℕ) : Type 0 where
  pub once : (i j n : ℕ) → slice_get ids i ≡ Some n → slice_get ids j ≡ Some n → i ≡ j

-- the vertices of a part in order, and the place of each in that order
pub record IsListing (vertices : List Vertex) (listed : List LabelTree) (ids places : List ℕ) : Type 0 where
  pub few : length ids ≤ MAX_INSTRUCTIONS
  pub count : length places ≡ length vertices
  pub within : (i n : ℕ) → slice_get ids i ≡ Some n → n < length vertices
  pub in_order : trees_of vertices ids ≡ listed
  pub numbered : (i n : ℕ) → slice_get ids i ≡ Some n → slice_index places n ≡ i

-- the Booleanizer instruction of an arithmetic operator over the places of its operands
abbrev pub arith_op : arith.ArithOp → ℕ → ℕ → bz.BzOp
arith_op arith.TheVariants.Add a b = bz.TheVariants.Add a b
arith_op arith.TheVariants.Sub a b = bz.TheVariants.Sub a b
arith_op arith.TheVariants.Mul a b = bz.TheVariants.Mul a b
arith_op arith.TheVariants.Div a b = bz.TheVariants.Div a b
arith_op arith.TheVariants.Rem a b = bz.TheVariants.Rem a b

-- the Booleanizer instruction of a vertex, whose operands are numbered by their places
abbrev pub bz_op_of : List ℕ → Vertex → bz.BzOp
bz_op_of places (Column c) = bz.TheVariants.Column c
bz_op_of places (Const n) = bz.TheVariants.Const n
bz_op_of places (Neg a) = bz.TheVariants.Neg (slice_index places a)
bz_op_of places (Arith op a b) = arith_op op (slice_index places a) (slice_index places b)
bz_op_of places (IsTrue c) = bz.TheVariants.IsTrue c
bz_op_of places (Eq a b) = bz.TheVariants.Eq (slice_index places a) (slice_index places b)
bz_op_of places (Lt a b) = bz.TheVariants.Lt (slice_index places a) (slice_index places b)
bz_op_of places (Le a b) = bz.TheVariants.Le (slice_index places a) (slice_index places b)
bz_op_of places _ = bz.TheVariants.IsTrue 0

-- the future-time instruction of a vertex, whose operands are numbered by their places
abbrev pub ft_op_of : List ℕ → List ℕ → Vertex → ft.FtOp
ft_op_of loads places (Load a) = ft.TheVariants.Load (slice_index loads a)
ft_op_of loads places (Not a) = ft.TheVariants.Not (slice_index places a)
ft_op_of loads places (And a b) = ft.TheVariants.And (slice_index places a) (slice_index places b)
ft_op_of loads places (Until i a b) = ft.TheVariants.Until (slice_index places a) (slice_index places b) i
ft_op_of loads places _ = ft.TheVariants.True

-- the past-time instruction of a vertex, whose operands are numbered by their places
abbrev pub pt_op_of : List ℕ → List ℕ → Vertex → pt.PtOp
pt_op_of loads places (Load a) = pt.TheVariants.Load (slice_index loads a)
pt_op_of loads places (Not a) = pt.TheVariants.Not (slice_index places a)
pt_op_of loads places (And a b) = pt.TheVariants.And (slice_index places a) (slice_index places b)
pt_op_of loads places (Since i a b) = pt.TheVariants.Since (slice_index places a) (slice_index places b) i
pt_op_of loads places _ = pt.TheVariants.True

-- the vertex at a number
abbrev pub vertex_at : List Vertex → ℕ → Vertex
vertex_at vertices n = slice_index_or vertices n True

-- the places of vertices among the instructions of an engine, which is of future or of past time
abbrev pub places_for : Engine → List ℕ → List ℕ → List ℕ
places_for engine.Ft ft pt = ft
places_for engine.Pt ft pt = pt

-- an output by the places of its vertices
abbrev pub placed_out : List ℕ → List ℕ → List ℕ → PlainOut → out.Out
placed_out ids ft pt (Formula e a name) =
    out.TheVariants.Formula e (slice_index (places_for e ft pt) (slice_index ids a)) name
placed_out ids ft pt (Contract e a b name) =
    out.TheVariants.Contract e (slice_index (places_for e ft pt) (slice_index ids a))
    (slice_index (places_for e ft pt) (slice_index ids b)) name
