-- The vertices of plain nodes, and the expressions and formulas that they represent.

use Rattle.std.specs.Prelude.{◌≡◌, ℕ, Some, List, length, slice_get}
use Rattle.mltl_base.specs.Atoms.{term_over}
use Rattle.mltl_base.specs.Formula.{Core, core, formula_over}
use Rattle.c2po_ast.specs.declared.nodes.Plain.{Plain}
use Rattle.c2po_ast.specs.Nodes as plain
use Rattle.core_graph.specs.declared.vertex.Vertex.{Vertex}
use Rattle.core_graph.specs.Vertices.{Has, IsForest}
use Rattle.core_graph.specs.Images.{of_term, of_core}

-- vertex n is the integer expression of a plain node, or the core form of its formula, over columns
abbrev pub Represents : List ℕ → List Vertex → ℕ → plain.Tree → Type 0
Represents columns vertices n (plain.number a) = Has vertices n (of_term (term_over columns a))
Represents columns vertices n (plain.formula p) = Has vertices n (of_core (core (formula_over columns p)))

-- each node has a vertex, which represents the expression or formula that the node unfolds to
pub record AreRead (columns : List ℕ) (vertices : List Vertex) (nodes : List Plain) (ids : List ℕ) : Type 0 where
  pub forest : IsForest vertices
  pub count : length ids ≡ length nodes
  pub stand : (n id : ℕ) (tree : plain.Tree) → slice_get ids n ≡ Some id → plain.Has nodes n tree
      → Represents columns vertices id tree

-- the nodes before are read, and the next node is formed over them
pub record IsNext (columns : List ℕ) (vertices : List Vertex) (ids : List ℕ) (node : Plain) : Type 0 where
  pub before : List Plain
  pub read : AreRead columns vertices before ids
  pub formed : plain.IsFormed (length columns) (plain.trees before) node

-- vertex n is a core formula
pub record IsCoreAt (vertices : List Vertex) (n : ℕ) : Type 0 where
  pub formula : Core
  pub has : Has vertices n (of_core formula)
