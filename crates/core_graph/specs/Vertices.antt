-- Vertices over numbered ones: the trees that they unfold to, and forests of them.

use Rattle.std.specs.Prelude.{◌≡◌, ◌⊎◌, ℕ, ◌<◌, Bool, Some, List, [], ◌∷◌, ◌++◌, fold, length, slice_get}
use Rattle.std.specs.Prelude.{slice_index_or, ⊤}
use Rattle.mltl_base.specs.declared.operators.ArithOp as arith
use Rattle.core_graph.specs.declared.vertex.Vertex.{Vertex}
use Rattle.core_graph.specs.declared.vertex.Vertex.TheVariants.{Column, Const, Neg, Arith, IsTrue, Eq, Lt, Le, True}
use Rattle.core_graph.specs.declared.vertex.Vertex.TheVariants.{Load, Not, And, Until, Since}
use Rattle.core_graph.specs.declared.vertex.Operands.{Operands}
use Rattle.core_graph.specs.declared.vertex.Operands.TheVariants.{Zero, One, Two}
use Rattle.core_graph.specs.Trees.{Sign, negative_sign, plus_sign, minus_sign, times_sign, quotient_sign}
use Rattle.core_graph.specs.Trees.{remainder_sign, equal_sign, less_sign, at_most_sign, true_sign, load_sign, not_sign}
use Rattle.core_graph.specs.Trees.{and_sign, Label, sign, in_column, truth_in, number, until_in, since_in, LabelTree}
use Rattle.core_graph.specs.Trees.{leaf}
use Rattle.core_graph.specs.Trees.{one, two, is_core_label}

-- the operands of a vertex
abbrev pub operands_of : Vertex → Operands
operands_of (Column c) = Zero
operands_of (Const n) = Zero
operands_of (Neg a) = One a
operands_of (Arith op a b) = Two a b
operands_of (IsTrue c) = Zero
operands_of (Eq a b) = Two a b
operands_of (Lt a b) = Two a b
operands_of (Le a b) = Two a b
operands_of True = Zero
operands_of (Load a) = One a
operands_of (Not a) = One a
operands_of (And a b) = Two a b
operands_of (Until i a b) = Two a b
operands_of (Since i a b) = Two a b

-- the sign of an arithmetic operator
abbrev pub arith_sign : arith.ArithOp → Sign
arith_sign arith.TheVariants.Add = plus_sign
arith_sign arith.TheVariants.Sub = minus_sign
arith_sign arith.TheVariants.Mul = times_sign
arith_sign arith.TheVariants.Div = quotient_sign
arith_sign arith.TheVariants.Rem = remainder_sign

-- the label of the node of a vertex
abbrev pub label_of : Vertex → Label
label_of (Column c) = in_column c
label_of (Const n) = number n
label_of (Neg a) = sign negative_sign
label_of (Arith op a b) = sign (arith_sign op)
label_of (IsTrue c) = truth_in c
label_of (Eq a b) = sign equal_sign
label_of (Lt a b) = sign less_sign
label_of (Le a b) = sign at_most_sign
label_of True = sign true_sign
label_of (Load a) = sign load_sign
label_of (Not a) = sign not_sign
label_of (And a b) = sign and_sign
label_of (Until i a b) = until_in i
label_of (Since i a b) = since_in i

-- the vertex is a core formula, not an expression
abbrev pub is_formula : Vertex → Bool
is_formula vertex = is_core_label (label_of vertex)

-- the tree of vertex n; true if there is no such vertex
abbrev pub tree_at : List LabelTree → ℕ → LabelTree
tree_at earlier n = slice_index_or earlier n (leaf (sign true_sign))

-- the tree of a label over the trees of its operands
abbrev pub tree_over : List LabelTree → Label → Operands → LabelTree
tree_over earlier l Zero = leaf l
tree_over earlier l (One a) = one l (tree_at earlier a)
tree_over earlier l (Two a b) = two l (tree_at earlier a) (tree_at earlier b)

-- the tree that a vertex unfolds to, over the trees of the vertices before it
abbrev pub vertex_tree : List LabelTree → Vertex → LabelTree
vertex_tree earlier vertex = tree_over earlier (label_of vertex) (operands_of vertex)

-- the trees that the vertices unfold to, in order
unfoldable pub trees : List Vertex → List LabelTree
trees vertices = fold (λ earlier vertex. earlier ++ vertex_tree earlier vertex ∷ []) [] vertices

-- vertex n is there, and unfolds to a tree
pub record Has (vertices : List Vertex) (n : ℕ) (tree : LabelTree) : Type 0 where
  pub within : n < length vertices
  pub is : tree_at (trees vertices) n ≡ tree

-- the operands come before index n
abbrev pub OperandsAreBelow : ℕ → Operands → Type 0
OperandsAreBelow n Zero = ⊤
OperandsAreBelow n (One a) = a < n
OperandsAreBelow n (Two a b) = (a < n) × (b < n)

-- operands come before the vertices that use them, and no vertex occurs twice
pub record IsForest (vertices : List Vertex) : Type 0 where
  pub over : (i : ℕ) (vertex : Vertex) → slice_get vertices i ≡ Some vertex → OperandsAreBelow i (operands_of vertex)
  pub once : (i j : ℕ) (vertex : Vertex) → slice_get vertices i ≡ Some vertex → slice_get vertices j ≡ Some vertex
      → i ≡ j

-- the new list is a forest, and has each tree that the old list has
pub record Grows (old new : List Vertex) : Type 0 where
  pub forest : IsForest new
  pub kept : (n : ℕ) (tree : LabelTree) → Has old n tree → Has new n tree

-- the new list is the old one, or has a new vertex last
abbrev pub IsAdded : List Vertex → List Vertex → Vertex → Type 0
IsAdded old new vertex =
    (new ≡ old) ⊎ ((new ≡ old ++ vertex ∷ []) × ((i : ℕ) → ¬ (slice_get old i ≡ Some vertex)))
