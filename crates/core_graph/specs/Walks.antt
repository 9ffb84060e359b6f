-- A walk over a forest that completes vertices, operands first.

use Rattle.std.specs.Prelude.{◌≡◌, ◌⊎◌, ℕ, suc, ◌+◌, ◌*◌, ◌<◌, Bool, true, false, Some, List, [], ◌∷◌, length, map}
use Rattle.std.specs.Prelude.{slice_get, ⊤}
use Rattle.mltl_base.specs.Subformulas.{listed}
use Rattle.core_graph.specs.declared.vertex.Vertex.{Vertex}
use Rattle.core_graph.specs.declared.vertex.Operands.{Operands}
use Rattle.core_graph.specs.declared.vertex.Operands.TheVariants.{Zero, One, Two}
use Rattle.core_graph.specs.Trees.{LabelTree, leaf, one, two, same_tree, add_tree}
use Rattle.core_graph.specs.Vertices.{tree_at, trees, Has}

-- the trees of numbered vertices
abbrev pub trees_of : List Vertex → List ℕ → List LabelTree
trees_of vertices ids = map (tree_at (trees vertices)) ids

-- the operands of a tree are listed
abbrev pub HasOperands : List LabelTree → LabelTree → Type 0
HasOperands ts (leaf l) = ⊤
HasOperands ts (one l t) = listed same_tree t ts ≡ true
HasOperands ts (two l t u) = (listed same_tree t ts ≡ true) × (listed same_tree u ts ≡ true)

-- each tree of the list has its operands in it
pub record HasItsOperands (ts : List LabelTree) : Type 0 where
  pub operands : (t : LabelTree) → listed same_tree t ts ≡ true → HasOperands ts t

-- the complete vertices in order, and a mark for each vertex of the forest
pub record IsWalk (vertices : List Vertex) (order : List ℕ) (done : List Bool) : Type 0 where
  pub count : length done ≡ length vertices
  pub within : (i n : ℕ) → slice_get order i ≡ Some n → n < length vertices
  pub told : (n : ℕ) (t : LabelTree) → Has vertices n t
      → slice_get done n ≡ Some (listed same_tree t (trees_of vertices order))
  pub closed : HasItsOperands (trees_of vertices order)

-- all operands are complete
abbrev pub AreDone : List Bool → Operands → Type 0
AreDone done Zero = ⊤
AreDone done (One a) = slice_get done a ≡ Some true
AreDone done (Two a b) = (slice_get done a ≡ Some true) × (slice_get done b ≡ Some true)

-- vertex n is the first operand that isn't complete
abbrev pub IsFirstIncomplete : List Bool → Operands → ℕ → Type 0
IsFirstIncomplete done Zero n = ⊥
IsFirstIncomplete done (One a) n = (n ≡ a) × (slice_get done a ≡ Some false)
IsFirstIncomplete done (Two a b) n =
    ((n ≡ a) × (slice_get done a ≡ Some false))
    ⊎ ((n ≡ b) × (slice_get done a ≡ Some true) × (slice_get done b ≡ Some false))

-- each number of the list is below the one before it, the first below n
abbrev pub Descends : ℕ → List ℕ → Type 0
Descends n [] = ⊤
Descends n (m ∷ ms) = (m < n) × Descends m ms

-- vertices that wait for operands, the latest last
pub record IsStack (vertices : List Vertex) (done : List Bool) (stack : List ℕ) : Type 0 where
  pub descends : Descends (length vertices) stack
  pub waits : (i n : ℕ) → slice_get stack i ≡ Some n → slice_get done n ≡ Some false

-- the complete trees once all waiting vertices are complete
unfoldable pub finish : List LabelTree → List LabelTree → List LabelTree
finish [] ts = ts
finish (t ∷ above) ts = add_tree t (finish above ts)

-- the number of vertices up to the latest that waits; 0 if none waits
unfoldable pub height : List ℕ → ℕ
height [] = 0
height (n ∷ []) = suc n
height (n ∷ m ∷ ns) = height (m ∷ ns)

-- the number of vertices that aren't complete
unfoldable pub open_count : List Bool → ℕ
open_count [] = 0
open_count (true ∷ done) = open_count done
open_count (false ∷ done) = suc (open_count done)

-- the work that is left: for each open vertex, and below the latest that waits
abbrev pub work : List Bool → List ℕ → ℕ
work done stack = open_count done * (length done + 1) + height stack
