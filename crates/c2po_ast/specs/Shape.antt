use Rattle.std.specs.Prelude.{ℕ, ℤ, Bool, List, [], ◌∷◌, map}
use Rattle.mltl_base.specs.declared.operators.ArithOp.{ArithOp}
use Rattle.mltl_base.specs.declared.operators.CompareOp.{CompareOp}
use Rattle.mltl_base.specs.declared.operators.LogicOp.{LogicOp}
use Rattle.mltl_base.specs.declared.operators.WindowOp.{WindowOp}
use Rattle.mltl_base.specs.declared.operators.BetweenOp.{BetweenOp}
use Rattle.mltl_base.specs.declared.operators.CountOp.{CountOp}
use Rattle.c2po_ast.specs.declared.tree.Expr.{Expr}
use Rattle.c2po_ast.specs.declared.tree.Node.{Node, Row_of-Expr, end_of-Expr, more_of-Expr, Number, Truth, Ref, Build'}
use Rattle.c2po_ast.specs.declared.tree.Node.{Group', Pick', Minus', Not', Arith', Compare', Logic', Window', Between'}
use Rattle.c2po_ast.specs.declared.tree.Node.{Each', Exists', Count'}

-- The tree of an expression, as contracts compare it: a box is its content, and a vector is the list of its members. Each
-- node has its line first; a name is the list of its bytes.
mutual
  pub data Shape : Type 0 where
    number : ℕ → ℤ → Shape
    truth : ℕ → Bool → Shape
    named : ℕ → List ℕ → Shape
    build : ℕ → List ℕ → Shapes → Shape
    group : ℕ → Shapes → Shape
    pick : ℕ → Shape → List ℕ → Shape
    minus : ℕ → Shape → Shape
    negation : ℕ → Shape → Shape
    arith : ℕ → ArithOp → Shape → Shape → Shape
    compare : ℕ → CompareOp → Shape → Shape → Shape
    logic : ℕ → LogicOp → Shape → Shape → Shape
    window : ℕ → WindowOp → ℕ → ℕ → Shape → Shape
    between : ℕ → BetweenOp → ℕ → ℕ → Shape → Shape → Shape
    each : ℕ → List ℕ → Shape → Shape → Shape
    exists : ℕ → List ℕ → Shape → Shape → Shape
    count : ℕ → CountOp → List ℕ → Shape → ℕ → Shape → Shape

  pub data Shapes : Type 0 where
    none : Shapes
    more : Shape → Shapes → Shapes

abbrev mutual
  pub node_shape : ℕ → Node → Shape
  node_shape line (Number n) = number line n
  node_shape line (Truth b) = truth line b
  node_shape line (Ref x) = named line x
  node_shape line (Build' x _ es) = build line x (row_shape es)
  node_shape line (Group' _ es) = group line (row_shape es)
  node_shape line (Pick' _ l e x) = pick line (node_shape l e) x
  node_shape line (Minus' _ l e) = minus line (node_shape l e)
  node_shape line (Not' _ l e) = negation line (node_shape l e)
  node_shape line (Arith' op _ l e _ m f) = arith line op (node_shape l e) (node_shape m f)
  node_shape line (Compare' op _ l e _ m f) = compare line op (node_shape l e) (node_shape m f)
  node_shape line (Logic' op _ l e _ m f) = logic line op (node_shape l e) (node_shape m f)
  node_shape line (Window' op a b _ l e) = window line op a b (node_shape l e)
  node_shape line (Between' op a b _ l e _ m f) = between line op a b (node_shape l e) (node_shape m f)
  node_shape line (Each' x _ l s _ m e) = each line x (node_shape l s) (node_shape m e)
  node_shape line (Exists' x _ l s _ m e) = exists line x (node_shape l s) (node_shape m e)
  node_shape line (Count' op x _ l s n _ m e) = count line op x (node_shape l s) n (node_shape m e)

  pub row_shape : {m : _} → Row_of-Expr m → Shapes
  row_shape end_of-Expr = none
  row_shape (more_of-Expr line e rest) = more (node_shape line e) (row_shape rest)

-- the shape of an expression
abbrev pub shape : Expr → Shape
shape e = node_shape e.line e.node

-- the shapes of a list, in order
abbrev pub of_list : List Shape → Shapes
of_list [] = none
of_list (s ∷ ss) = more s (of_list ss)

-- the shapes of expressions
abbrev pub shapes : List Expr → Shapes
shapes es = of_list (map shape es)
