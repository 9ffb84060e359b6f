use Rattle.std.proofs.Common.{◌≡◌, ℕ, List, map, refl, ap, ◌∙◌, Vec, Global}
use Rattle.c2po_ast.specs.declared.tree.Expr.{Expr}
use Rattle.c2po_ast.specs.declared.tree.Node.{Group, Build, Row_of-Expr, end_of-Expr, more_of-Expr}
use Rattle.c2po_ast.specs.declared.tree.Node.TheBlock.{items-the_row-Expr, items_hidden-the_row-Expr-0, hidden-the_row-Expr-0}
use Rattle.c2po_ast.specs.Shape.{shape, row_shape, of_list, node_shape, more, shapes, group, build}

-- a row of expressions has the shapes of its members
pub row_list : {n : _} (row : Row_of-Expr n) → row_shape row ≡ of_list (map shape (items-the_row-Expr n row))
row_list end_of-Expr = refl
row_list (more_of-Expr line e rest) = ap (more (node_shape line e)) (row_list rest)

-- what braces or a call hold has the shapes of the elements
pub hidden_list : (es : Vec Expr Global) → row_shape (hidden-the_row-Expr-0 es) ≡ of_list (map shape es.items)
hidden_list es = row_list (hidden-the_row-Expr-0 es) ∙ ap (λ xs. of_list (map shape xs)) (items_hidden-the_row-Expr-0 es)

pub shape_of-Group : (e : Expr) (es : Vec Expr Global) → e.node ≡ Group es → shape e ≡ group e.line (shapes es.items)
shape_of-Group e es h = ap (node_shape e.line) h ∙ ap (group e.line) (hidden_list es)

pub shape_of-Build : (e : Expr) (x : List ℕ) (es : Vec Expr Global) → e.node ≡ Build x es → shape e ≡ build e.line x (shapes es.items)
shape_of-Build e x es h = ap (node_shape e.line) h ∙ ap (build e.line x) (hidden_list es)
