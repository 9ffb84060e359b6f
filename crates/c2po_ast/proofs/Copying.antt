-- Copies one by one.
use Rattle.std.proofs.Common.{◌≡◌, ℕ, ◌+◌, ◌<◌, List, [], ◌∷◌, ◌++◌, map, take, get_or, length, refl, sym, ap, ◌∙◌, Vec, Global}
use Rattle.std.proofs.lemmas.List.{take_more}
use Rattle.c2po_ast.specs.declared.tree.Expr.{Expr}
use Rattle.c2po_ast.specs.declared.tree.Node.{Group, Build}
use Rattle.c2po_ast.specs.declared.operator.Bracket.TheVariants.{Curly, Call}
use Rattle.c2po_ast.specs.Parts.{enclosed}
use Rattle.c2po_ast.specs.Shape.{shape, of_list, build, group}
use Rattle.c2po_ast.proofs.Rows.{shape_of-Build, shape_of-Group}

map-push : {X Y : Type 0} (f : X → Y) (xs : List X) (x : X) → map f (xs ++ x ∷ []) ≡ map f xs ++ f x ∷ []
map-push f [] x = refl
map-push f (y ∷ ys) x = ap (λ zs. f y ∷ zs) (map-push f ys x)

-- one copy more
pub copied-more : {X Y : Type 0} (view : X → Y) (xs copies more : List X) (n : ℕ) (x copy : X) → n < length xs → x ≡ get_or xs n x → view copy ≡ view x
    → map view copies ≡ map view (take n xs) → more ≡ copies ++ copy ∷ [] → map view more ≡ map view (take (n + 1) xs)
copied-more view xs copies more n x copy less here same before pushed =
    ap (map view) pushed ∙ map-push view copies copy ∙ ap (λ ys. ys ++ view copy ∷ []) before ∙ ap (λ y. map view (take n xs) ++ y ∷ []) same
    ∙ sym (map-push view (take n xs) x) ∙ ap (λ y. map view (take n xs ++ y ∷ [])) here ∙ sym (ap (map view) (take_more xs n x less))

-- braces and a call around the elements of an expression
module _ (e : Expr) (es : Vec Expr Global) (seen : List Expr) (whole : seen ≡ es.items) where
  pub enclosed-Build : (x y : List ℕ) → e.node ≡ Build x es → y ≡ x → enclosed (Call e.line y) (map shape seen) ≡ shape e
  enclosed-Build x y node name =
      ap (λ xs. build e.line y (of_list (map shape xs))) whole ∙ ap (λ z. build e.line z (of_list (map shape es.items))) name
      ∙ sym (shape_of-Build e x es node)

  pub enclosed-Group : e.node ≡ Group es → enclosed (Curly e.line) (map shape seen) ≡ shape e
  enclosed-Group node = ap (λ xs. group e.line (of_list (map shape xs))) whole ∙ sym (shape_of-Group e es node)
