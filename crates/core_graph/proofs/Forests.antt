-- Forests: what vertices unfold to, that a tree has one vertex, and what a vertex more changes.

use Rattle.std.proofs.Common.{◌≡◌, Result, Ok, Err, IfOk, OnOk, ℕ, ◌+◌, ◌<◌, Bool, Some, List, [], ◌∷◌, ◌++◌, length, take, drop, fold, get_or, slice_get, true, false, if◌then◌else◌, refl, sym, subst, ap, ap₂, ◌∙◌, arith, inl, inr}
use Rattle.std.proofs.lemmas.List.{length_push, length-take-le, get_or_append_left, get_or_push, take-append-drop, take_more}
use Rattle.std.specs.Cmp.{IsEquivalence}
use Rattle.std.specs.List.{list_any}
use Rattle.std.proofs.lemmas.List.Folds.{list_any_at}
use Rattle.std.proofs.lemmas.List.Sums.{fold_push, fold-append}
use Rattle.std.proofs.lemmas.Bool.{true≢false}
use Rattle.std.proofs.lemmas.Option.{get_or_from_slice_get, slice_get_within, slice_get-get_or}
use Rattle.mltl_base.specs.declared.operators.ArithOp as arith_op
use Rattle.c2po_ast.proofs.Places.{at_push}
use Rattle.mltl_base.specs.Formula.{Core, ctrue, catom, cnot, neg}
use Rattle.core_graph.specs.declared.vertex.Vertex.{Vertex}
use Rattle.core_graph.specs.declared.vertex.Vertex.TheVariants.{Column, Const, Neg, Arith, IsTrue, Eq, Lt, Le, True, Load, Not, And, Until, Since}
use Rattle.core_graph.specs.declared.vertex.Operands.{Operands}
use Rattle.core_graph.specs.declared.vertex.Operands.TheVariants.{Zero, One, Two}
use Rattle.core_graph.specs.Trees.{negative_sign, plus_sign, minus_sign, times_sign, quotient_sign, remainder_sign, equal_sign, less_sign, at_most_sign, true_sign, load_sign, not_sign, and_sign, Label, sign, in_column, truth_in, number, until_in, since_in, LabelTree, leaf, one, two}
use Rattle.core_graph.specs.Vertices.{operands_of, label_of, tree_at, tree_over, vertex_tree, trees, Has, OperandsAreBelow, IsForest, Grows, IsAdded}
use Rattle.core_graph.specs.Images.{of_core}
use Rattle.core_graph.specs.Reading.{IsCoreAt}

-- a vertex is what stands at its node and its operands
abbrev remade : Label → Operands → Vertex
remade (in_column c) o = Column c
remade (number n) o = Const n
remade (truth_in c) o = IsTrue c
remade (sign negative_sign) (One a) = Neg a
remade (sign plus_sign) (Two a b) = Arith arith_op.TheVariants.Add a b
remade (sign minus_sign) (Two a b) = Arith arith_op.TheVariants.Sub a b
remade (sign times_sign) (Two a b) = Arith arith_op.TheVariants.Mul a b
remade (sign quotient_sign) (Two a b) = Arith arith_op.TheVariants.Div a b
remade (sign remainder_sign) (Two a b) = Arith arith_op.TheVariants.Rem a b
remade (sign equal_sign) (Two a b) = Eq a b
remade (sign less_sign) (Two a b) = Lt a b
remade (sign at_most_sign) (Two a b) = Le a b
remade (sign load_sign) (One a) = Load a
remade (sign not_sign) (One a) = Not a
remade (sign and_sign) (Two a b) = And a b
remade (until_in i) (Two a b) = Until i a b
remade (since_in i) (Two a b) = Since i a b
remade _ _ = True

remade_is : (x : Vertex) → remade (label_of x) (operands_of x) ≡ x
remade_is (Arith arith_op.TheVariants.Add a b) = refl
remade_is _ = refl

pub one_vertex : (x y : Vertex) → label_of x ≡ label_of y → operands_of x ≡ operands_of y → x ≡ y
one_vertex x y e f = sym (remade_is x) ∙ (ap₂ remade e f ∙ remade_is y)

-- one more vertex, and how many there are
pub trees_push : (vertices : List Vertex) (vertex : Vertex) → trees (vertices ++ vertex ∷ []) ≡ trees vertices ++ vertex_tree (trees vertices) vertex ∷ []
unfolding trees
trees_push vertices vertex = fold_push (λ earlier vertex. earlier ++ vertex_tree earlier vertex ∷ []) [] vertices vertex

length_after : (earlier : List LabelTree) (vertices : List Vertex) → length (fold (λ earlier vertex. earlier ++ vertex_tree earlier vertex ∷ []) earlier vertices) ≡ length earlier + length vertices
length_after earlier [] = omega arith
length_after earlier (vertex ∷ vertices) =
    omega (arith, length_push earlier (vertex_tree earlier vertex), length_after (earlier ++ vertex_tree earlier vertex ∷ []) vertices)

pub length-trees : (vertices : List Vertex) → length (trees vertices) ≡ length vertices
unfolding trees
length-trees vertices = omega (arith, length_after [] vertices)

-- a vertex keeps its tree when others come
after_kept : (earlier : List LabelTree) (vertices : List Vertex) (n : ℕ) → n < length earlier →
    tree_at (fold (λ earlier vertex. earlier ++ vertex_tree earlier vertex ∷ []) earlier vertices) n ≡ tree_at earlier n
after_kept earlier [] n l = refl
after_kept earlier (vertex ∷ vertices) n l =
    after_kept (earlier ++ vertex_tree earlier vertex ∷ []) vertices n (omega (arith, length_push earlier (vertex_tree earlier vertex)))
    ∙ get_or_append_left earlier (vertex_tree earlier vertex ∷ []) (leaf (sign true_sign)) n l

pub tree_kept : (vertices more : List Vertex) (n : ℕ) → n < length vertices → tree_at (trees (vertices ++ more)) n ≡ tree_at (trees vertices) n
unfolding trees
tree_kept vertices more n l =
    ap (λ ts. tree_at ts n) (fold-append (λ earlier vertex. earlier ++ vertex_tree earlier vertex ∷ []) [] vertices more)
    ∙ after_kept (trees vertices) more n (omega (arith, length-trees vertices))

joined_kept : (ts us : List LabelTree) (l : Label) (o : Operands) (n : ℕ) → OperandsAreBelow n o → ((a : ℕ) → a < n → tree_at ts a ≡ tree_at us a) → tree_over ts l o ≡ tree_over us l o
joined_kept ts us l Zero n h e = refl
joined_kept ts us l (One a) n h e = ap (one l) (e a h)
joined_kept ts us l (Two a b) n h e = ap₂ (two l) (e a h.0) (e b h.1)

-- a vertex unfolds over the others
pub tree_here : (vertices : List Vertex) (i : ℕ) (vertex : Vertex) → IsForest vertices → slice_get vertices i ≡ Some vertex → tree_at (trees vertices) i ≡ vertex_tree (trees vertices) vertex
tree_here vertices i vertex f e =
    let inside : i < length vertices = slice_get_within vertices i vertex e in
    let before : List Vertex = take i vertices in
    let size : length before ≡ i = length-take-le i vertices (omega arith) in
    let first : List Vertex = before ++ vertex ∷ [] in
    let whole : take i vertices ++ drop i vertices ≡ vertices = take-append-drop i vertices in
    let further : take (i + 1) vertices ++ drop (i + 1) vertices ≡ vertices = take-append-drop (i + 1) vertices in
    let next : take (i + 1) vertices ≡ first = take_more vertices i vertex inside ∙ ap (λ x. before ++ x ∷ []) (get_or_from_slice_get vertices i vertex vertex e) in
    let split : first ++ drop (i + 1) vertices ≡ vertices = ap (λ xs. xs ++ drop (i + 1) vertices) (sym next) ∙ further in
    let kept : tree_at (trees vertices) i ≡ tree_at (trees first) i
    = ap (λ xs. tree_at (trees xs) i) (sym split) ∙ tree_kept first (drop (i + 1) vertices) i (omega (arith, length_push before vertex)) in
    let made : tree_at (trees first) i ≡ vertex_tree (trees before) vertex
    = ap (λ ts. tree_at ts i) (trees_push before vertex) ∙ get_or_push (trees before) (vertex_tree (trees before) vertex) (leaf (sign true_sign)) i (length-trees before ∙ size) in
    let same : vertex_tree (trees before) vertex ≡ vertex_tree (trees vertices) vertex
    = joined_kept (trees before) (trees vertices) (label_of vertex) (operands_of vertex) i (f.over i vertex e)
    (λ a l. sym (ap (λ xs. tree_at (trees xs) a) (sym whole) ∙ tree_kept before (drop i vertices) a (omega arith))) in
    kept ∙ (made ∙ same)

-- what a vertex that unfolds to a tree is
leaf_parts : (ts : List LabelTree) (m l : Label) (o : Operands) → tree_over ts m o ≡ leaf l → (m ≡ l) × (o ≡ Zero)
leaf_parts ts m l Zero e = (cc, refl)
leaf_parts ts m l (One a) e = cc
leaf_parts ts m l (Two a b) e = cc

one_parts : (ts : List LabelTree) (m l : Label) (o : Operands) (t : LabelTree) → tree_over ts m o ≡ one l t → (a : ℕ) × (m ≡ l) × (o ≡ One a) × (tree_at ts a ≡ t)
one_parts ts m l Zero t e = cc
one_parts ts m l (One a) t e = (a, cc, refl, cc)
one_parts ts m l (Two a b) t e = cc

two_parts : (ts : List LabelTree) (m l : Label) (o : Operands) (t u : LabelTree) → tree_over ts m o ≡ two l t u → (a b : ℕ) × (m ≡ l) × (o ≡ Two a b) × (tree_at ts a ≡ t) × (tree_at ts b ≡ u)
two_parts ts m l Zero t u e = cc
two_parts ts m l (One a) t u e = cc
two_parts ts m l (Two a b) t u e = (a, b, cc, refl, cc, cc)

-- the vertex at a place
pub vertex_there : (vertices : List Vertex) (n : ℕ) → n < length vertices → slice_get vertices n ≡ Some (get_or vertices n True)
vertex_there vertices n l = slice_get-get_or vertices n True l

pub unfolds : (vertices : List Vertex) (n : ℕ) (t : LabelTree) → IsForest vertices → Has vertices n t →
    tree_over (trees vertices) (label_of (get_or vertices n True)) (operands_of (get_or vertices n True)) ≡ t
unfolds vertices n t f h = sym (tree_here vertices n (get_or vertices n True) f (vertex_there vertices n h.within)) ∙ h.is

-- a vertex of an operator with one operand, and with two
pub record IsOne (vertices : List Vertex) (n : ℕ) (l : Label) (t : LabelTree) : Type 0 where
  pub operand : ℕ
  pub label : label_of (get_or vertices n True) ≡ l
  pub operands : operands_of (get_or vertices n True) ≡ One operand
  pub below : operand < n
  pub has : Has vertices operand t

pub record IsTwo (vertices : List Vertex) (n : ℕ) (l : Label) (t u : LabelTree) : Type 0 where
  pub left : ℕ
  pub right : ℕ
  pub label : label_of (get_or vertices n True) ≡ l
  pub operands : operands_of (get_or vertices n True) ≡ Two left right
  pub left_below : left < n
  pub right_below : right < n
  pub has_left : Has vertices left t
  pub has_right : Has vertices right u

pub is_leaf : (vertices : List Vertex) (n : ℕ) (l : Label) → IsForest vertices → Has vertices n (leaf l) →
    (label_of (get_or vertices n True) ≡ l) × (operands_of (get_or vertices n True) ≡ Zero)
is_leaf vertices n l f h = leaf_parts (trees vertices) (label_of (get_or vertices n True)) l (operands_of (get_or vertices n True)) (unfolds vertices n (leaf l) f h)

pub is_one : (vertices : List Vertex) (n : ℕ) (l : Label) (t : LabelTree) → IsForest vertices → Has vertices n (one l t) → IsOne vertices n l t
is_one vertices n l t f h =
    let p = one_parts (trees vertices) (label_of (get_or vertices n True)) l (operands_of (get_or vertices n True)) t (unfolds vertices n (one l t) f h) in
    let below : p.0 < n = subst (OperandsAreBelow n) p.2 (f.over n (get_or vertices n True) (vertex_there vertices n h.within)) in
    let inside : n < length vertices = h.within in
    record { operand = p.0; label = p.1; operands = p.2; below = below; has = record { within = omega arith; is = p.3 } }

pub is_two : (vertices : List Vertex) (n : ℕ) (l : Label) (t u : LabelTree) → IsForest vertices → Has vertices n (two l t u) → IsTwo vertices n l t u
is_two vertices n l t u f h =
    let p = two_parts (trees vertices) (label_of (get_or vertices n True)) l (operands_of (get_or vertices n True)) t u (unfolds vertices n (two l t u) f h) in
    let below : (p.0 < n) × (p.1 < n) = subst (OperandsAreBelow n) p.3 (f.over n (get_or vertices n True) (vertex_there vertices n h.within)) in
    let inside : n < length vertices = h.within in
    let left : p.0 < n = below.0 in
    let right : p.1 < n = below.1 in
    record {
      left = p.0;
      right = p.1;
      label = p.2;
      operands = p.3;
      left_below = left;
      right_below = right;
      has_left = record { within = omega arith; is = p.4 };
      has_right = record { within = omega arith; is = p.5 };
    }

-- a tree has one vertex
same_place : (vertices : List Vertex) (i j : ℕ) → IsForest vertices → i < length vertices → j < length vertices →
    label_of (get_or vertices i True) ≡ label_of (get_or vertices j True) → operands_of (get_or vertices i True) ≡ operands_of (get_or vertices j True) → i ≡ j
same_place vertices i j f l m e o =
    let same : get_or vertices i True ≡ get_or vertices j True = one_vertex (get_or vertices i True) (get_or vertices j True) e o in
    f.once i j (get_or vertices j True) (vertex_there vertices i l ∙ ap Some same) (vertex_there vertices j m)

pub one_place : (vertices : List Vertex) → IsForest vertices → (t : LabelTree) (i j : ℕ) → Has vertices i t → Has vertices j t → i ≡ j
one_place vertices f (leaf l) i j h g =
    let p = is_leaf vertices i l f h in
    let q = is_leaf vertices j l f g in
    same_place vertices i j f h.within g.within (p.0 ∙ sym q.0) (p.1 ∙ sym q.1)
one_place vertices f (one l t) i j h g =
    let p : IsOne vertices i l t = is_one vertices i l t f h in
    let q : IsOne vertices j l t = is_one vertices j l t f g in
    let e : p.operand ≡ q.operand = one_place vertices f t p.operand q.operand p.has q.has in
    same_place vertices i j f h.within g.within (p.label ∙ sym q.label) (p.operands ∙ (ap One e ∙ sym q.operands))
one_place vertices f (two l t u) i j h g =
    let p : IsTwo vertices i l t u = is_two vertices i l t u f h in
    let q : IsTwo vertices j l t u = is_two vertices j l t u f g in
    let d : p.left ≡ q.left = one_place vertices f t p.left q.left p.has_left q.has_left in
    let e : p.right ≡ q.right = one_place vertices f u p.right q.right p.has_right q.has_right in
    same_place vertices i j f h.within g.within (p.label ∙ sym q.label) (p.operands ∙ (ap₂ Two d e ∙ sym q.operands))

pub grows_same : (vertices : List Vertex) → IsForest vertices → Grows vertices vertices
grows_same vertices f = record { forest = f; kept = λ n tree h. h }

pub grows_then : (old mid new : List Vertex) → Grows old mid → Grows mid new → Grows old new
grows_then old mid new g h = record { forest = h.forest; kept = λ n tree s. h.kept n tree (g.kept n tree s) }

pub grows_push : (vertices : List Vertex) (vertex : Vertex) → IsForest vertices → OperandsAreBelow (length vertices) (operands_of vertex) → ((i : ℕ) → slice_get vertices i ≡ Some vertex → ⊥) →
    Grows vertices (vertices ++ vertex ∷ [])
grows_push vertices vertex f below new = record {
  forest = record {
    over = λ i x e. elim (at_push vertices vertex i x e) [
      | inl p ↦ f.over i x p.1
      | inr p ↦ subst (λ y. OperandsAreBelow i (operands_of y)) p.1 (subst (λ n. OperandsAreBelow n (operands_of vertex)) (sym p.0) below)
    ];
    once = λ i j x e g. elim (at_push vertices vertex i x e) [
      | inl p ↦ elim (at_push vertices vertex j x g) [
        | inl q ↦ f.once i j x p.1 q.1
        | inr q ↦ absurd (new i (subst (λ y. slice_get vertices i ≡ Some y) (sym q.1) p.1))
      ]
      | inr p ↦ elim (at_push vertices vertex j x g) [
        | inl q ↦ absurd (new j (subst (λ y. slice_get vertices j ≡ Some y) (sym p.1) q.1))
        | inr q ↦ p.0 ∙ sym q.0
      ]
    ];
  };
  kept = λ n tree h.
      let inside : n < length vertices = h.within in
      record {
        within = omega (arith, length_push vertices vertex);
        is = tree_kept vertices (vertex ∷ []) n inside ∙ h.is;
      };
}

pub has_there : (vertices : List Vertex) (n : ℕ) (vertex : Vertex) → IsForest vertices → slice_get vertices n ≡ Some vertex → Has vertices n (vertex_tree (trees vertices) vertex)
has_there vertices n vertex f e = record { within = slice_get_within vertices n vertex e; is = tree_here vertices n vertex f e }

-- a vertex that was inserted, by a test that tells a vertex to be itself
pub inserted : {alike : Vertex → Vertex → Bool} → IsEquivalence alike → (old new : List Vertex) (vertex : Vertex) →
    new ≡ (if list_any (alike vertex) old then old else old ++ vertex ∷ []) → IsAdded old new vertex
inserted {alike} laws old new vertex e = go (list_any (alike vertex) old) refl e
  where
    go : (b : Bool) → list_any (alike vertex) old ≡ b → new ≡ (if b then old else old ++ vertex ∷ []) → IsAdded old new vertex
    go true h e = inl e
    go false h e = inr (
      e,
      λ i g.
          let inside : i < length old = slice_get_within old i vertex g in
          let here : alike vertex (get_or old i vertex) ≡ true = ap (alike vertex) (get_or_from_slice_get old i vertex vertex g) ∙ laws.refl vertex in
          let found : list_any (alike vertex) old ≡ true = list_any_at (alike vertex) old i vertex inside here in
          true≢false (sym found ∙ h),
    )

pub grows_added : (old new : List Vertex) (vertex : Vertex) → IsForest old → OperandsAreBelow (length old) (operands_of vertex) → IsAdded old new vertex → Grows old new
grows_added old new vertex f below a = elim a [
  | inl e ↦ subst (λ vertices. Grows old vertices) (sym e) (grows_same old f)
  | inr p ↦ subst (λ vertices. Grows old vertices) (sym p.0) (grows_push old vertex f below p.1)
]

pub has_added : (old new : List Vertex) (vertex : Vertex) (n : ℕ) → IsForest old → OperandsAreBelow (length old) (operands_of vertex) → IsAdded old new vertex → slice_get new n ≡ Some vertex →
    Has new n (vertex_tree (trees old) vertex)
has_added old new vertex n f below a e =
    let g : Grows old new = grows_added old new vertex f below a in
    let h : Has new n (vertex_tree (trees new) vertex) = has_there new n vertex g.forest e in
    let same : vertex_tree (trees new) vertex ≡ vertex_tree (trees old) vertex
    = joined_kept (trees new) (trees old) (label_of vertex) (operands_of vertex) (length old) below
    (λ b l. (g.kept b (tree_at (trees old) b) (record { within = l; is = refl })).is) in
    subst (λ t. Has new n t) same h

-- the same of the number that was answered, if one was
pub shared_has : {E : Type 0} (r : Result ℕ E) (old new : List Vertex) (vertex : Vertex) → IsForest old → OperandsAreBelow (length old) (operands_of vertex)
    → OnOk r (IsAdded old new vertex) → IfOk r (λ n. slice_get new n ≡ Some vertex) → IfOk r (λ n. Has new n (vertex_tree (trees old) vertex))
shared_has (Ok n) old new vertex f below a e = has_added old new vertex n f below a e
shared_has (Err fault) old new vertex f below a e = tt

-- core formulas stay core formulas
pub core_here : (vertices : List Vertex) (n : ℕ) (p : Core) → Has vertices n (of_core p) → IsCoreAt vertices n
core_here vertices n p h = record { formula = p; has = h }

pub core_kept : (old new : List Vertex) (n : ℕ) → Grows old new → IsCoreAt old n → IsCoreAt new n
core_kept old new n g h = record { formula = h.formula; has = g.kept n (of_core h.formula) h.has }

-- the operand of a negation is the negation, and another formula is negated by one more vertex
not_case : (vertices : List Vertex) (b : ℕ) (p : Core) → b < length vertices → one (sign not_sign) (tree_at (trees vertices) b) ≡ of_core p → Has vertices b (of_core (neg p))
unfolding neg
not_case vertices b (catom a) l e = let two : sign not_sign ≡ sign load_sign = cc in cc
not_case vertices b (cnot p) l e = record { within = l; is = cc }
not_case vertices b _ l e = cc

pub not_operand : (vertices : List Vertex) (a b : ℕ) → IsForest vertices → slice_get vertices a ≡ Some (Not b) → (p : Core) → Has vertices a (of_core p) → Has vertices b (of_core (neg p))
not_operand vertices a b f e p h =
    let below : b < a = f.over a (Not b) e in
    let inside : a < length vertices = h.within in
    not_case vertices b p (omega arith) (sym (tree_here vertices a (Not b) f e) ∙ h.is)

neg_case : (vertices new : List Vertex) (a n : ℕ) (p : Core) → IsForest vertices → ((b : ℕ) → slice_get vertices a ≡ Some (Not b) → ⊥) → Has vertices a (of_core p) → Has new n (one (sign not_sign) (of_core p)) → Has new n (of_core (neg p))
unfolding neg
neg_case vertices new a n (cnot p) f other h g =
    let q : IsOne vertices a (sign not_sign) (of_core p) = is_one vertices a (sign not_sign) (of_core p) f h in
    let same : get_or vertices a True ≡ Not q.operand = one_vertex (get_or vertices a True) (Not q.operand) q.label q.operands in
    absurd (other q.operand (vertex_there vertices a h.within ∙ ap Some same))
neg_case vertices new a n ctrue f other h g = g
neg_case vertices new a n _ f other h g = g

pub not_added : (vertices new : List Vertex) (a n : ℕ) → IsForest vertices → ((b : ℕ) → slice_get vertices a ≡ Some (Not b) → ⊥) → Has new n (one (sign not_sign) (tree_at (trees vertices) a)) →
    (p : Core) → Has vertices a (of_core p) → Has new n (of_core (neg p))
not_added vertices new a n f other g p h = neg_case vertices new a n p f other h (subst (λ t. Has new n (one (sign not_sign) t)) h.is g)
