-- The instructions of listed vertices are those of the formulas and expressions that they unfold to.

use Rattle.std.proofs.Common.{◌≡◌, ℕ, suc, ◌<◌, Bool, true, false, not, ◌||◌, Option, Some, None, List, [], ◌∷◌, filter, map, length, nat_lt, slice_get, slice_index, refl, sym, subst, ap, ap₂, ◌∙◌}
use Rattle.std.proofs.lemmas.Bool.{true≢false}
use Rattle.std.proofs.lemmas.Option.{slice_get-map}
use Rattle.std.specs.Option.{option_map}
use Rattle.mltl_base.specs.declared.operators.ArithOp as arith_op
use Rattle.mltl_base.specs.declared.operators.BzOp.TheVariants as bz_op
use Rattle.mltl_base.specs.declared.operators.FtOp.TheVariants as ft_op
use Rattle.mltl_base.specs.declared.operators.PtOp.TheVariants as pt_op
use Rattle.mltl_base.specs.Atoms.{Term, column, constant, negative, plus, minus, times, quotient, remainder, Atom, is_true, equal, less, at_most, different, greater, at_least}
use Rattle.mltl_base.specs.Formula.{Core, ctrue, catom, cnot, cand, cuntil, csince}
use Rattle.mltl_base.specs.Programs.{Expression, whole, truth}
use Rattle.mltl_base.specs.Subformulas.{same_expression, same, listed, place_of, instruction_of, bz_instruction, ft_instruction, pt_instruction}
use Rattle.mltl_base.proofs.Listing.{place_get}
use Rattle.mltl_base.proofs.Sameness.{same_sound, same_self, same_expression_sound, same_expression_self}
use Rattle.core_graph.specs.declared.vertex.Vertex.{Vertex}
use Rattle.core_graph.specs.declared.vertex.Vertex.TheVariants.{Column, Const, Neg, Arith, IsTrue, Eq, Lt, Le, True, Load, Not, And, Until, Since}
use Rattle.core_graph.specs.declared.vertex.Operands.TheVariants.{Zero, One, Two}
use Rattle.core_graph.specs.Trees.{negative_sign, plus_sign, minus_sign, times_sign, quotient_sign, remainder_sign, equal_sign, less_sign, at_most_sign, different_sign, greater_sign, at_least_sign, true_sign, load_sign, not_sign, and_sign, sign_number, Label, sign, in_column, truth_in, number, until_in, since_in, LabelTree, leaf, one, two, same_tree, is_core_tree}
use Rattle.core_graph.specs.Vertices.{operands_of, label_of, tree_at, trees, Has, IsForest}
use Rattle.core_graph.specs.Images.{of_term, of_atom, of_expression, of_core}
use Rattle.core_graph.specs.Walks.{trees_of, HasItsOperands}
use Rattle.core_graph.specs.Listings.{IsListing, vertex_at, bz_op_of, ft_op_of, pt_op_of}
use Rattle.core_graph.proofs.Forests.{one_vertex, is_leaf, is_one, is_two, IsOne, IsTwo, one_place}
use Rattle.core_graph.proofs.Sameness.{same_expression_image, same_core_image}
use Rattle.core_graph.proofs.Parts.{listed_both, core_within, is_expression_tree, expression_within}

mapped_get : {X Y : Type 0} (f : X → Y) (o : Option X) (y : Y) → option_map f o ≡ Some y → (x : X) × (o ≡ Some x) × (f x ≡ y)
mapped_get f None y e = cc
mapped_get f (Some x) y e = (x, refl, cc)

-- a vertex of a listed tree has the tree's place
module _ {X : Type 0} (alike : X → X → Bool) (sound : (x y : X) → alike x y ≡ true → x ≡ y) (self : (x : X) → alike x x ≡ true) (image : X → LabelTree) where
  pub place_is : (vertices : List Vertex) (ids places : List ℕ) (xs : List X) → IsForest vertices → IsListing vertices (map image xs) ids places →
      (x : X) (n : ℕ) → listed alike x xs ≡ true → Has vertices n (image x) → slice_index places n ≡ place_of alike x xs
  place_is vertices ids places xs f l x n h g =
      let i : ℕ = place_of alike x xs in
      let there : slice_get xs i ≡ Some x = place_get alike sound self x xs h in
      let imaged : slice_get (map image xs) i ≡ Some (image x) = slice_get-map image xs i ∙ ap (option_map image) there in
      let treed : slice_get (trees_of vertices ids) i ≡ Some (image x) = ap (λ ts. slice_get ts i) l.in_order ∙ imaged in
      let found = mapped_get (tree_at (trees vertices)) (slice_get ids i) (image x) (sym (slice_get-map (tree_at (trees vertices)) ids i) ∙ treed) in
      let has : Has vertices found.0 (image x) = record { within = l.within i found.0 found.1; is = found.2 } in
      let same : found.0 ≡ n = one_place vertices f (image x) found.0 n has g in
      subst (λ k. slice_index places k ≡ i) same (l.numbered i found.0 found.1)

  or_more : (b c : Bool) → c ≡ true → (b || c) ≡ true
  or_more true c h = refl
  or_more false c h = h

  here_listed : (x : X) (xs : List X) → listed alike x (x ∷ xs) ≡ true
  unfolding listed
  here_listed x xs = ap (λ b. b || listed alike x xs) (self x)

  later_listed : (x y : X) (xs : List X) → listed alike x xs ≡ true → listed alike x (y ∷ xs) ≡ true
  unfolding listed
  later_listed x y xs h = or_more (alike x y) (listed alike x xs) h

  -- two lists are one where they agree at each vertex
  pub both_maps : {Y : Type 0} (vertices : List Vertex) (g : ℕ → Y) (h : X → Y) (ids : List ℕ) (xs : List X) → trees_of vertices ids ≡ map image xs →
      ((i n : ℕ) → slice_get ids i ≡ Some n → n < length vertices) → ((n : ℕ) (x : X) → Has vertices n (image x) → listed alike x xs ≡ true → g n ≡ h x) → map g ids ≡ map h xs
  both_maps vertices g h [] [] e w p = refl
  both_maps vertices g h [] (x ∷ xs) e w p = cc
  both_maps vertices g h (n ∷ ids) [] e w p = cc
  both_maps vertices g h (n ∷ ids) (x ∷ xs) e w p =
      let first : tree_at (trees vertices) n ≡ image x = cc in
      let rest : trees_of vertices ids ≡ map image xs = cc in
      let has : Has vertices n (image x) = record { within = w 0 n refl; is = first } in
      ap₂ ◌∷◌ (p n x has (here_listed x xs))
      (both_maps vertices g h ids xs rest (λ i m q. w (suc i) m q) (λ m y q r. p m y q (later_listed y x xs r)))

-- the vertex of a tree
leaf_vertex : (vertices : List Vertex) (n : ℕ) (l : Label) (vertex : Vertex) → label_of vertex ≡ l → operands_of vertex ≡ Zero → IsForest vertices → Has vertices n (leaf l) → vertex_at vertices n ≡ vertex
leaf_vertex vertices n l vertex e o f h =
    let p = is_leaf vertices n l f h in
    one_vertex (vertex_at vertices n) vertex (p.0 ∙ sym e) (p.1 ∙ sym o)

one_of : (vertices : List Vertex) (n : ℕ) (l : Label) (t : LabelTree) (make : ℕ → Vertex) → ((a : ℕ) → label_of (make a) ≡ l) → ((a : ℕ) → operands_of (make a) ≡ One a) →
    IsForest vertices → Has vertices n (one l t) → (a : ℕ) × (vertex_at vertices n ≡ make a) × Has vertices a t
one_of vertices n l t make e o f h =
    let p : IsOne vertices n l t = is_one vertices n l t f h in
    (p.operand, one_vertex (vertex_at vertices n) (make p.operand) (p.label ∙ sym (e p.operand)) (p.operands ∙ sym (o p.operand)), p.has)

two_of : (vertices : List Vertex) (n : ℕ) (l : Label) (t u : LabelTree) (make : ℕ → ℕ → Vertex) → ((a b : ℕ) → label_of (make a b) ≡ l) → ((a b : ℕ) → operands_of (make a b) ≡ Two a b) →
    IsForest vertices → Has vertices n (two l t u) → (a b : ℕ) × (vertex_at vertices n ≡ make a b) × Has vertices a t × Has vertices b u
two_of vertices n l t u make e o f h =
    let p : IsTwo vertices n l t u = is_two vertices n l t u f h in
    (p.left, p.right, one_vertex (vertex_at vertices n) (make p.left p.right) (p.label ∙ sym (e p.left p.right)) (p.operands ∙ sym (o p.left p.right)), p.has_left, p.has_right)

-- no vertex is a comparison that instructions lack
abbrev is_had : Label → Bool
is_had (sign s) = not (nat_lt 8 (sign_number s)) || nat_lt 11 (sign_number s)
is_had _ = true

all_had : (x : Vertex) → is_had (label_of x) ≡ true
all_had (Arith arith_op.TheVariants.Add a b) = refl
all_had _ = refl

none_of : (vertices : List Vertex) (n : ℕ) (l : Label) (t u : LabelTree) → is_had l ≡ false → IsForest vertices → Has vertices n (two l t u) → ⊥
none_of vertices n l t u e f h =
    let p : IsTwo vertices n l t u = is_two vertices n l t u f h in
    true≢false (sym (all_had (vertex_at vertices n)) ∙ (ap is_had p.label ∙ e))

-- instructions of the Booleanizer
pub record IsBz (vertices : List Vertex) (done : List LabelTree) (es : List Expression) (ids places : List ℕ) : Type 0 where
  pub forest : IsForest vertices
  pub closed : HasItsOperands done
  pub part : filter is_expression_tree done ≡ map of_expression es
  pub listing : IsListing vertices (map of_expression es) ids places

module _ (vertices : List Vertex) (done : List LabelTree) (es : List Expression) (ids places : List ℕ) (b : IsBz vertices done es ids places) where
  listed_tree : (e : Expression) → listed same_expression e es ≡ true → listed same_tree (of_expression e) done ≡ true
  listed_tree e h = listed_both same_expression of_expression is_expression_tree same_expression_image expression_within e done es b.part ∙ h

  listed_expression : (e : Expression) → listed same_tree (of_expression e) done ≡ true → listed same_expression e es ≡ true
  listed_expression e h = sym (listed_both same_expression of_expression is_expression_tree same_expression_image expression_within e done es b.part) ∙ h

  pub expression_place : (e : Expression) (n : ℕ) → listed same_expression e es ≡ true → Has vertices n (of_expression e) → slice_index places n ≡ place_of same_expression e es
  expression_place e n h g = place_is same_expression same_expression_sound same_expression_self of_expression vertices ids places es b.forest b.listing e n h g

  term_place : (a : Term) (n : ℕ) → listed same_tree (of_term a) done ≡ true → Has vertices n (of_term a) → slice_index places n ≡ instruction_of es a
  term_place a n h g = expression_place (whole a) n (listed_expression (whole a) h) g

  pub bz_is : (n : ℕ) (e : Expression) → Has vertices n (of_expression e) → listed same_expression e es ≡ true → bz_op_of places (vertex_at vertices n) ≡ bz_instruction es e
  bz_is n (whole (column c)) g h = ap (bz_op_of places) (leaf_vertex vertices n (in_column c) (Column c) refl refl b.forest g)
  bz_is n (whole (constant m)) g h = ap (bz_op_of places) (leaf_vertex vertices n (number m) (Const m) refl refl b.forest g)
  bz_is n (whole (negative a)) g h =
      let p = one_of vertices n (sign negative_sign) (of_term a) Neg (λ k. refl) (λ k. refl) b.forest g in
      ap (bz_op_of places) p.1 ∙ ap (λ k. bz_op.Neg k) (term_place a p.0 (b.closed.operands (of_term (negative a)) (listed_tree (whole (negative a)) h)) p.2)
  bz_is n (whole (plus x y)) g h =
      let p = two_of vertices n (sign plus_sign) (of_term x) (of_term y) (Arith arith_op.TheVariants.Add) (λ k m. refl) (λ k m. refl) b.forest g in
      let q : (listed same_tree (of_term x) done ≡ true) × (listed same_tree (of_term y) done ≡ true) = b.closed.operands (of_term (plus x y)) (listed_tree (whole (plus x y)) h) in
      ap (bz_op_of places) p.2 ∙ ap₂ (λ k m. bz_op.Add k m) (term_place x p.0 q.0 p.3) (term_place y p.1 q.1 p.4)
  bz_is n (whole (minus x y)) g h =
      let p = two_of vertices n (sign minus_sign) (of_term x) (of_term y) (Arith arith_op.TheVariants.Sub) (λ k m. refl) (λ k m. refl) b.forest g in
      let q : (listed same_tree (of_term x) done ≡ true) × (listed same_tree (of_term y) done ≡ true) = b.closed.operands (of_term (minus x y)) (listed_tree (whole (minus x y)) h) in
      ap (bz_op_of places) p.2 ∙ ap₂ (λ k m. bz_op.Sub k m) (term_place x p.0 q.0 p.3) (term_place y p.1 q.1 p.4)
  bz_is n (whole (times x y)) g h =
      let p = two_of vertices n (sign times_sign) (of_term x) (of_term y) (Arith arith_op.TheVariants.Mul) (λ k m. refl) (λ k m. refl) b.forest g in
      let q : (listed same_tree (of_term x) done ≡ true) × (listed same_tree (of_term y) done ≡ true) = b.closed.operands (of_term (times x y)) (listed_tree (whole (times x y)) h) in
      ap (bz_op_of places) p.2 ∙ ap₂ (λ k m. bz_op.Mul k m) (term_place x p.0 q.0 p.3) (term_place y p.1 q.1 p.4)
  bz_is n (whole (quotient x y)) g h =
      let p = two_of vertices n (sign quotient_sign) (of_term x) (of_term y) (Arith arith_op.TheVariants.Div) (λ k m. refl) (λ k m. refl) b.forest g in
      let q : (listed same_tree (of_term x) done ≡ true) × (listed same_tree (of_term y) done ≡ true) = b.closed.operands (of_term (quotient x y)) (listed_tree (whole (quotient x y)) h) in
      ap (bz_op_of places) p.2 ∙ ap₂ (λ k m. bz_op.Div k m) (term_place x p.0 q.0 p.3) (term_place y p.1 q.1 p.4)
  bz_is n (whole (remainder x y)) g h =
      let p = two_of vertices n (sign remainder_sign) (of_term x) (of_term y) (Arith arith_op.TheVariants.Rem) (λ k m. refl) (λ k m. refl) b.forest g in
      let q : (listed same_tree (of_term x) done ≡ true) × (listed same_tree (of_term y) done ≡ true) = b.closed.operands (of_term (remainder x y)) (listed_tree (whole (remainder x y)) h) in
      ap (bz_op_of places) p.2 ∙ ap₂ (λ k m. bz_op.Rem k m) (term_place x p.0 q.0 p.3) (term_place y p.1 q.1 p.4)
  bz_is n (truth (is_true c)) g h = ap (bz_op_of places) (leaf_vertex vertices n (truth_in c) (IsTrue c) refl refl b.forest g)
  bz_is n (truth (equal x y)) g h =
      let p = two_of vertices n (sign equal_sign) (of_term x) (of_term y) Eq (λ k m. refl) (λ k m. refl) b.forest g in
      let q : (listed same_tree (of_term x) done ≡ true) × (listed same_tree (of_term y) done ≡ true) = b.closed.operands (of_atom (equal x y)) (listed_tree (truth (equal x y)) h) in
      ap (bz_op_of places) p.2 ∙ ap₂ (λ k m. bz_op.Eq k m) (term_place x p.0 q.0 p.3) (term_place y p.1 q.1 p.4)
  bz_is n (truth (less x y)) g h =
      let p = two_of vertices n (sign less_sign) (of_term x) (of_term y) Lt (λ k m. refl) (λ k m. refl) b.forest g in
      let q : (listed same_tree (of_term x) done ≡ true) × (listed same_tree (of_term y) done ≡ true) = b.closed.operands (of_atom (less x y)) (listed_tree (truth (less x y)) h) in
      ap (bz_op_of places) p.2 ∙ ap₂ (λ k m. bz_op.Lt k m) (term_place x p.0 q.0 p.3) (term_place y p.1 q.1 p.4)
  bz_is n (truth (at_most x y)) g h =
      let p = two_of vertices n (sign at_most_sign) (of_term x) (of_term y) Le (λ k m. refl) (λ k m. refl) b.forest g in
      let q : (listed same_tree (of_term x) done ≡ true) × (listed same_tree (of_term y) done ≡ true) = b.closed.operands (of_atom (at_most x y)) (listed_tree (truth (at_most x y)) h) in
      ap (bz_op_of places) p.2 ∙ ap₂ (λ k m. bz_op.Le k m) (term_place x p.0 q.0 p.3) (term_place y p.1 q.1 p.4)
  bz_is n (truth (different x y)) g h = absurd (none_of vertices n (sign different_sign) (of_term x) (of_term y) refl b.forest g)
  bz_is n (truth (greater x y)) g h = absurd (none_of vertices n (sign greater_sign) (of_term x) (of_term y) refl b.forest g)
  bz_is n (truth (at_least x y)) g h = absurd (none_of vertices n (sign at_least_sign) (of_term x) (of_term y) refl b.forest g)

  -- the list of the Booleanizer
  pub bz_ops_are : map (λ n. bz_op_of places (vertex_at vertices n)) ids ≡ map (bz_instruction es) es
  bz_ops_are =
      both_maps same_expression same_expression_sound same_expression_self of_expression vertices (λ n. bz_op_of places (vertex_at vertices n)) (bz_instruction es) ids es
      b.listing.in_order b.listing.within bz_is

-- instructions of an engine, whose atoms are listed for the Booleanizer
pub record IsEngine (vertices : List Vertex) (done : List LabelTree) (ps : List Core) (ids places : List ℕ) (es : List Expression) (loads : List ℕ) : Type 0 where
  pub forest : IsForest vertices
  pub closed : HasItsOperands done
  pub part : filter is_core_tree done ≡ map of_core ps
  pub listing : IsListing vertices (map of_core ps) ids places
  pub loaded : (a : Atom) (n : ℕ) → listed same (catom a) ps ≡ true → Has vertices n (of_atom a) → slice_index loads n ≡ place_of same_expression (truth a) es

module _ (vertices : List Vertex) (done : List LabelTree) (ps : List Core) (ids places : List ℕ) (es : List Expression) (loads : List ℕ) (g : IsEngine vertices done ps ids places es loads) where
  core_tree : (p : Core) → listed same p ps ≡ true → listed same_tree (of_core p) done ≡ true
  core_tree p h = listed_both same of_core is_core_tree same_core_image core_within p done ps g.part ∙ h

  core_place : (p : Core) (n : ℕ) → listed same_tree (of_core p) done ≡ true → Has vertices n (of_core p) → slice_index places n ≡ place_of same p ps
  core_place p n h k =
      place_is same same_sound same_self of_core vertices ids places ps g.forest g.listing p n
      (sym (listed_both same of_core is_core_tree same_core_image core_within p done ps g.part) ∙ h) k

  pub ft_is : (n : ℕ) (p : Core) → Has vertices n (of_core p) → listed same p ps ≡ true → ft_op_of loads places (vertex_at vertices n) ≡ ft_instruction es ps p
  ft_is n ctrue k h = ap (ft_op_of loads places) (leaf_vertex vertices n (sign true_sign) True refl refl g.forest k)
  ft_is n (catom a) k h =
      let p = one_of vertices n (sign load_sign) (of_atom a) Load (λ m. refl) (λ m. refl) g.forest k in
      ap (ft_op_of loads places) p.1 ∙ ap (λ m. ft_op.Load m) (g.loaded a p.0 h p.2)
  ft_is n (cnot q) k h =
      let p = one_of vertices n (sign not_sign) (of_core q) Not (λ m. refl) (λ m. refl) g.forest k in
      ap (ft_op_of loads places) p.1 ∙ ap (λ m. ft_op.Not m) (core_place q p.0 (g.closed.operands (of_core (cnot q)) (core_tree (cnot q) h)) p.2)
  ft_is n (cand q r) k h =
      let p = two_of vertices n (sign and_sign) (of_core q) (of_core r) And (λ a b. refl) (λ a b. refl) g.forest k in
      let o : (listed same_tree (of_core q) done ≡ true) × (listed same_tree (of_core r) done ≡ true) = g.closed.operands (of_core (cand q r)) (core_tree (cand q r) h) in
      ap (ft_op_of loads places) p.2 ∙ ap₂ (λ a b. ft_op.And a b) (core_place q p.0 o.0 p.3) (core_place r p.1 o.1 p.4)
  ft_is n (cuntil i q r) k h =
      let p = two_of vertices n (until_in i) (of_core q) (of_core r) (Until i) (λ a b. refl) (λ a b. refl) g.forest k in
      let o : (listed same_tree (of_core q) done ≡ true) × (listed same_tree (of_core r) done ≡ true) = g.closed.operands (of_core (cuntil i q r)) (core_tree (cuntil i q r) h) in
      ap (ft_op_of loads places) p.2 ∙ ap₂ (λ a b. ft_op.Until a b i) (core_place q p.0 o.0 p.3) (core_place r p.1 o.1 p.4)
  ft_is n (csince i q r) k h =
      let p = two_of vertices n (since_in i) (of_core q) (of_core r) (Since i) (λ a b. refl) (λ a b. refl) g.forest k in
      ap (ft_op_of loads places) p.2

  pub pt_is : (n : ℕ) (p : Core) → Has vertices n (of_core p) → listed same p ps ≡ true → pt_op_of loads places (vertex_at vertices n) ≡ pt_instruction es ps p
  pt_is n ctrue k h = ap (pt_op_of loads places) (leaf_vertex vertices n (sign true_sign) True refl refl g.forest k)
  pt_is n (catom a) k h =
      let p = one_of vertices n (sign load_sign) (of_atom a) Load (λ m. refl) (λ m. refl) g.forest k in
      ap (pt_op_of loads places) p.1 ∙ ap (λ m. pt_op.Load m) (g.loaded a p.0 h p.2)
  pt_is n (cnot q) k h =
      let p = one_of vertices n (sign not_sign) (of_core q) Not (λ m. refl) (λ m. refl) g.forest k in
      ap (pt_op_of loads places) p.1 ∙ ap (λ m. pt_op.Not m) (core_place q p.0 (g.closed.operands (of_core (cnot q)) (core_tree (cnot q) h)) p.2)
  pt_is n (cand q r) k h =
      let p = two_of vertices n (sign and_sign) (of_core q) (of_core r) And (λ a b. refl) (λ a b. refl) g.forest k in
      let o : (listed same_tree (of_core q) done ≡ true) × (listed same_tree (of_core r) done ≡ true) = g.closed.operands (of_core (cand q r)) (core_tree (cand q r) h) in
      ap (pt_op_of loads places) p.2 ∙ ap₂ (λ a b. pt_op.And a b) (core_place q p.0 o.0 p.3) (core_place r p.1 o.1 p.4)
  pt_is n (csince i q r) k h =
      let p = two_of vertices n (since_in i) (of_core q) (of_core r) (Since i) (λ a b. refl) (λ a b. refl) g.forest k in
      let o : (listed same_tree (of_core q) done ≡ true) × (listed same_tree (of_core r) done ≡ true) = g.closed.operands (of_core (csince i q r)) (core_tree (csince i q r) h) in
      ap (pt_op_of loads places) p.2 ∙ ap₂ (λ a b. pt_op.Since a b i) (core_place q p.0 o.0 p.3) (core_place r p.1 o.1 p.4)
  pt_is n (cuntil i q r) k h =
      let p = two_of vertices n (until_in i) (of_core q) (of_core r) (Until i) (λ a b. refl) (λ a b. refl) g.forest k in
      ap (pt_op_of loads places) p.2

  -- the lists of the engines
  pub ft_ops_are : map (λ n. ft_op_of loads places (vertex_at vertices n)) ids ≡ map (ft_instruction es ps) ps
  ft_ops_are =
      both_maps same same_sound same_self of_core vertices (λ n. ft_op_of loads places (vertex_at vertices n)) (ft_instruction es ps) ids ps
      g.listing.in_order g.listing.within ft_is

  pub pt_ops_are : map (λ n. pt_op_of loads places (vertex_at vertices n)) ids ≡ map (pt_instruction es ps) ps
  pt_ops_are =
      both_maps same same_sound same_self of_core vertices (λ n. pt_op_of loads places (vertex_at vertices n)) (pt_instruction es ps) ids ps
      g.listing.in_order g.listing.within pt_is
