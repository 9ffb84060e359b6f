-- Vertices of plain nodes: what is read of a node, given what is read of those before it.

use Rattle.std.proofs.Common.{◌≡◌, ℕ, ℤ, ◌+◌, ◌<◌, Bool, true, false, Some, List, [], ◌∷◌, ◌++◌, length, take, get_or, slice_get, slice_index, refl, sym, subst, ap, ap₂, ◌∙◌, arith, inl, inr}
use Rattle.std.specs.Prelude.{Result, IfOk}
use Rattle.std.proofs.lemmas.List.{length_push, take_more}
use Rattle.std.proofs.lemmas.Option.{get_or_from_slice_get, slice_get_within}
use Rattle.mltl_base.specs.declared.operators.ArithOp as arith_op
use Rattle.mltl_base.specs.declared.operators.CompareOp as compare
use Rattle.mltl_base.specs.declared.operators.LogicOp as logic
use Rattle.mltl_base.specs.declared.operators.WindowOp as window
use Rattle.mltl_base.specs.declared.operators.BetweenOp as between
use Rattle.mltl_base.specs.declared.interval.Interval.{Interval}
use Rattle.mltl_base.specs.Atoms.{Term, term_over, atom_over}
use Rattle.mltl_base.specs.Formula.{Formula, Core, core, core_atom, neg, formula_over}
use Rattle.c2po_ast.specs.declared.nodes.Plain.{Plain}
use Rattle.c2po_ast.specs.declared.nodes.Plain.TheVariants.{Truth, Flag, Number, Signal, Minus, Arith, Compare, Not, Logic, Window, Between}
use Rattle.c2po_ast.specs.Nodes as plain
use Rattle.c2po_ast.proofs.Places.{at_push}
use Rattle.c2po_ast.proofs.Pushing as pushing
use Rattle.core_graph.specs.declared.vertex.Vertex.{Vertex}
use Rattle.core_graph.specs.declared.vertex.Vertex.TheVariants as vertex
use Rattle.core_graph.specs.Trees.{negative_sign, load_sign, sign, one, two, leaf, truth_in}
use Rattle.core_graph.specs.Vertices.{arith_sign, tree_at, vertex_tree, trees, Has, Grows}
use Rattle.core_graph.specs.Images.{of_term, of_core}
use Rattle.core_graph.specs.Reading.{Represents, AreRead}
use Rattle.core_graph.proofs.Outputs.{number_there, formula_there}

-- operators over columns are operators of operands over columns
arithmetic_over : (columns : List ℕ) (op : arith_op.ArithOp) (a b : Term) → term_over columns (plain.arithmetic op a b) ≡ plain.arithmetic op (term_over columns a) (term_over columns b)
unfolding term_over
arithmetic_over columns arith_op.TheVariants.Add a b = refl
arithmetic_over columns _ a b = refl

arithmetic_image : (op : arith_op.ArithOp) (a b : Term) → of_term (plain.arithmetic op a b) ≡ two (sign (arith_sign op)) (of_term a) (of_term b)
arithmetic_image arith_op.TheVariants.Add a b = refl
arithmetic_image _ a b = refl

comparison_over : (columns : List ℕ) (op : compare.CompareOp) (a b : Term) → atom_over columns (plain.comparison op a b) ≡ plain.comparison op (term_over columns a) (term_over columns b)
unfolding atom_over
comparison_over columns compare.TheVariants.Eq a b = refl
comparison_over columns _ a b = refl

connected_over : (columns : List ℕ) (op : logic.LogicOp) (p q : Formula) → formula_over columns (plain.connected op p q) ≡ plain.connected op (formula_over columns p) (formula_over columns q)
unfolding formula_over
connected_over columns logic.TheVariants.And p q = refl
connected_over columns _ p q = refl

windowed_over : (columns : List ℕ) (op : window.WindowOp) (i : Interval) (p : Formula) → formula_over columns (plain.windowed op i p) ≡ plain.windowed op i (formula_over columns p)
unfolding formula_over
windowed_over columns window.TheVariants.F i p = refl
windowed_over columns _ i p = refl

ranged_over : (columns : List ℕ) (op : between.BetweenOp) (i : Interval) (p q : Formula) → formula_over columns (plain.ranged op i p q) ≡ plain.ranged op i (formula_over columns p) (formula_over columns q)
unfolding formula_over
ranged_over columns between.TheVariants.U i p q = refl
ranged_over columns between.TheVariants.R i p q = refl
ranged_over columns between.TheVariants.S i p q = refl

constant_over : (columns : List ℕ) (v : Bool) → formula_over columns (plain.constant_formula v) ≡ plain.constant_formula v
unfolding formula_over
constant_over columns true = refl
constant_over columns false = refl

-- what the vertex of each node stands for
module _ {E : Type 0} (columns : List ℕ) (old : List Vertex) (before : List Plain) (ids : List ℕ) (r : AreRead columns old before ids) (new : List Vertex) (result : Result ℕ E) where
  pub truth_stands : (v : Bool) → IfOk result (λ n. Has new n (of_core (core (plain.constant_formula v)))) →
      IfOk result (λ n. Represents columns new n (plain.tree_of (plain.trees before) (Truth v)))
  truth_stands v h = subst (λ p. IfOk result (λ n. Has new n (of_core (core p)))) (sym (constant_over columns v)) h

  pub number_stands : (m : ℤ) → IfOk result (λ n. Has new n (vertex_tree (trees old) (vertex.Const m))) → IfOk result (λ n. Represents columns new n (plain.tree_of (plain.trees before) (Number m)))
  unfolding term_over
  number_stands m h = h

  pub signal_stands : (s : ℕ) → IfOk result (λ n. Has new n (vertex_tree (trees old) (vertex.Column (slice_index columns s)))) → IfOk result (λ n. Represents columns new n (plain.tree_of (plain.trees before) (Signal s)))
  unfolding term_over
  signal_stands s h = h

  pub flag_stands : (s atom : ℕ) (mid : List Vertex) → Has mid atom (leaf (truth_in (slice_index columns s))) → IfOk result (λ n. Has new n (vertex_tree (trees mid) (vertex.Load atom))) →
      IfOk result (λ n. Represents columns new n (plain.tree_of (plain.trees before) (Flag s)))
  unfolding core formula_over atom_over
  flag_stands s atom mid g h = subst (λ t. IfOk result (λ n. Has new n (one (sign load_sign) t))) g.is h

  pub minus_stands : (a : ℕ) → plain.IsNumber (slice_get (plain.trees before) a) → IfOk result (λ n. Has new n (vertex_tree (trees old) (vertex.Neg (slice_index ids a)))) →
      IfOk result (λ n. Represents columns new n (plain.tree_of (plain.trees before) (Minus a)))
  unfolding term_over
  minus_stands a k h = subst (λ t. IfOk result (λ n. Has new n (one (sign negative_sign) t))) (number_there columns old before ids r a k).is h

  pub arith_stands : (op : arith_op.ArithOp) (a b : ℕ) → plain.IsNumber (slice_get (plain.trees before) a) → plain.IsNumber (slice_get (plain.trees before) b) →
      IfOk result (λ n. Has new n (vertex_tree (trees old) (vertex.Arith op (slice_index ids a) (slice_index ids b)))) →
      IfOk result (λ n. Represents columns new n (plain.tree_of (plain.trees before) (Arith op a b)))
  arith_stands op a b k l h =
      let x : Term = plain.node_term (plain.trees before) a in
      let y : Term = plain.node_term (plain.trees before) b in
      let tree : two (sign (arith_sign op)) (tree_at (trees old) (slice_index ids a)) (tree_at (trees old) (slice_index ids b)) ≡ of_term (term_over columns (plain.arithmetic op x y))
      = ap₂ (two (sign (arith_sign op))) (number_there columns old before ids r a k).is (number_there columns old before ids r b l).is
      ∙ (sym (arithmetic_image op (term_over columns x) (term_over columns y)) ∙ ap of_term (sym (arithmetic_over columns op x y))) in
      subst (λ t. IfOk result (λ n. Has new n t)) tree h

  pub compare_stands : (op : compare.CompareOp) (a b : ℕ) → plain.IsNumber (slice_get (plain.trees before) a) → plain.IsNumber (slice_get (plain.trees before) b) →
      ((x y : Term) → Has old (slice_index ids a) (of_term x) → Has old (slice_index ids b) (of_term y) → IfOk result (λ n. Has new n (of_core (core_atom (plain.comparison op x y))))) →
      IfOk result (λ n. Represents columns new n (plain.tree_of (plain.trees before) (Compare op a b)))
  unfolding core formula_over
  compare_stands op a b k l h =
      let x : Term = plain.node_term (plain.trees before) a in
      let y : Term = plain.node_term (plain.trees before) b in
      subst (λ t. IfOk result (λ n. Has new n (of_core (core_atom t)))) (sym (comparison_over columns op x y))
      (h (term_over columns x) (term_over columns y) (number_there columns old before ids r a k) (number_there columns old before ids r b l))

  pub not_stands : (a : ℕ) → plain.IsFormula (slice_get (plain.trees before) a) →
      ((p : Core) → Has old (slice_index ids a) (of_core p) → IfOk result (λ n. Has new n (of_core (neg p)))) →
      IfOk result (λ n. Represents columns new n (plain.tree_of (plain.trees before) (Not a)))
  unfolding core formula_over
  not_stands a k h = h (core (formula_over columns (plain.node_formula (plain.trees before) a))) (formula_there columns old before ids r a k)

  pub logic_stands : (op : logic.LogicOp) (a b : ℕ) → plain.IsFormula (slice_get (plain.trees before) a) → plain.IsFormula (slice_get (plain.trees before) b) →
      ((p q : Formula) → Has old (slice_index ids a) (of_core (core p)) → Has old (slice_index ids b) (of_core (core q)) → IfOk result (λ n. Has new n (of_core (core (plain.connected op p q))))) →
      IfOk result (λ n. Represents columns new n (plain.tree_of (plain.trees before) (Logic op a b)))
  logic_stands op a b k l h =
      let p : Formula = plain.node_formula (plain.trees before) a in
      let q : Formula = plain.node_formula (plain.trees before) b in
      subst (λ f. IfOk result (λ n. Has new n (of_core (core f)))) (sym (connected_over columns op p q))
      (h (formula_over columns p) (formula_over columns q) (formula_there columns old before ids r a k) (formula_there columns old before ids r b l))

  pub window_stands : (op : window.WindowOp) (i : Interval) (a : ℕ) → plain.IsFormula (slice_get (plain.trees before) a) →
      ((p : Formula) → Has old (slice_index ids a) (of_core (core p)) → IfOk result (λ n. Has new n (of_core (core (plain.windowed op i p))))) →
      IfOk result (λ n. Represents columns new n (plain.tree_of (plain.trees before) (Window op i a)))
  window_stands op i a k h =
      let p : Formula = plain.node_formula (plain.trees before) a in
      subst (λ f. IfOk result (λ n. Has new n (of_core (core f)))) (sym (windowed_over columns op i p))
      (h (formula_over columns p) (formula_there columns old before ids r a k))

  pub between_stands : (op : between.BetweenOp) (i : Interval) (a b : ℕ) → plain.IsFormula (slice_get (plain.trees before) a) → plain.IsFormula (slice_get (plain.trees before) b) →
      ((p q : Formula) → Has old (slice_index ids a) (of_core (core p)) → Has old (slice_index ids b) (of_core (core q)) → IfOk result (λ n. Has new n (of_core (core (plain.ranged op i p q))))) →
      IfOk result (λ n. Represents columns new n (plain.tree_of (plain.trees before) (Between op i a b)))
  between_stands op i a b k l h =
      let p : Formula = plain.node_formula (plain.trees before) a in
      let q : Formula = plain.node_formula (plain.trees before) b in
      subst (λ f. IfOk result (λ n. Has new n (of_core (core f)))) (sym (ranged_over columns op i p q))
      (h (formula_over columns p) (formula_over columns q) (formula_there columns old before ids r a k) (formula_there columns old before ids r b l))

-- what stands goes on to stand, and one more node is read
stands_kept : (columns : List ℕ) (old new : List Vertex) (n : ℕ) (tree : plain.Tree) → Grows old new → Represents columns old n tree → Represents columns new n tree
stands_kept columns old new n (plain.number a) g h = g.kept n (of_term (term_over columns a)) h
stands_kept columns old new n (plain.formula p) g h = g.kept n (of_core (core (formula_over columns p))) h

pub one_read : (columns : List ℕ) (old new : List Vertex) (nodes : List Plain) (i : ℕ) (node : Plain) (ids more : List ℕ) (id : ℕ) → slice_get nodes i ≡ Some node → AreRead columns old (take i nodes) ids → Grows old new →
    Represents columns new id (plain.tree_of (plain.trees (take i nodes)) node) → more ≡ ids ++ id ∷ [] → AreRead columns new (take (i + 1) nodes) more
one_read columns old new nodes i node ids more id there r g h e =
    let here : get_or nodes i node ≡ node = get_or_from_slice_get nodes i node node there in
    let next : take (i + 1) nodes ≡ take i nodes ++ node ∷ [] = take_more nodes i node (slice_get_within nodes i node there) ∙ ap (λ x. take i nodes ++ x ∷ []) here in
    let treed : plain.trees (take (i + 1) nodes) ≡ plain.trees (take i nodes) ++ plain.tree_of (plain.trees (take i nodes)) node ∷ [] = pushing.trees_more nodes i node there in
    let whole : AreRead columns new (take (i + 1) nodes) (ids ++ id ∷ []) = record {
      forest = g.forest;
      count = length_push ids id ∙ (ap (λ n. n + 1) r.count ∙ (sym (length_push (take i nodes) node) ∙ ap length (sym next)));
      stand = λ n k tree a b. elim (at_push ids id n k a) [
        | inl p ↦ elim (at_push (plain.trees (take i nodes)) (plain.tree_of (plain.trees (take i nodes)) node) n tree (ap (λ ts. slice_get ts n) (sym treed) ∙ b.found)) [
          | inl q ↦ stands_kept columns old new k tree g (r.stand n k tree p.1 (record { found = q.1 }))
          | inr q ↦
              let short : n < length ids = p.0 in
              let long : n ≡ length (plain.trees (take i nodes)) = q.0 in
              absurd (omega (arith, pushing.length-trees (take i nodes), r.count))
        ]
        | inr p ↦ elim (at_push (plain.trees (take i nodes)) (plain.tree_of (plain.trees (take i nodes)) node) n tree (ap (λ ts. slice_get ts n) (sym treed) ∙ b.found)) [
          | inl q ↦
              let long : n ≡ length ids = p.0 in
              let short : n < length (plain.trees (take i nodes)) = q.0 in
              absurd (omega (arith, pushing.length-trees (take i nodes), r.count))
          | inr q ↦ subst (λ m. Represents columns new m tree) p.1 (subst (λ t. Represents columns new id t) q.1 h)
        ]
      ];
    } in
    subst (λ ns. AreRead columns new (take (i + 1) nodes) ns) (sym e) whole
