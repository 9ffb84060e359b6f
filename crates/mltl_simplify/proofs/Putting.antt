-- Nodes that are put after others, or found among them.

use Rattle.std.proofs.Common.{◌≡◌, ℕ, Bool, List, [], ◌∷◌, ◌++◌, length, sym, subst, ap, ap₂, ◌∙◌}
use Rattle.std.specs.Prelude.{Result, Ok, Err, IfOk, OnOk}
use Rattle.mltl_base.specs.declared.interval.Interval.{Interval}
use Rattle.mltl_base.specs.declared.operators.LogicOp as logic
use Rattle.mltl_base.specs.declared.operators.WindowOp as window
use Rattle.mltl_base.specs.declared.operators.BetweenOp as between
use Rattle.mltl_base.specs.Formula as plain
use Rattle.c2po_ast.specs.declared.nodes.Plain.{Plain}
use Rattle.c2po_ast.specs.declared.nodes.Plain.TheVariants.{Truth, Not, Logic, Window, Between}
use Rattle.c2po_ast.specs.Nodes.{formula, tree_of, trees, connected, windowed, ranged, constant_formula, Has, Grows, IsBounded, IsFormed, AreSound}
use Rattle.c2po_ast.proofs.Pushing.{has_new, grows_same, grows_append, sound_push, formula_in_place, is_formula}
use Rattle.mltl_simplify.specs.Nodes.{AddsNodes}

-- a formula that is there stands for an equal one
pub stays : (old : List Plain) (n : ℕ) (p r : plain.Formula) → Has old n (formula p) → p ≡ r → AddsNodes old old n r
stays old n p r h e = record {
  has = subst (λ q. Has old n (formula q)) e h;
  grows = grows_same old;
  sound = λ signals s. s;
}

-- a node that is put after the others stands for what it unfolds to
pub put : {E : Type 0} (result : Result ℕ E) (old new : List Plain) (node : Plain) (r : plain.Formula) → OnOk result (new ≡ old ++ node ∷ []) → IfOk result (λ n. n ≡ length old) →
    tree_of (trees old) node ≡ formula r → ((signals : ℕ) → IsFormed signals (trees old) node) → IfOk result (λ n. AddsNodes old new n r)
put (Err e) old new node r pushed place is formed = tt
put (Ok n) old new node r pushed place is formed = record {
  has = subst (λ k. Has new k (formula r)) (sym place) (subst (λ t. Has new (length old) t) is (subst (λ ns. Has ns (length old) (tree_of (trees old) node)) (sym pushed) (has_new old node)));
  grows = subst (λ ns. Grows old ns) (sym pushed) (grows_append old (node ∷ []));
  sound = λ signals s. subst (λ ns. AreSound signals ns) (sym pushed) (sound_push signals old node s (formed signals));
}

module _ {E : Type 0} (result : Result ℕ E) (old new : List Plain) (r : plain.Formula) (place : IfOk result (λ n. n ≡ length old)) where
  pub truth_put : (v : Bool) → OnOk result (new ≡ old ++ Truth v ∷ []) → constant_formula v ≡ r → IfOk result (λ n. AddsNodes old new n r)
  truth_put v pushed e = put result old new (Truth v) r pushed place (ap formula e) (λ signals. tt)

  pub not_put : (a : ℕ) (p : plain.Formula) → OnOk result (new ≡ old ++ Not a ∷ []) → Has old a (formula p) → plain.negation p ≡ r → IfOk result (λ n. AddsNodes old new n r)
  not_put a p pushed h e = put result old new (Not a) r pushed place (ap formula (ap plain.negation (formula_in_place old a p h) ∙ e)) (λ signals. is_formula old a p h)

  pub logic_put : (op : logic.LogicOp) (a b : ℕ) (p q : plain.Formula) → OnOk result (new ≡ old ++ Logic op a b ∷ []) → Has old a (formula p) → Has old b (formula q) → connected op p q ≡ r → IfOk result (λ n. AddsNodes old new n r)
  logic_put op a b p q pushed h k e =
      put result old new (Logic op a b) r pushed place (ap formula (ap₂ (connected op) (formula_in_place old a p h) (formula_in_place old b q k) ∙ e)) (λ signals. (is_formula old a p h, is_formula old b q k))

  pub window_put : (op : window.WindowOp) (i : Interval) (a : ℕ) (p : plain.Formula) → OnOk result (new ≡ old ++ Window op i a ∷ []) → IsBounded i → Has old a (formula p) → windowed op i p ≡ r → IfOk result (λ n. AddsNodes old new n r)
  window_put op i a p pushed o h e =
      put result old new (Window op i a) r pushed place (ap formula (ap (windowed op i) (formula_in_place old a p h) ∙ e)) (λ signals. (o, is_formula old a p h))

  pub between_put : (op : between.BetweenOp) (i : Interval) (a b : ℕ) (p q : plain.Formula) → OnOk result (new ≡ old ++ Between op i a b ∷ []) → IsBounded i → Has old a (formula p) → Has old b (formula q) → ranged op i p q ≡ r → IfOk result (λ n. AddsNodes old new n r)
  between_put op i a b p q pushed o h k e =
      put result old new (Between op i a b) r pushed place (ap formula (ap₂ (ranged op i) (formula_in_place old a p h) (formula_in_place old b q k) ∙ e)) (λ signals. (o, is_formula old a p h, is_formula old b q k))
