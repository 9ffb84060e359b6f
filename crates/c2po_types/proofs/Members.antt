-- Parts and members by their places.

use Rattle.std.proofs.Common.{◌≡◌, ℕ, zero, suc, true, Some, List, [], ◌∷◌, map, length, get_or, slice_get, ◌++◌, ◌<◌, refl, sym, subst, ap, ◌∙◌}
use Rattle.std.proofs.lemmas.Option.{slice_get_read}
use Rattle.c2po_ast.proofs.Places.{get_last}
use Rattle.c2po_ast.specs.Shape as tree
use Rattle.c2po_ast.specs.Shape.{Shape, shape, shapes}
use Rattle.c2po_ast.specs.declared.tree.Expr.{Expr}
use Rattle.c2po_types.specs.declared.values.Stored.{Stored}
use Rattle.c2po_types.specs.declared.unfolding.Unfolding.{Unfolding}
use Rattle.c2po_ast.specs.Faults.{or_later}
use Rattle.c2po_types.specs.Facts.{told_fault}
use Rattle.c2po_types.specs.Faults.{value_fault, values_fault}
use Rattle.c2po_types.specs.Parts.{stored_fault}
use Rattle.c2po_types.specs.Values.{Value, Values, Leaf, leaf, structure, set, none, more, list_of}
use Rattle.c2po_types.specs.Weights.{weight}
use Rattle.c2po_types.specs.Environment.{Env, value_of, values_of}
use Rattle.c2po_types.specs.Holding.{Holds, HoldAll}
use Rattle.c2po_types.specs.Heads.{is_operator}

-- the values of expressions in order
pub list_values : (es : List Expr) (env : Env) → list_of (values_of (shapes es) env) ≡ map (λ e. value_of (shape e) env) es
list_values [] env = refl
list_values (e ∷ es) env = ap (λ vs. value_of (shape e) env ∷ vs) (list_values es env)

pub values_count : (es : List Expr) (env : Env) → length (list_of (values_of (shapes es) env)) ≡ length es
values_count [] env = refl
values_count (e ∷ es) env = ap suc (values_count es env)

pub value_at : (es : List Expr) (env : Env) (i : ℕ) (e : Expr) → slice_get es i ≡ Some e →
    slice_get (list_of (values_of (shapes es) env)) i ≡ Some (value_of (shape e) env)
value_at [] env i e h = cc
value_at (d ∷ es) env zero e h = cc
value_at (d ∷ es) env (suc i) e h = value_at es env i e h

-- stored values of parts, place by place
pub hold_count : (vs : Values) (u : Unfolding) (ss : List Stored) → HoldAll u ss vs → length ss ≡ length (list_of vs)
hold_count none u ss h = rw h refl
hold_count (more v vs) u ss h = rw h.2 (ap suc (hold_count vs u h.1 h.4))

pub hold_at : (vs : Values) (u : Unfolding) (ss : List Stored) (i : ℕ) (s : Stored) (v : Value) → HoldAll u ss vs →
    slice_get ss i ≡ Some s → slice_get (list_of vs) i ≡ Some v → Holds u s v
hold_at none u ss i s v h a b = cc
hold_at (more w vs) u ss zero s v h a b =
    let e : h.0 ≡ s = cc in
    let f : w ≡ v = cc in
    subst (λ x. Holds u x v) e (subst (λ x. Holds u h.0 x) f h.3)
hold_at (more w vs) u ss (suc i) s v h a b =
    hold_at vs u h.1 i s v h.4 (subst (λ xs. slice_get xs (suc i) ≡ Some s) h.2 a) b

-- an operator's value is a number or a formula
pub record IsLeaf (v : Value) : Type 0 where
  pub of : Leaf
  pub is : v ≡ leaf of

pub operator_is_leaf : (e : Shape) (env : Env) → is_operator e ≡ true → IsLeaf (value_of e env)
operator_is_leaf (tree.number line n) env h = record { of = _; is = refl }
operator_is_leaf (tree.truth line b) env h = record { of = _; is = refl }
operator_is_leaf (tree.named line x) env h = cc
operator_is_leaf (tree.build line x es) env h = cc
operator_is_leaf (tree.group line es) env h = cc
operator_is_leaf (tree.pick line e x) env h = cc
operator_is_leaf (tree.minus line e) env h = record { of = _; is = refl }
operator_is_leaf (tree.negation line e) env h = record { of = _; is = refl }
operator_is_leaf (tree.arith line op e f) env h = record { of = _; is = refl }
operator_is_leaf (tree.compare line op e f) env h = record { of = _; is = refl }
operator_is_leaf (tree.logic line op e f) env h = record { of = _; is = refl }
operator_is_leaf (tree.window line op a b e) env h = record { of = _; is = refl }
operator_is_leaf (tree.between line op a b e f) env h = record { of = _; is = refl }
operator_is_leaf (tree.each line x s e) env h = record { of = _; is = refl }
operator_is_leaf (tree.exists line x s e) env h = record { of = _; is = refl }
operator_is_leaf (tree.count line op x s m e) env h = record { of = _; is = refl }

-- what was looked up in a slice stands in the list
pub found_at : {A : Type 0} (xs ys : List A) (i : ℕ) (x : A) → xs ≡ ys → i < length xs → x ≡ get_or xs i x → slice_get ys i ≡ Some x
found_at xs ys i x e inside found = subst (λ zs. slice_get zs i ≡ Some x) e (slice_get_read xs (length xs) i x refl inside found)

-- the last of a list that got one more
pub at_place : {A : Type 0} (xs ys : List A) (x : A) (n : ℕ) → ys ≡ xs ++ x ∷ [] → n ≡ length xs → slice_get ys n ≡ Some x
at_place xs ys x n e m = subst (λ zs. slice_get zs n ≡ Some x) (sym e) (subst (λ k. slice_get (xs ++ x ∷ []) k ≡ Some x) (sym m) (get_last xs x))

pub holds_weight : (v : Value) (u : Unfolding) (s : Stored) → Holds u s v → s.weight ≡ weight v
holds_weight (leaf l) u s h = h.0
holds_weight (structure x vs) u s h = h.0
holds_weight (set vs) u s h = h.0

pub holds_fault : (v : Value) (u : Unfolding) (s : Stored) → Holds u s v → told_fault s.fault ≡ value_fault v
holds_fault (leaf l) u s h = h.1.5
holds_fault (structure x vs) u s h = h.1.5
holds_fault (set vs) u s h = h.1.5

pub store_fault : (vs : Values) (u : Unfolding) (ss : List Stored) → HoldAll u ss vs → stored_fault ss ≡ values_fault vs
store_fault none u ss h = ap stored_fault h
store_fault (more v vs) u ss h =
    ap stored_fault h.2
    ∙ (ap (λ f. or_later f (stored_fault h.1)) (holds_fault v u h.0 h.3)
    ∙ ap (λ f. or_later (value_fault v) f) (store_fault vs u h.1 h.4))
