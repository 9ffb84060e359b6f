-- Parts of stored values, and members of heads.

use Rattle.std.proofs.Common.{◌≡◌, ℕ, ◌<◌, ◌≤◌, true, Some, None, List, [], ◌∷◌, ◌++◌, length, get_or, slice_get, slice_index_or, position, Bor, inl, inr, ◌⊎◌, refl, sym, subst, ap, ◌∙◌, arith}
use Rattle.std.specs.Str.{bytes_eq}
use Rattle.std.proofs.lemmas.Option.{slice_get_within, slice_get-get_or, get_or_from_slice_get, same_Some}
use Rattle.std.proofs.lemmas.List.{get_or_past}
use Rattle.c2po_ast.proofs.Places.{get_left}
use Rattle.c2po_types.specs.declared.fact.Fact.{Fact}
use Rattle.c2po_ast.specs.declared.tree.Expr.{Expr}
use Rattle.c2po_ast.specs.Shape.{Shape, shape, shapes}
use Rattle.c2po_types.specs.declared.values.Location.TheVariants.{Parts as PartsAt}
use Rattle.c2po_types.specs.declared.values.Stored.{Stored}
use Rattle.c2po_types.specs.declared.values.Whole.TheVariants as whole
use Rattle.c2po_types.specs.declared.values.Parts.{Parts}
use Rattle.c2po_types.specs.declared.variables.Scope.{Scope}
use Rattle.c2po_types.specs.declared.variables.Head.{Head}
use Rattle.c2po_types.specs.declared.variables.Head.TheVariants as head
use Rattle.c2po_types.specs.declared.unfolding.Unfolding.{Unfolding}
use Rattle.c2po_types.specs.Values.{Value, leaf, structure, set, list_of, members, picked, part_or, built, grouped}
use Rattle.c2po_types.specs.Environment.{Env, value_of, values_of}
use Rattle.c2po_types.specs.Holding.{Holds, Keeps}
use Rattle.c2po_types.specs.Heads.{Heads, HoldMembers, is_operator}
use Rattle.c2po_types.proofs.Members.{values_count, value_at, hold_count, hold_at, operator_is_leaf}

-- the part that a field names
pub held_part_some : (v : Value) (u : Unfolding) (s part : Stored) (i : ℕ) (p : Parts) (x : List ℕ) (k : ℕ) (fields : List ℕ → List (List ℕ)) (f : List ℕ) →
    Holds u s v → s.location ≡ PartsAt i → slice_get u.parts i ≡ Some p → p.whole ≡ whole.Struct x →
    position (bytes_eq f) (fields x) ≡ Some k → slice_get p.members k ≡ Some part → Holds u part (picked fields f v)
held_part_some (leaf l) u s part i p x k fields f h e a n q b = cc
held_part_some (set vs) u s part i p x k fields f h e a n q b =
    let j : h.1.0 ≡ i = cc in
    let there : slice_get u.parts i ≡ Some (record { whole = whole.Set; members = h.1.1 }) =
    subst (λ m. slice_get u.parts m ≡ Some (record { whole = whole.Set; members = h.1.1 })) j h.1.3 in
    let same : record { whole = whole.Set; members = h.1.1 } ≡ p = same_Some (record { whole = whole.Set; members = h.1.1 }) p (sym there ∙ a) in
    let kind : whole.Set ≡ whole.Struct x = ap (λ (r : Parts). r.whole) same ∙ n in
    cc
held_part_some (structure y vs) u s part i p x k fields f h e a n q b =
    let j : h.1.0 ≡ i = cc in
    let own : Parts = record { whole = whole.Struct y; members = h.1.1 } in
    let there : slice_get u.parts i ≡ Some own = subst (λ m. slice_get u.parts m ≡ Some own) j h.1.3 in
    let same : own ≡ p = same_Some own p (sym there ∙ a) in
    let kind : whole.Struct y ≡ whole.Struct x = ap (λ (r : Parts). r.whole) same ∙ n in
    let name : y ≡ x = cc in
    let at : slice_get h.1.1 k ≡ Some part = subst (λ (r : Parts). slice_get r.members k ≡ Some part) (sym same) b in
    let inside : k < length (list_of vs) =
    omega (arith, slice_get_within h.1.1 k part at, hold_count vs u h.1.1 h.1.4) in
    let found : slice_get (list_of vs) k ≡ Some (slice_index_or (list_of vs) k (structure y vs)) =
    slice_get-get_or (list_of vs) k (structure y vs) inside in
    let named : position (bytes_eq f) (fields y) ≡ Some k = subst (λ z. position (bytes_eq f) (fields z) ≡ Some k) (sym name) q in
    subst (λ o. Holds u part (part_or (structure y vs) (list_of vs) o)) (sym named)
    (hold_at vs u h.1.1 k part (slice_index_or (list_of vs) k (structure y vs)) h.1.4 at found)

-- a field that has no part there
pub held_part_past : (v : Value) (u : Unfolding) (s : Stored) (i : ℕ) (p : Parts) (x : List ℕ) (k : ℕ) (fields : List ℕ → List (List ℕ)) (f : List ℕ) →
    Holds u s v → s.location ≡ PartsAt i → slice_get u.parts i ≡ Some p → p.whole ≡ whole.Struct x →
    position (bytes_eq f) (fields x) ≡ Some k → length p.members ≤ k → Holds u s (picked fields f v)
held_part_past (leaf l) u s i p x k fields f h e a n q b = h
held_part_past (set vs) u s i p x k fields f h e a n q b = h
held_part_past (structure y vs) u s i p x k fields f h e a n q b =
    let j : h.1.0 ≡ i = cc in
    let own : Parts = record { whole = whole.Struct y; members = h.1.1 } in
    let there : slice_get u.parts i ≡ Some own = subst (λ m. slice_get u.parts m ≡ Some own) j h.1.3 in
    let same : own ≡ p = same_Some own p (sym there ∙ a) in
    let kind : whole.Struct y ≡ whole.Struct x = ap (λ (r : Parts). r.whole) same ∙ n in
    let name : y ≡ x = cc in
    let count : length h.1.1 ≡ length p.members = ap (λ (r : Parts). length r.members) same in
    let past : length (list_of vs) ≤ k = omega (arith, hold_count vs u h.1.1 h.1.4) in
    let named : position (bytes_eq f) (fields y) ≡ Some k = subst (λ z. position (bytes_eq f) (fields z) ≡ Some k) (sym name) q in
    subst (λ o. Holds u s (part_or (structure y vs) (list_of vs) o)) (sym named)
    (subst (λ r. Holds u s r) (sym (get_or_past (list_of vs) k (structure y vs) past)) h)

-- the members of heads
pub set_count : (u : Unfolding) (h : Head) (scope : Bor Scope) (d : Bor Expr) (es : Bor (List Expr)) (v : Value) → h ≡ head.Set scope d es → Heads u h v →
    length es.now ≡ length (members v)
set_count u h scope d es v e k =
    let g : Heads u (head.Set scope d es) v = subst (λ x. Heads u x v) e k in
    sym (ap (λ w. length (members w)) g.2 ∙ values_count es.now g.0)

pub members_count : (v : Value) (u : Unfolding) (ss : List Stored) → HoldMembers u ss v → length ss ≡ length (members v)
members_count (leaf l) u ss h = ap length h
members_count (structure x vs) u ss h = ap length h
members_count (set vs) u ss h = hold_count vs u ss h

pub member_held : (s : Value) (u : Unfolding) (ss : List Stored) (i : ℕ) (r : Stored) (v : Value) → HoldMembers u ss s →
    slice_get ss i ≡ Some r → slice_get (members s) i ≡ Some v → Holds u r v
member_held (leaf l) u ss i r v h a b = cc
member_held (structure x vs) u ss i r v h a b = cc
member_held (set vs) u ss i r v h a b = hold_at vs u ss i r v h a b

pub leaf_members : (e : Shape) (env : Env) (v : Value) → v ≡ value_of e env → is_operator e ≡ true → members v ≡ []
leaf_members e env v same op =
    let l = operator_is_leaf e env op in
    ap members (same ∙ l.is)

pub leaf_picked : (e : Shape) (env : Env) (v : Value) (fields : List ℕ → List (List ℕ)) (f : List ℕ) → v ≡ value_of e env →
    is_operator e ≡ true → picked fields f v ≡ v
leaf_picked e env v fields f same op =
    let l = operator_is_leaf e env op in
    let is : v ≡ leaf l.of = same ∙ l.is in
    subst (λ w. picked fields f w ≡ w) (sym is) refl

-- the value of an expression among a set's members
pub member_open : (es : List Expr) (env : Env) (i : ℕ) (e : Expr) (s v : Value) → s ≡ grouped (values_of (shapes es) env) →
    slice_get es i ≡ Some e → slice_get (members s) i ≡ Some v → v ≡ value_of (shape e) env
member_open es env i e s v same found at =
    let here : slice_get (list_of (values_of (shapes es) env)) i ≡ Some v = subst (λ w. slice_get (members w) i ≡ Some v) same at in
    same_Some v (value_of (shape e) env) (sym here ∙ value_at es env i e found)

pub no_member : (xs : List Value) (i n : ℕ) (v : Value) → n ≡ length xs → n ≤ i → slice_get xs i ≡ Some v → ⊥
no_member xs i n v count past at = omega (arith, slice_get_within xs i v at)

-- the part that a field names, of a struct's value that isn't unfolded
pub picked_open : (es : List Expr) (env : Env) (x : List ℕ) (k : ℕ) (e : Expr) (fields : List ℕ → List (List ℕ)) (f : List ℕ) (v : Value) →
    v ≡ built x (values_of (shapes es) env) → position (bytes_eq f) (fields x) ≡ Some k → slice_get es k ≡ Some e →
    value_of (shape e) env ≡ picked fields f v
picked_open es env x k e fields f v same named found =
    let vs = list_of (values_of (shapes es) env) in
    let whole = built x (values_of (shapes es) env) in
    let here : get_or vs k whole ≡ value_of (shape e) env =
    get_or_from_slice_get vs k (value_of (shape e) env) whole (value_at es env k e found) in
    subst (λ w. value_of (shape e) env ≡ picked fields f w) (sym same)
    (subst (λ o. value_of (shape e) env ≡ part_or whole vs o) (sym named) (sym here))

pub picked_past : (es : List Expr) (env : Env) (x : List ℕ) (k : ℕ) (fields : List ℕ → List (List ℕ)) (f : List ℕ) (v : Value) →
    v ≡ built x (values_of (shapes es) env) → position (bytes_eq f) (fields x) ≡ Some k → length es ≤ k → v ≡ picked fields f v
picked_past es env x k fields f v same named past =
    let vs = list_of (values_of (shapes es) env) in
    let whole = built x (values_of (shapes es) env) in
    let outside : length vs ≤ k = omega (arith, values_count es env) in
    subst (λ w. w ≡ picked fields f w) (sym same)
    (subst (λ o. whole ≡ part_or whole vs o) (sym named) (sym (get_or_past vs k whole outside)))

pub structs_push : (u : Unfolding) (structs : List (List (List ℕ))) (xs : List (List ℕ)) → structs ≡ u.structs ++ xs ∷ [] → Keeps u (record u { structs = structs })
structs_push u structs xs same = record {
  structs = λ i q h. subst (λ ps. slice_get ps i ≡ Some q) (sym same) (get_left u.structs (xs ∷ []) i q h);
  facts = λ i f h. h;
  parts = λ i q h. h;
}

-- other heads than sets have no members, and other heads than structs have no parts
pub other_members : (u : Unfolding) (h : Head) (v : Value) →
    ((x : Bor Scope) × (y : Bor Expr) × (h ≡ head.Nothing x y)) ⊎ (((x : Bor Scope) × (d : Bor Expr) × (y : Bor (List ℕ)) × (z : Bor (List Expr)) × (h ≡ head.Struct x d y z))
    ⊎ ((x : Bor Scope) × (y : Bor Expr) × (h ≡ head.Leaf x y))) →
    Heads u h v → members v ≡ []
other_members u h v e k = elim e [
  | inl n ↦
      let g : Heads u (head.Nothing n.0 n.1) v = subst (λ x. Heads u x v) n.2 k in
      ap members g.2
  | inr m ↦ elim m [
    | inl s ↦ let g : Heads u (head.Struct s.0 s.1 s.2 s.3) v = subst (λ x. Heads u x v) s.4 k in ap members g.2
    | inr l ↦
        let g : Heads u (head.Leaf l.0 l.1) v = subst (λ x. Heads u x v) l.2 k in
        leaf_members (shape l.1.now) g.0 v g.2 g.3
  ]
]

pub other_picked : (u : Unfolding) (h : Head) (v : Value) (fields : List ℕ → List (List ℕ)) (f : List ℕ) →
    ((x : Bor Scope) × (y : Bor Expr) × (h ≡ head.Nothing x y)) ⊎ (((x : Bor Scope) × (d : Bor Expr) × (z : Bor (List Expr)) × (h ≡ head.Set x d z))
    ⊎ ((x : Bor Scope) × (y : Bor Expr) × (h ≡ head.Leaf x y))) →
    Heads u h v → picked fields f v ≡ v
other_picked u h v fields f e k = elim e [
  | inl n ↦
      let g : Heads u (head.Nothing n.0 n.1) v = subst (λ x. Heads u x v) n.2 k in
      subst (λ w. picked fields f w ≡ w) (sym g.2) refl
  | inr m ↦ elim m [
    | inl s ↦
        let g : Heads u (head.Set s.0 s.1 s.2) v = subst (λ x. Heads u x v) s.3 k in
        subst (λ w. picked fields f w ≡ w) (sym g.2) refl
    | inr l ↦
        let g : Heads u (head.Leaf l.0 l.1) v = subst (λ x. Heads u x v) l.2 k in
        leaf_picked (shape l.1.now) g.0 v fields f g.2 g.3
  ]
]
