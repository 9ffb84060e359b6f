-- Lists that a walk completes: what is listed stays, operands are listed, and what is listed already adds nothing.

use Rattle.std.specs.Prelude.{⊤}
use Rattle.std.proofs.Common.{◌≡◌, ℕ, zero, suc, ◌+◌, Bool, true, false, ◌||◌, if◌then◌else◌, Some, List, [], ◌∷◌, ◌++◌, fold, filter, slice_get, refl, sym, subst, ap, ◌∙◌}
use Rattle.std.proofs.lemmas.Bool.{true≢false, false≢true, or_parts, or_right}
use Rattle.mltl_base.specs.Subformulas.{listed, add_new}
use Rattle.mltl_base.proofs.Listing.{added_has, added_keeps, listed_append}
use Rattle.core_graph.specs.Trees.{Label, LabelTree, leaf, one, two, same_tree, add_tree, completed}
use Rattle.core_graph.specs.Walks.{HasOperands, HasItsOperands}
use Rattle.core_graph.proofs.Sameness.{same_tree_sound, same_tree_self}

pub new_keeps : (t u : LabelTree) (ts : List LabelTree) → listed same_tree u ts ≡ true → listed same_tree u (add_new same_tree t ts) ≡ true
new_keeps t u ts h = added_keeps same_tree same_tree_sound same_tree_self t u ts h

pub new_has : (t : LabelTree) (ts : List LabelTree) → listed same_tree t (add_new same_tree t ts) ≡ true
new_has t ts = added_has same_tree same_tree_sound same_tree_self t ts

pub new_there : (t : LabelTree) (ts : List LabelTree) → listed same_tree t ts ≡ true → add_new same_tree t ts ≡ ts
new_there t ts h = ap (λ b. if b then ts else ts ++ t ∷ []) h

pub new_absent : (t : LabelTree) (ts : List LabelTree) → listed same_tree t ts ≡ false → add_new same_tree t ts ≡ ts ++ t ∷ []
new_absent t ts h = ap (λ b. if b then ts else ts ++ t ∷ []) h

-- what is listed stays listed
pub tree_keeps : (t u : LabelTree) (ts : List LabelTree) → listed same_tree u ts ≡ true → listed same_tree u (add_tree t ts) ≡ true
unfolding add_tree
tree_keeps (leaf l) u ts h = new_keeps (leaf l) u ts h
tree_keeps (one l t) u ts h = new_keeps (one l t) u _ (tree_keeps t u ts h)
tree_keeps (two l t v) u ts h = new_keeps (two l t v) u _ (tree_keeps v u _ (tree_keeps t u ts h))

pub tree_has : (t : LabelTree) (ts : List LabelTree) → listed same_tree t (add_tree t ts) ≡ true
unfolding add_tree
tree_has (leaf l) ts = new_has (leaf l) ts
tree_has (one l t) ts = new_has (one l t) _
tree_has (two l t v) ts = new_has (two l t v) _

-- operands are listed
operands_stay : (t : LabelTree) (ts us : List LabelTree) → ((u : LabelTree) → listed same_tree u ts ≡ true → listed same_tree u us ≡ true) → HasOperands ts t → HasOperands us t
operands_stay (leaf l) ts us k h = tt
operands_stay (one l t) ts us k h = k t h
operands_stay (two l t u) ts us k h = (k t h.0, k u h.1)

-- a member of a list with a new one is an old one or that
last_is : (u t : LabelTree) (b : Bool) → same_tree u t ≡ b → (b || false) ≡ true → u ≡ t
last_is u t true e h = same_tree_sound u t e
last_is u t false e h = absurd (false≢true h)

or_rest : (b c d : Bool) {P : Type 0} → (b || c) ≡ true → (b || d) ≡ false → (c ≡ true → d ≡ false → P) → P
or_rest true c d h n f = absurd (true≢false n)
or_rest false c d h n f = f h n

listed_push : (u t : LabelTree) (ts : List LabelTree) → listed same_tree u (ts ++ t ∷ []) ≡ true → listed same_tree u ts ≡ false → u ≡ t
unfolding listed
listed_push u t [] h n = last_is u t (same_tree u t) refl h
listed_push u t (v ∷ ts) h n = or_rest (same_tree u v) (listed same_tree u (ts ++ t ∷ [])) (listed same_tree u ts) h n (listed_push u t ts)

pub closed_push : (t : LabelTree) (ts : List LabelTree) → HasItsOperands ts → HasOperands ts t → HasItsOperands (ts ++ t ∷ [])
closed_push t ts c h = record { operands = λ u g. go u (listed same_tree u ts) refl g }
  where
    more : (u : LabelTree) → listed same_tree u ts ≡ true → listed same_tree u (ts ++ t ∷ []) ≡ true
    more u g = listed_append same_tree same_tree_sound same_tree_self u ts (t ∷ []) g

    go : (u : LabelTree) (b : Bool) → listed same_tree u ts ≡ b → listed same_tree u (ts ++ t ∷ []) ≡ true → HasOperands (ts ++ t ∷ []) u
    go u true e g = operands_stay u ts (ts ++ t ∷ []) more (c.operands u e)
    go u false e g = subst (HasOperands (ts ++ t ∷ [])) (sym (listed_push u t ts g e)) (operands_stay t ts (ts ++ t ∷ []) more h)

closed_new : (t : LabelTree) (ts : List LabelTree) → HasItsOperands ts → HasOperands ts t → HasItsOperands (add_new same_tree t ts)
closed_new t ts c h = go (listed same_tree t ts)
  where
    go : (b : Bool) → HasItsOperands (if b then ts else ts ++ t ∷ [])
    go true = c
    go false = closed_push t ts c h

pub closed_nil : HasItsOperands []
unfolding listed
closed_nil = record { operands = λ t h. absurd (false≢true h) }

pub tree_closed : (t : LabelTree) (ts : List LabelTree) → HasItsOperands ts → HasItsOperands (add_tree t ts)
unfolding add_tree
tree_closed (leaf l) ts c = closed_new (leaf l) ts c tt
tree_closed (one l t) ts c = closed_new (one l t) _ (tree_closed t ts c) (tree_has t ts)
tree_closed (two l t u) ts c =
    closed_new (two l t u) _ (tree_closed u _ (tree_closed t ts c)) (tree_keeps u t _ (tree_has t ts), tree_has u _)

-- a tree that is listed adds nothing
pub tree_again : (t : LabelTree) (ts : List LabelTree) → HasItsOperands ts → listed same_tree t ts ≡ true → add_tree t ts ≡ ts
unfolding add_tree
tree_again (leaf l) ts c h = new_there (leaf l) ts h
tree_again (one l t) ts c h = ap (add_new same_tree (one l t)) (tree_again t ts c (c.operands (one l t) h)) ∙ new_there (one l t) ts h
tree_again (two l t u) ts c h =
    let p : (listed same_tree t ts ≡ true) × (listed same_tree u ts ≡ true) = c.operands (two l t u) h in
    ap (λ x. add_new same_tree (two l t u) (add_tree u x)) (tree_again t ts c p.0)
    ∙ (ap (add_new same_tree (two l t u)) (tree_again u ts c p.1) ∙ new_there (two l t u) ts h)

-- an operand may come first
pub one_first : (l : Label) (t : LabelTree) (ts : List LabelTree) → HasItsOperands ts → add_tree (one l t) (add_tree t ts) ≡ add_tree (one l t) ts
unfolding add_tree
one_first l t ts c = ap (add_new same_tree (one l t)) (tree_again t (add_tree t ts) (tree_closed t ts c) (tree_has t ts))

pub left_first : (l : Label) (t u : LabelTree) (ts : List LabelTree) → HasItsOperands ts → add_tree (two l t u) (add_tree t ts) ≡ add_tree (two l t u) ts
unfolding add_tree
left_first l t u ts c = ap (λ x. add_new same_tree (two l t u) (add_tree u x)) (tree_again t (add_tree t ts) (tree_closed t ts c) (tree_has t ts))

pub right_next : (l : Label) (t u : LabelTree) (ts : List LabelTree) → HasItsOperands ts → listed same_tree t ts ≡ true → add_tree (two l t u) (add_tree u ts) ≡ add_tree (two l t u) ts
unfolding add_tree
right_next l t u ts c h =
    ap (λ x. add_new same_tree (two l t u) (add_tree u x)) (tree_again t (add_tree u ts) (tree_closed u ts c) (tree_keeps u t ts h))
    ∙ (ap (add_new same_tree (two l t u)) (tree_again u (add_tree u ts) (tree_closed u ts c) (tree_has u ts))
    ∙ ap (λ x. add_new same_tree (two l t u) (add_tree u x)) (sym (tree_again t ts c h)))

-- a tree whose operands are all listed comes last
pub over_operands : (t : LabelTree) (ts : List LabelTree) → HasItsOperands ts → HasOperands ts t → listed same_tree t ts ≡ false → add_tree t ts ≡ ts ++ t ∷ []
unfolding add_tree
over_operands (leaf l) ts c h n = new_absent (leaf l) ts n
over_operands (one l t) ts c h n = ap (add_new same_tree (one l t)) (tree_again t ts c h) ∙ new_absent (one l t) ts n
over_operands (two l t u) ts c h n =
    ap (λ x. add_new same_tree (two l t u) (add_tree u x)) (tree_again t ts c h.0)
    ∙ (ap (add_new same_tree (two l t u)) (tree_again u ts c h.1) ∙ new_absent (two l t u) ts n)

-- several trees
pub fold_closed : (roots ts : List LabelTree) → HasItsOperands ts → HasItsOperands (fold (λ us t. add_tree t us) ts roots)
fold_closed [] ts c = c
fold_closed (t ∷ roots) ts c = fold_closed roots (add_tree t ts) (tree_closed t ts c)

pub completed_closed : (roots : List LabelTree) → HasItsOperands (completed roots)
completed_closed roots = fold_closed roots [] closed_nil

-- no tree stands twice
abbrev pub AreDistinct : List LabelTree → Type 0
AreDistinct [] = ⊤
AreDistinct (t ∷ ts) = (listed same_tree t ts ≡ false) × AreDistinct ts

or_same : (b c d : Bool) → (c ≡ false → d ≡ false) → (b || c) ≡ false → (b || d) ≡ false
or_same true c d f h = h
or_same false c d f h = f h

listed_later : (u t : LabelTree) (ts : List LabelTree) → listed same_tree u ts ≡ false → same_tree u t ≡ false → listed same_tree u (ts ++ t ∷ []) ≡ false
unfolding listed
listed_later u t [] h n = ap (λ b. b || false) n
listed_later u t (v ∷ ts) h n = or_same (same_tree u v) (listed same_tree u ts) (listed same_tree u (ts ++ t ∷ [])) (λ g. listed_later u t ts g n) h

other_way : (t v : LabelTree) → same_tree t v ≡ false → same_tree v t ≡ false
other_way t v e = go (same_tree v t) refl
  where
    go : (b : Bool) → same_tree v t ≡ b → b ≡ false
    go false g = refl
    go true g = absurd (true≢false (sym (same_tree_self t) ∙ (ap (same_tree t) (sym (same_tree_sound v t g)) ∙ e)))

distinct_push : (t : LabelTree) (ts : List LabelTree) → AreDistinct ts → listed same_tree t ts ≡ false → AreDistinct (ts ++ t ∷ [])
unfolding listed
distinct_push t [] d h = (refl, tt)
distinct_push t (v ∷ ts) d h =
    let p : (same_tree t v ≡ false) × (listed same_tree t ts ≡ false) = or_parts (same_tree t v) (listed same_tree t ts) h in
    (listed_later v t ts d.0 (other_way t v p.0), distinct_push t ts d.1 p.1)

distinct_new : (t : LabelTree) (ts : List LabelTree) → AreDistinct ts → AreDistinct (add_new same_tree t ts)
distinct_new t ts d = go (listed same_tree t ts) refl
  where
    go : (b : Bool) → listed same_tree t ts ≡ b → AreDistinct (if b then ts else ts ++ t ∷ [])
    go true e = d
    go false e = distinct_push t ts d e

pub tree_distinct : (t : LabelTree) (ts : List LabelTree) → AreDistinct ts → AreDistinct (add_tree t ts)
unfolding add_tree
tree_distinct (leaf l) ts d = distinct_new (leaf l) ts d
tree_distinct (one l t) ts d = distinct_new (one l t) _ (tree_distinct t ts d)
tree_distinct (two l t u) ts d = distinct_new (two l t u) _ (tree_distinct u _ (tree_distinct t ts d))

pub fold_distinct : (roots ts : List LabelTree) → AreDistinct ts → AreDistinct (fold (λ us t. add_tree t us) ts roots)
fold_distinct [] ts d = d
fold_distinct (t ∷ roots) ts d = fold_distinct roots (add_tree t ts) (tree_distinct t ts d)

filtered_absent : (part : LabelTree → Bool) (u t : LabelTree) (ts : List LabelTree) (k : Bool) → same_tree u t ≡ false → listed same_tree u (filter part ts) ≡ false →
    listed same_tree u (if k then t ∷ filter part ts else filter part ts) ≡ false
unfolding listed
filtered_absent part u t ts true e h = ap (λ b. b || listed same_tree u (filter part ts)) e ∙ h
filtered_absent part u t ts false e h = h

absent_filter : (part : LabelTree → Bool) (u : LabelTree) (ts : List LabelTree) → listed same_tree u ts ≡ false → listed same_tree u (filter part ts) ≡ false
unfolding listed
absent_filter part u [] h = h
absent_filter part u (t ∷ ts) h =
    let p : (same_tree u t ≡ false) × (listed same_tree u ts ≡ false) = or_parts (same_tree u t) (listed same_tree u ts) h in
    filtered_absent part u t ts (part t) p.0 (absent_filter part u ts p.1)

filtered_distinct : (part : LabelTree → Bool) (t : LabelTree) (ts : List LabelTree) (k : Bool) → listed same_tree t (filter part ts) ≡ false → AreDistinct (filter part ts) →
    AreDistinct (if k then t ∷ filter part ts else filter part ts)
filtered_distinct part t ts true h d = (h, d)
filtered_distinct part t ts false h d = d

distinct_filter : (part : LabelTree → Bool) (ts : List LabelTree) → AreDistinct ts → AreDistinct (filter part ts)
distinct_filter part [] d = tt
distinct_filter part (t ∷ ts) d = filtered_distinct part t ts (part t) (absent_filter part t ts d.0) (distinct_filter part ts d.1)

pub completed_distinct : (part : LabelTree → Bool) (roots : List LabelTree) → AreDistinct (filter part (completed roots))
completed_distinct part roots = distinct_filter part (completed roots) (fold_distinct roots [] tt)

pub get_listed : (ts : List LabelTree) (i : ℕ) (t : LabelTree) → slice_get ts i ≡ Some t → listed same_tree t ts ≡ true
unfolding listed
get_listed [] i t e = cc
get_listed (u ∷ ts) zero t e =
    let same : u ≡ t = cc in
    ap (λ b. b || listed same_tree t ts) (ap (same_tree t) same ∙ same_tree_self t)
get_listed (u ∷ ts) (suc i) t e = or_right (same_tree t u) (listed same_tree t ts) (get_listed ts i t e)

pub distinct_place : (ts : List LabelTree) (i j : ℕ) (t : LabelTree) → AreDistinct ts → slice_get ts i ≡ Some t → slice_get ts j ≡ Some t → i ≡ j
distinct_place [] i j t d e g = cc
distinct_place (u ∷ ts) zero zero t d e g = refl
distinct_place (u ∷ ts) zero (suc j) t d e g =
    let same : u ≡ t = cc in
    absurd (true≢false (sym (get_listed ts j t g) ∙ (ap (λ x. listed same_tree x ts) (sym same) ∙ d.0)))
distinct_place (u ∷ ts) (suc i) zero t d e g =
    let same : u ≡ t = cc in
    absurd (true≢false (sym (get_listed ts i t e) ∙ (ap (λ x. listed same_tree x ts) (sym same) ∙ d.0)))
distinct_place (u ∷ ts) (suc i) (suc j) t d e g = ap suc (distinct_place ts i j t d.1 e g)
