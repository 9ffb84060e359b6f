-- A step of a walk over a forest: to an operand that is open, or over a vertex whose operands are complete.

use Rattle.std.proofs.Common.{◌≡◌, ◌≢◌, ℕ, zero, suc, ◌+◌, ◌-◌, ◌*◌, ◌<◌, ◌≤◌, Bool, true, false, ◌||◌, None, Some, List, [], ◌∷◌, ◌++◌, length, take, replicate, get_or, set, slice_get, refl, sym, subst, ap, ◌∙◌, arith, inl, inr}
use Rattle.std.proofs.lemmas.Bool.{true≢false, cases_eq}
use Rattle.std.proofs.lemmas.List.{length-set, length_push, length-replicate, map-append, take_at}
use Rattle.std.proofs.lemmas.Option.{slice_get_within, slice_get-get_or, same_Some, none-some}
use Rattle.mltl_base.specs.Subformulas.{listed}
use Rattle.mltl_base.proofs.Listing.{listed_end}
use Rattle.c2po_ast.proofs.Places.{at_push, get_left}
use Rattle.core_graph.specs.declared.vertex.Vertex.{Vertex}
use Rattle.core_graph.specs.declared.vertex.Operands.{Operands}
use Rattle.core_graph.specs.declared.vertex.Operands.TheVariants.{Zero, One, Two}
use Rattle.core_graph.specs.Trees.{Label, LabelTree, one, two, same_tree, add_tree}
use Rattle.core_graph.specs.Vertices.{label_of, operands_of, tree_at, tree_over, vertex_tree, trees, Has, OperandsAreBelow, IsForest}
use Rattle.core_graph.specs.Walks.{trees_of, HasOperands, HasItsOperands, IsWalk, AreDone, IsFirstIncomplete, Descends, IsStack, finish, height, open_count, work}
use Rattle.core_graph.proofs.Forests.{tree_here, one_place}
use Rattle.core_graph.proofs.Sameness.{same_tree_sound, same_tree_self}
use Rattle.core_graph.proofs.Orders.{closed_nil, closed_push, tree_again, one_first, left_first, right_next, over_operands}

pub trees_push : (vertices : List Vertex) (ids : List ℕ) (n : ℕ) → trees_of vertices (ids ++ n ∷ []) ≡ trees_of vertices ids ++ tree_at (trees vertices) n ∷ []
trees_push vertices ids n = map-append (tree_at (trees vertices)) ids (n ∷ [])

-- the latest that waits is finished first
pub finish_push : (ts : List LabelTree) (t : LabelTree) (us : List LabelTree) → finish (ts ++ t ∷ []) us ≡ finish ts (add_tree t us)
unfolding finish
finish_push [] t us = refl
finish_push (v ∷ ts) t us = ap (add_tree v) (finish_push ts t us)

finish_trees : (vertices : List Vertex) (below : List ℕ) (n : ℕ) (us : List LabelTree) →
    finish (trees_of vertices (below ++ n ∷ [])) us ≡ finish (trees_of vertices below) (add_tree (tree_at (trees vertices) n) us)
finish_trees vertices below n us = ap (λ ts. finish ts us) (trees_push vertices below n) ∙ finish_push (trees_of vertices below) (tree_at (trees vertices) n) us

pub height_push : (ns : List ℕ) (n : ℕ) → height (ns ++ n ∷ []) ≡ suc n
unfolding height
height_push [] n = refl
height_push (m ∷ []) n = refl
height_push (m ∷ k ∷ ns) n = height_push (k ∷ ns) n

descends_push : (n : ℕ) (below : List ℕ) (top operand : ℕ) → Descends n (below ++ top ∷ []) → operand < top → Descends n ((below ++ top ∷ []) ++ operand ∷ [])
descends_push n [] top operand d l = (d.0, (l, tt))
descends_push n (m ∷ below) top operand d l = (d.0, descends_push m below top operand d.1 l)

descends_pop : (n : ℕ) (below : List ℕ) (top : ℕ) → Descends n (below ++ top ∷ []) → Descends n below
descends_pop n [] top d = tt
descends_pop n (m ∷ below) top d = (d.0, descends_pop m below top d.1)

descends_top : (n : ℕ) (below : List ℕ) (top : ℕ) → Descends n (below ++ top ∷ []) → top < n
descends_top n [] top d = d.0
descends_top n (m ∷ below) top d = let l : top < m = descends_top m below top d.1 in let k : m < n = d.0 in omega arith

descends_above : (n : ℕ) (below : List ℕ) (top i m : ℕ) → Descends n (below ++ top ∷ []) → slice_get below i ≡ Some m → top < m
descends_above n [] top i m d e = cc
descends_above n (k ∷ below) top zero m d e =
    let same : k ≡ m = same_Some k m e in
    let l : top < k = descends_top k below top d.1 in
    omega arith
descends_above n (k ∷ below) top (suc i) m d e = descends_above k below top i m d.1 e

height_below : (n : ℕ) (ns : List ℕ) → Descends n ns → height ns ≤ n
unfolding height
height_below n [] d = omega arith
height_below n (m ∷ []) d = let l : m < n = d.0 in omega arith
height_below n (m ∷ k ∷ ns) d =
    let l : m < n = d.0 in
    let h : height (k ∷ ns) ≤ m = height_below m (k ∷ ns) d.1 in
    omega arith

-- an operand that is open comes first without a change of what is complete at the end
operand_below : (done : List Bool) (o : Operands) (n top : ℕ) → OperandsAreBelow top o → IsFirstIncomplete done o n → n < top
operand_below done Zero n top b h = absurd h
operand_below done (One a) n top b h = let e : n ≡ a = h.0 in omega arith
operand_below done (Two a b) n top l h = elim h [
  | inl p ↦ let e : n ≡ a = p.0 in let k : a < top = l.0 in omega arith
  | inr p ↦ let e : n ≡ b = p.0 in let k : b < top = l.1 in omega arith
]

operand_open : (done : List Bool) (o : Operands) (n : ℕ) → IsFirstIncomplete done o n → slice_get done n ≡ Some false
operand_open done Zero n h = absurd h
operand_open done (One a) n h = ap (slice_get done) h.0 ∙ h.1
operand_open done (Two a b) n h = elim h [
  | inl p ↦ ap (slice_get done) p.0 ∙ p.1
  | inr p ↦ ap (slice_get done) p.0 ∙ p.2
]

told_at : (vertices : List Vertex) (order : List ℕ) (done : List Bool) (n : ℕ) (b : Bool) → IsWalk vertices order done → n < length vertices → slice_get done n ≡ Some b →
    listed same_tree (tree_at (trees vertices) n) (trees_of vertices order) ≡ b
told_at vertices order done n b w l e =
    same_Some (listed same_tree (tree_at (trees vertices) n) (trees_of vertices order)) b
    (sym (w.told n (tree_at (trees vertices) n) (record { within = l; is = refl })) ∙ e)

first_changes_nothing : (vertices : List Vertex) (order : List ℕ) (done : List Bool) (l : Label) (o : Operands) (n top : ℕ) → IsWalk vertices order done → OperandsAreBelow top o → top < length vertices → IsFirstIncomplete done o n →
    add_tree (tree_over (trees vertices) l o) (add_tree (tree_at (trees vertices) n) (trees_of vertices order)) ≡ add_tree (tree_over (trees vertices) l o) (trees_of vertices order)
first_changes_nothing vertices order done l Zero n top w b k h = absurd h
first_changes_nothing vertices order done l (One a) n top w b k h =
    ap (λ m. add_tree (one l (tree_at (trees vertices) a)) (add_tree (tree_at (trees vertices) m) (trees_of vertices order))) h.0
    ∙ one_first l (tree_at (trees vertices) a) (trees_of vertices order) w.closed
first_changes_nothing vertices order done l (Two a b) n top w s k h = elim h [
  | inl p ↦
      ap (λ m. add_tree (two l (tree_at (trees vertices) a) (tree_at (trees vertices) b)) (add_tree (tree_at (trees vertices) m) (trees_of vertices order))) p.0
      ∙ left_first l (tree_at (trees vertices) a) (tree_at (trees vertices) b) (trees_of vertices order) w.closed
  | inr p ↦
      let inside : a < top = s.0 in
      let there : a < length vertices = omega arith in
      ap (λ m. add_tree (two l (tree_at (trees vertices) a) (tree_at (trees vertices) b)) (add_tree (tree_at (trees vertices) m) (trees_of vertices order))) p.0
      ∙ right_next l (tree_at (trees vertices) a) (tree_at (trees vertices) b) (trees_of vertices order) w.closed (told_at vertices order done a true w there p.1)
]

-- what a step is made from
pub record IsAt (vertices : List Vertex) (order : List ℕ) (done : List Bool) (stack : List ℕ) (top : ℕ) (vertex : Vertex) (below : List ℕ) : Type 0 where
  pub forest : IsForest vertices
  pub walk : IsWalk vertices order done
  pub waiting : IsStack vertices done stack
  pub latest : stack ≡ below ++ top ∷ []
  pub there : slice_get vertices top ≡ Some vertex

pub operand_stack : (vertices : List Vertex) (order : List ℕ) (done : List Bool) (stack : List ℕ) (top : ℕ) (vertex : Vertex) (below : List ℕ) (n : ℕ) (new : List ℕ) →
    IsAt vertices order done stack top vertex below → IsFirstIncomplete done (operands_of vertex) n → new ≡ stack ++ n ∷ [] → IsStack vertices done new
operand_stack vertices order done stack top vertex below n new s h e =
    let lower : n < top = operand_below done (operands_of vertex) n top (s.forest.over top vertex s.there) h in
    let before : Descends (length vertices) (below ++ top ∷ []) = subst (Descends (length vertices)) s.latest s.waiting.descends in
    let grown : new ≡ (below ++ top ∷ []) ++ n ∷ [] = e ∙ ap (λ ns. ns ++ n ∷ []) s.latest in
    record {
      descends = subst (Descends (length vertices)) (sym grown) (descends_push (length vertices) below top n before lower);
      waits = λ i m g. elim (at_push stack n i m (ap (λ ns. slice_get ns i) (sym e) ∙ g)) [
        | inl p ↦ s.waiting.waits i m p.1
        | inr p ↦ subst (λ k. slice_get done k ≡ Some false) p.1 (operand_open done (operands_of vertex) n h)
      ];
    }

top_within : (vertices : List Vertex) (order : List ℕ) (done : List Bool) (stack : List ℕ) (top : ℕ) (vertex : Vertex) (below : List ℕ) → IsAt vertices order done stack top vertex below → top < length vertices
top_within vertices order done stack top vertex below s = slice_get_within vertices top vertex s.there

pub operand_goal : (vertices : List Vertex) (order : List ℕ) (done : List Bool) (stack : List ℕ) (top : ℕ) (vertex : Vertex) (below : List ℕ) (n : ℕ) (new : List ℕ) →
    IsAt vertices order done stack top vertex below → IsFirstIncomplete done (operands_of vertex) n → new ≡ stack ++ n ∷ [] →
    finish (trees_of vertices new) (trees_of vertices order) ≡ finish (trees_of vertices stack) (trees_of vertices order)
operand_goal vertices order done stack top vertex below n new s h e =
    let ts : List LabelTree = trees_of vertices order in
    let here : tree_at (trees vertices) top ≡ vertex_tree (trees vertices) vertex = tree_here vertices top vertex s.forest s.there in
    let same : add_tree (vertex_tree (trees vertices) vertex) (add_tree (tree_at (trees vertices) n) ts) ≡ add_tree (vertex_tree (trees vertices) vertex) ts
    = first_changes_nothing vertices order done (label_of vertex) (operands_of vertex) n top s.walk (s.forest.over top vertex s.there) (top_within vertices order done stack top vertex below s) h in
    let turned : add_tree (tree_at (trees vertices) top) (add_tree (tree_at (trees vertices) n) ts) ≡ add_tree (tree_at (trees vertices) top) ts
    = subst (λ t. add_tree t (add_tree (tree_at (trees vertices) n) ts) ≡ add_tree t ts) (sym here) same in
    ap (λ ns. finish (trees_of vertices ns) ts) e
    ∙ (finish_trees vertices stack n ts
    ∙ (ap (λ ns. finish (trees_of vertices ns) (add_tree (tree_at (trees vertices) n) ts)) s.latest
    ∙ (finish_trees vertices below top (add_tree (tree_at (trees vertices) n) ts)
    ∙ (ap (finish (trees_of vertices below)) turned
    ∙ (sym (finish_trees vertices below top ts) ∙ ap (λ ns. finish (trees_of vertices ns) ts) (sym s.latest))))))

pub operand_less : (vertices : List Vertex) (order : List ℕ) (done : List Bool) (stack : List ℕ) (top : ℕ) (vertex : Vertex) (below : List ℕ) (n : ℕ) (new : List ℕ) →
    IsAt vertices order done stack top vertex below → IsFirstIncomplete done (operands_of vertex) n → new ≡ stack ++ n ∷ [] → work done new < work done stack
operand_less vertices order done stack top vertex below n new s h e =
    let lower : n < top = operand_below done (operands_of vertex) n top (s.forest.over top vertex s.there) h in
    let high : height stack ≡ suc top = ap height s.latest ∙ height_push below top in
    let low : height new ≡ suc n = ap height e ∙ height_push stack n in
    omega arith

-- a vertex whose operands are complete
listed_other : (u t : LabelTree) (ts : List LabelTree) → same_tree u t ≡ false → listed same_tree u (ts ++ t ∷ []) ≡ listed same_tree u ts
unfolding listed
listed_other u t [] e = ap (λ b. b || false) e
listed_other u t (v ∷ ts) e = ap (λ b. same_tree u v || b) (listed_other u t ts e)

set_same : (done : List Bool) (n : ℕ) (b : Bool) → n < length done → slice_get (set done n b) n ≡ Some b
set_same [] n b l = absurd (omega arith)
set_same (d ∷ done) zero b l = refl
set_same (d ∷ done) (suc n) b l = set_same done n b (omega arith)

set_other : (done : List Bool) (n m : ℕ) (b : Bool) → m ≢ n → slice_get (set done n b) m ≡ slice_get done m
set_other [] n m b d = refl
set_other (x ∷ done) zero zero b d = absurd (d refl)
set_other (x ∷ done) zero (suc m) b d = refl
set_other (x ∷ done) (suc n) zero b d = refl
set_other (x ∷ done) (suc n) (suc m) b d = set_other done n m b (λ e. d (ap suc e))

operands_listed : (vertices : List Vertex) (order : List ℕ) (done : List Bool) (l : Label) (o : Operands) (top : ℕ) → IsWalk vertices order done → OperandsAreBelow top o → top < length vertices → AreDone done o →
    HasOperands (trees_of vertices order) (tree_over (trees vertices) l o)
operands_listed vertices order done l Zero top w b k h = tt
operands_listed vertices order done l (One a) top w b k h = told_at vertices order done a true w (omega arith) h
operands_listed vertices order done l (Two a b) top w s k h =
    let left : a < top = s.0 in
    let right : b < top = s.1 in
    (told_at vertices order done a true w (omega arith) h.0, told_at vertices order done b true w (omega arith) h.1)

all_listed : (vertices : List Vertex) (order : List ℕ) (done : List Bool) (stack : List ℕ) (top : ℕ) (vertex : Vertex) (below : List ℕ) →
    IsAt vertices order done stack top vertex below → AreDone done (operands_of vertex) → HasOperands (trees_of vertices order) (tree_at (trees vertices) top)
all_listed vertices order done stack top vertex below s h =
    subst (HasOperands (trees_of vertices order)) (sym (tree_here vertices top vertex s.forest s.there))
    (operands_listed vertices order done (label_of vertex) (operands_of vertex) top s.walk (s.forest.over top vertex s.there) (top_within vertices order done stack top vertex below s) h)

at_end : (below : List ℕ) (top : ℕ) → slice_get (below ++ top ∷ []) (length below) ≡ Some top
at_end [] top = refl
at_end (m ∷ below) top = at_end below top

top_open : (vertices : List Vertex) (order : List ℕ) (done : List Bool) (stack : List ℕ) (top : ℕ) (vertex : Vertex) (below : List ℕ) → IsAt vertices order done stack top vertex below → slice_get done top ≡ Some false
top_open vertices order done stack top vertex below s =
    s.waiting.waits (length below) top (ap (λ ns. slice_get ns (length below)) s.latest ∙ at_end below top)

top_absent : (vertices : List Vertex) (order : List ℕ) (done : List Bool) (stack : List ℕ) (top : ℕ) (vertex : Vertex) (below : List ℕ) → IsAt vertices order done stack top vertex below →
    listed same_tree (tree_at (trees vertices) top) (trees_of vertices order) ≡ false
top_absent vertices order done stack top vertex below s =
    told_at vertices order done top false s.walk (top_within vertices order done stack top vertex below s) (top_open vertices order done stack top vertex below s)

other_tree : (vertices : List Vertex) (n m : ℕ) (t u : LabelTree) → IsForest vertices → Has vertices n t → Has vertices m u → n ≢ m → same_tree t u ≡ false
other_tree vertices n m t u f h g d = go (same_tree t u) refl
  where
    go : (b : Bool) → same_tree t u ≡ b → b ≡ false
    go false e = refl
    go true e = absurd (d (one_place vertices f u n m (subst (λ x. Has vertices n x) (same_tree_sound t u e) h) g))

pub complete_walk : (vertices : List Vertex) (order : List ℕ) (done : List Bool) (stack : List ℕ) (top : ℕ) (vertex : Vertex) (below new : List ℕ) (marks : List Bool) →
    IsAt vertices order done stack top vertex below → AreDone done (operands_of vertex) → new ≡ order ++ top ∷ [] → marks ≡ set done top true → IsWalk vertices new marks
complete_walk vertices order done stack top vertex below new marks s h e m =
    let inside : top < length vertices = top_within vertices order done stack top vertex below s in
    let ts : List LabelTree = trees_of vertices order in
    let t : LabelTree = tree_at (trees vertices) top in
    let has : Has vertices top t = record { within = inside; is = refl } in
    let grown : trees_of vertices (order ++ top ∷ []) ≡ ts ++ t ∷ [] = trees_push vertices order top in
    let counted : length done ≡ length vertices = s.walk.count in
    let whole : IsWalk vertices (order ++ top ∷ []) (set done top true) = record {
      count = length-set done top true ∙ s.walk.count;
      within = λ i n g. elim (at_push order top i n g) [
        | inl p ↦ s.walk.within i n p.1
        | inr p ↦ subst (λ k. k < length vertices) p.1 inside
      ];
      told = λ n u g. elim (cases_eq n top) [
        | inl q ↦
            let same : u ≡ t = sym g.is ∙ ap (tree_at (trees vertices)) q in
            let marked : slice_get (set done top true) n ≡ Some true = ap (slice_get (set done top true)) q ∙ set_same done top true (omega arith) in
            let found : listed same_tree u (trees_of vertices (order ++ top ∷ [])) ≡ true
            = ap (λ us. listed same_tree u us) grown ∙ (ap (λ x. listed same_tree x (ts ++ t ∷ [])) same ∙ listed_end same_tree same_tree_sound same_tree_self t ts) in
            marked ∙ ap Some (sym found)
        | inr d ↦
            set_other done top n true d
            ∙ (s.walk.told n u g
            ∙ ap Some (sym (ap (λ us. listed same_tree u us) grown ∙ listed_other u t ts (other_tree vertices n top u t s.forest g has d))))
      ];
      closed = subst HasItsOperands (sym grown) (closed_push t ts s.walk.closed (all_listed vertices order done stack top vertex below s h));
    } in
    subst (λ o. IsWalk vertices o marks) (sym e) (subst (λ d. IsWalk vertices (order ++ top ∷ []) d) (sym m) whole)

pub complete_stack : (vertices : List Vertex) (order : List ℕ) (done : List Bool) (stack : List ℕ) (top : ℕ) (vertex : Vertex) (below : List ℕ) (marks : List Bool) →
    IsAt vertices order done stack top vertex below → marks ≡ set done top true → IsStack vertices marks below
complete_stack vertices order done stack top vertex below marks s m =
    let before : Descends (length vertices) (below ++ top ∷ []) = subst (Descends (length vertices)) s.latest s.waiting.descends in
    record {
      descends = descends_pop (length vertices) below top before;
      waits = λ i n g.
          let above : top < n = descends_above (length vertices) below top i n before g in
          let apart : n ≢ top = omega arith in
          ap (λ d. slice_get d n) m
          ∙ (set_other done top n true apart
          ∙ s.waiting.waits i n (ap (λ ns. slice_get ns i) s.latest ∙ get_left below (top ∷ []) i n g));
    }

pub complete_goal : (vertices : List Vertex) (order : List ℕ) (done : List Bool) (stack : List ℕ) (top : ℕ) (vertex : Vertex) (below new : List ℕ) →
    IsAt vertices order done stack top vertex below → AreDone done (operands_of vertex) → new ≡ order ++ top ∷ [] →
    finish (trees_of vertices below) (trees_of vertices new) ≡ finish (trees_of vertices stack) (trees_of vertices order)
complete_goal vertices order done stack top vertex below new s h e =
    let ts : List LabelTree = trees_of vertices order in
    let t : LabelTree = tree_at (trees vertices) top in
    let last : add_tree t ts ≡ ts ++ t ∷ []
    = over_operands t ts s.walk.closed (all_listed vertices order done stack top vertex below s h) (top_absent vertices order done stack top vertex below s) in
    ap (λ ns. finish (trees_of vertices below) (trees_of vertices ns)) e
    ∙ (ap (finish (trees_of vertices below)) (trees_push vertices order top ∙ sym last)
    ∙ (sym (finish_trees vertices below top ts) ∙ ap (λ ns. finish (trees_of vertices ns) ts) (sym s.latest)))

fewer_open : (done : List Bool) (n : ℕ) → slice_get done n ≡ Some false → open_count (set done n true) + 1 ≡ open_count done
unfolding open_count
fewer_open [] n e = cc
fewer_open (true ∷ done) zero e = let two : true ≡ false = same_Some true false e in absurd (true≢false two)
fewer_open (false ∷ done) zero e = omega arith
fewer_open (true ∷ done) (suc n) e = fewer_open done n e
fewer_open (false ∷ done) (suc n) e = let h : open_count (set done n true) + 1 ≡ open_count done = fewer_open done n e in omega arith

smaller : (u v w h k : ℕ) → v + 1 ≡ u → h ≤ w → v * (w + 1) + h < u * (w + 1) + k + 1
smaller u v w h k e l = rw (← e) (omega arith)

pub complete_less : (vertices : List Vertex) (order : List ℕ) (done : List Bool) (stack : List ℕ) (top : ℕ) (vertex : Vertex) (below : List ℕ) (marks : List Bool) →
    IsAt vertices order done stack top vertex below → marks ≡ set done top true → work marks below < work done stack
complete_less vertices order done stack top vertex below marks s m =
    let before : Descends (length vertices) (below ++ top ∷ []) = subst (Descends (length vertices)) s.latest s.waiting.descends in
    let low : height below ≤ length vertices = height_below (length vertices) below (descends_pop (length vertices) below top before) in
    let fewer : open_count (set done top true) + 1 ≡ open_count done = fewer_open done top (top_open vertices order done stack top vertex below s) in
    let counted : length done ≡ length vertices = s.walk.count in
    let high : height stack ≡ suc top = ap height s.latest ∙ height_push below top in
    let step : open_count (set done top true) * (length done + 1) + height below < open_count done * (length done + 1) + top + 1
    = smaller (open_count done) (open_count (set done top true)) (length done) (height below) top fewer (omega arith) in
    let size : length (set done top true) ≡ length done = length-set done top true in
    let goal : work (set done top true) below < work done stack
    = rw (size, high) (omega arith) in
    subst (λ d. work d below < work done stack) (sym m) goal

pub top_inside : (vertices : List Vertex) (done : List Bool) (stack below : List ℕ) (top : ℕ) → IsStack vertices done stack → stack ≡ below ++ top ∷ [] → top < length vertices
top_inside vertices done stack below top s e = descends_top (length vertices) below top (subst (Descends (length vertices)) e s.descends)

-- a walk begins with nothing complete, and a visit with its root alone
none_done : (m n : ℕ) → n < m → slice_get (replicate m false) n ≡ Some false
none_done zero n l = absurd (omega arith)
none_done (suc m) zero l = refl
none_done (suc m) (suc n) l = none_done m n (omega arith)

pub start_walk : (vertices : List Vertex) (order : List ℕ) (done : List Bool) → order ≡ [] → done ≡ replicate (length vertices) false → IsWalk vertices order done
unfolding listed
start_walk vertices order done e d =
    let whole : IsWalk vertices [] (replicate (length vertices) false) = record {
      count = length-replicate (length vertices) false;
      within = λ i n g. cc;
      told = λ n t h. none_done (length vertices) n h.within;
      closed = closed_nil;
    } in
    subst (λ o. IsWalk vertices o done) (sym e) (subst (λ m. IsWalk vertices [] m) (sym d) whole)

pub start_stack : (vertices : List Vertex) (done : List Bool) (stack : List ℕ) (root : ℕ) → stack ≡ root ∷ [] → root < length vertices → slice_get done root ≡ Some false → IsStack vertices done stack
start_stack vertices done stack root e l h = subst (IsStack vertices done) (sym e) (record {
  descends = (l, tt);
  waits = λ i n g. alone i n g;
})
  where
    alone : (i n : ℕ) → slice_get (root ∷ []) i ≡ Some n → slice_get done n ≡ Some false
    alone zero n g = subst (λ k. slice_get done k ≡ Some false) (same_Some root n g) h
    alone (suc i) n g = cc

pub start_goal : (vertices : List Vertex) (stack : List ℕ) (root : ℕ) (ts : List LabelTree) → stack ≡ root ∷ [] → finish (trees_of vertices stack) ts ≡ add_tree (tree_at (trees vertices) root) ts
unfolding finish
start_goal vertices stack root ts e = ap (λ ns. finish (trees_of vertices ns) ts) e

pub end_goal : (vertices : List Vertex) (stack : List ℕ) (ts : List LabelTree) → stack ≡ [] → finish (trees_of vertices stack) ts ≡ ts
unfolding finish
end_goal vertices stack ts e = ap (λ ns. finish (trees_of vertices ns) ts) e

pub done_already : (vertices : List Vertex) (order : List ℕ) (done : List Bool) (root : ℕ) → IsWalk vertices order done → root < length vertices → slice_get done root ≡ Some true →
    trees_of vertices order ≡ add_tree (tree_at (trees vertices) root) (trees_of vertices order)
done_already vertices order done root w l h =
    sym (tree_again (tree_at (trees vertices) root) (trees_of vertices order) w.closed (told_at vertices order done root true w l h))

pub below_length : (n m : ℕ) (o : Operands) → n < m → OperandsAreBelow n o → OperandsAreBelow m o
below_length n m Zero l h = tt
below_length n m (One a) l h = omega arith
below_length n m (Two a b) l h = let left : a < n = h.0 in let right : b < n = h.1 in (omega arith, omega arith)

-- the stack without its latest
pub popped : (stack below new : List ℕ) (top n : ℕ) → stack ≡ below ++ top ∷ [] → n ≡ length stack → new ≡ take (n - 1) stack → below ≡ new
popped stack below new top n e l h =
    let size : length stack ≡ length below + 1 = ap length e ∙ length_push below top in
    let short : length below ≡ n - 1 = omega arith in
    sym (h ∙ (ap (take (n - 1)) e ∙ take_at below (top ∷ []) (n - 1) short))

-- a list without a last member is empty
pub no_last : (ns : List ℕ) → slice_get ns (length ns - 1) ≡ None → ns ≡ []
no_last [] e = refl
no_last (n ∷ ns) e =
    let last : length (n ∷ ns) - 1 < length (n ∷ ns) = omega arith in
    let found : slice_get (n ∷ ns) (length (n ∷ ns) - 1) ≡ Some (get_or (n ∷ ns) (length (n ∷ ns) - 1) 0) = slice_get-get_or (n ∷ ns) (length (n ∷ ns) - 1) 0 last in
    absurd (none-some (get_or (n ∷ ns) (length (n ∷ ns) - 1) 0) (sym e ∙ found))
