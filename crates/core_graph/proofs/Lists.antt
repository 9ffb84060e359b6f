-- Lists of vertices: those of a part in order, and their places.

use Rattle.std.proofs.Common.{◌≡◌, ◌≢◌, ℕ, ◌+◌, ◌<◌, Bool, true, false, not, if◌then◌else◌, Some, List, [], ◌∷◌, ◌++◌, All, filter, length, map, take, drop, get_or, set, slice_get, slice_index, refl, sym, subst, ap, ◌∙◌, append-nil, arith, inl, inr}
use Rattle.std.proofs.lemmas.List.{length-take-le, map-append, take_more, take-append-drop, get_or-set_same, get_or-set_other}
use Rattle.std.proofs.lemmas.List.Elements.{filter-append}
use Rattle.std.proofs.lemmas.Option.{slice_get-map, slice_get-get_or, slice_get_within, get_or_from_slice_get}
use Rattle.std.specs.Option.{option_map}
use Rattle.mltl_base.specs.declared.interval.Part.{Part}
use Rattle.mltl_base.specs.declared.interval.Part.TheVariants.{Bz, Ft, Pt}
use Rattle.mltl_base.proofs.Unfolding.{Each, each_from_all}
use Rattle.c2po_ast.proofs.Places.{at_push, get_left}
use Rattle.core_graph.specs.declared.vertex.Vertex.{Vertex}
use Rattle.core_graph.specs.declared.vertex.Operands.{Operands}
use Rattle.core_graph.specs.declared.vertex.Operands.TheVariants.{Zero, One, Two}
use Rattle.core_graph.specs.Trees.{Label, LabelTree, root, completed, is_core_label, is_core_tree}
use Rattle.core_graph.specs.Vertices.{label_of, operands_of, tree_over, tree_at, trees, IsForest}
use Rattle.core_graph.specs.Walks.{trees_of}
use Rattle.core_graph.specs.Listings.{is_in, is_vertex_in, AreOnce}
use Rattle.core_graph.proofs.Forests.{tree_here}
use Rattle.core_graph.proofs.Orders.{AreDistinct, completed_distinct, distinct_place}
use Rattle.mltl_base.proofs.Members.{all_from_each}

-- a vertex is of the part of its tree
label_root : (ts : List LabelTree) (l : Label) (o : Operands) → root (tree_over ts l o) ≡ l
label_root ts l Zero = refl
label_root ts l (One a) = refl
label_root ts l (Two a b) = refl

pub vertex_part : (part : Part) (vertices : List Vertex) (n : ℕ) (vertex : Vertex) → IsForest vertices → slice_get vertices n ≡ Some vertex → is_vertex_in part vertex ≡ is_in part (tree_at (trees vertices) n)
vertex_part part vertices n vertex f e = go part
  where
    same : is_core_label (label_of vertex) ≡ is_core_tree (tree_at (trees vertices) n)
    same = sym (ap is_core_tree (tree_here vertices n vertex f e) ∙ ap is_core_label (label_root (trees vertices) (label_of vertex) (operands_of vertex)))

    go : (part : Part) → is_vertex_in part vertex ≡ is_in part (tree_at (trees vertices) n)
    go Bz = ap not same
    go Ft = same
    go Pt = same

-- one more member of a list
pub map_more : {X Y : Type 0} (f : X → Y) (xs : List X) (i : ℕ) (x : X) → i < length xs → get_or xs i x ≡ x → map f (take (i + 1) xs) ≡ map f (take i xs) ++ f x ∷ []
map_more f xs i x l e =
    ap (map f) (take_more xs i x l ∙ ap (λ y. take i xs ++ y ∷ []) e) ∙ map-append f (take i xs) (x ∷ [])

pub filter_more : (p : ℕ → Bool) (xs : List ℕ) (i x : ℕ) → i < length xs → get_or xs i x ≡ x → filter p (take (i + 1) xs) ≡ filter p (take i xs) ++ (if p x then x ∷ [] else [])
filter_more p xs i x l e =
    ap (filter p) (take_more xs i x l ∙ ap (λ y. take i xs ++ y ∷ []) e) ∙ filter-append p (take i xs) (x ∷ [])

pub filter_kept : (p : ℕ → Bool) (xs : List ℕ) (i x : ℕ) (old new : List ℕ) → i < length xs → get_or xs i x ≡ x → old ≡ filter p (take i xs) → new ≡ old ++ (if p x then x ∷ [] else []) → new ≡ filter p (take (i + 1) xs)
filter_kept p xs i x old new l e h g = g ∙ (ap (λ ns. ns ++ (if p x then x ∷ [] else [])) h ∙ sym (filter_more p xs i x l e))

pub kept_yes : (b : Bool) (x : ℕ) (old new : List ℕ) → b ≡ true → new ≡ old ++ x ∷ [] → new ≡ old ++ (if b then x ∷ [] else [])
kept_yes b x old new e h = rw e h

pub kept_no : (b : Bool) (x : ℕ) (old : List ℕ) → b ≡ false → old ≡ old ++ (if b then x ∷ [] else [])
kept_no b x old e = rw e (sym (append-nil old))

pub map_kept : {Y : Type 0} (f : ℕ → Y) (xs : List ℕ) (i x : ℕ) (y : Y) (old new : List Y) → i < length xs → get_or xs i x ≡ x → old ≡ map f (take i xs) → new ≡ old ++ y ∷ [] → y ≡ f x → new ≡ map f (take (i + 1) xs)
map_kept f xs i x y old new l e h g q = g ∙ (ap (λ ys. ys ++ y ∷ []) h ∙ (ap (λ z. map f (take i xs) ++ z ∷ []) q ∙ sym (map_more f xs i x l e)))

-- the members of a part
map_filter : (p : LabelTree → Bool) (f : ℕ → LabelTree) (xs : List ℕ) → map f (filter (λ n. p (f n)) xs) ≡ filter p (map f xs)
map_filter p f [] = refl
map_filter p f (x ∷ xs) = one_filter (p (f x)) (map_filter p f xs)
  where
    one_filter : (b : Bool) → map f (filter (λ n. p (f n)) xs) ≡ filter p (map f xs) →
        map f (if b then x ∷ filter (λ n. p (f n)) xs else filter (λ n. p (f n)) xs) ≡ (if b then f x ∷ filter p (map f xs) else filter p (map f xs))
    one_filter true e = ap (◌∷◌ (f x)) e
    one_filter false e = e

each_filter : (P : ℕ → Type 0) (p : ℕ → Bool) (xs : List ℕ) → Each P xs → Each P (filter p xs)
each_filter P p [] h = tt
each_filter P p (x ∷ xs) h = one_filter (p x) (each_filter P p xs h.1)
  where
    one_filter : (b : Bool) → Each P (filter p xs) → Each P (if b then x ∷ filter p xs else filter p xs)
    one_filter true g = (h.0, g)
    one_filter false g = g

pub part_within : (vertices : List Vertex) (p : ℕ → Bool) (order ids : List ℕ) → ids ≡ filter p order → All (λ n. n < length vertices) order → All (λ n. n < length vertices) ids
part_within vertices p order ids e h =
    subst (λ ns. All (λ n. n < length vertices) ns) (sym e)
    (all_from_each (λ n. n < length vertices) (filter p order) (each_filter (λ n. n < length vertices) p order (each_from_all (λ n. n < length vertices) order h)))

pub part_trees : (vertices : List Vertex) (part : Part) (roots order ids : List ℕ) → trees_of vertices order ≡ completed (trees_of vertices roots) → ids ≡ filter (λ n. is_in part (tree_at (trees vertices) n)) order →
    trees_of vertices ids ≡ filter (is_in part) (completed (trees_of vertices roots))
part_trees vertices part roots order ids h e =
    ap (trees_of vertices) e ∙ (map_filter (is_in part) (tree_at (trees vertices)) order ∙ ap (filter (is_in part)) h)

tree_there : (vertices : List Vertex) (ids : List ℕ) (i n : ℕ) → slice_get ids i ≡ Some n → slice_get (trees_of vertices ids) i ≡ Some (tree_at (trees vertices) n)
tree_there vertices ids i n e = slice_get-map (tree_at (trees vertices)) ids i ∙ ap (option_map (tree_at (trees vertices))) e

pub part_once : (vertices : List Vertex) (part : Part) (roots ids : List ℕ) → trees_of vertices ids ≡ filter (is_in part) (completed (trees_of vertices roots)) → AreOnce ids
part_once vertices part roots ids h = record {
  once = λ i j n e g.
      distinct_place (trees_of vertices ids) i j (tree_at (trees vertices) n)
      (subst AreDistinct (sym h) (completed_distinct (is_in part) (trees_of vertices roots)))
      (tree_there vertices ids i n e) (tree_there vertices ids j n g);
}

-- the place of one more member
earlier : (ids : List ℕ) (i m n : ℕ) → slice_get (take i ids) m ≡ Some n → slice_get ids m ≡ Some n
earlier ids i m n e = subst (λ ns. slice_get ns m ≡ Some n) (take-append-drop i ids) (get_left (take i ids) (drop i ids) m n e)

pub place_more : (ids places : List ℕ) (i id : ℕ) → i < length ids → get_or ids i id ≡ id → AreOnce ids → id < length places →
    ((m n : ℕ) → slice_get (take i ids) m ≡ Some n → slice_index places n ≡ m) → (m n : ℕ) → slice_get (take (i + 1) ids) m ≡ Some n → slice_index (set places id i) n ≡ m
place_more ids places i id l e o w h m n g =
    let next : take (i + 1) ids ≡ take i ids ++ id ∷ [] = take_more ids i id l ∙ ap (λ k. take i ids ++ k ∷ []) e in
    let size : length (take i ids) ≡ i = length-take-le i ids (omega arith) in
    let there : slice_get ids i ≡ Some id = slice_get-get_or ids i id l ∙ ap Some e in
    elim (at_push (take i ids) id m n (ap (λ ns. slice_get ns m) (sym next) ∙ g)) [
      | inl p ↦
          let before : m < length (take i ids) = p.0 in
          let apart : n ≢ id = λ q.
          let same : m ≡ i = o.once m i id (earlier ids i m n p.1 ∙ ap Some q) there in
          omega arith in
          get_or-set_other places id n i 0 apart ∙ h m n p.1
      | inr p ↦
          let at : m ≡ length (take i ids) = p.0 in
          let here : slice_index (set places id i) id ≡ i = get_or-set_same places id i 0 w in
          let same : m ≡ i = at ∙ size in
          ap (slice_index (set places id i)) (sym p.1) ∙ (here ∙ sym same)
    ]

pub get_within : (vertices : List Vertex) (ids : List ℕ) → All (λ n. n < length vertices) ids → (i n : ℕ) → slice_get ids i ≡ Some n → n < length vertices
get_within vertices ids h i n e =
    let inside : i < length ids = slice_get_within ids i n e in
    let here : get_or ids i n ≡ n = get_or_from_slice_get ids i n n e in
    subst (λ k. k < length vertices) here (h i n inside)

pub all_within : (vertices : List Vertex) (ids : List ℕ) → ((i n : ℕ) → slice_get ids i ≡ Some n → n < length vertices) → All (λ n. n < length vertices) ids
all_within vertices ids h k d l = h k (get_or ids k d) (slice_get-get_or ids k d l)
