-- The vertices of the part, in the order of completion.
use Rattle.std.proofs.Common.{◌≡◌, ◌<◌, All, List, ℕ, length, filter, slice_get, subst, sym, ap, ◌∙◌, arith}
use Rattle.std.proofs.lemmas.List.{length-map}
use Rattle.core_graph.specs.declared.vertex.Vertex.{Vertex}
use Rattle.core_graph.specs.Vertices.{tree_at, trees}
use Rattle.core_graph.specs.Trees.{completed}
use Rattle.core_graph.specs.Walks.{trees_of}
use Rattle.core_graph.specs.Listings.{AreOnce, is_in, listed_trees, roots_of}
use Rattle.core_graph.proofs.Lists.{part_trees, part_within, part_once, get_within}
use Rattle.core_graph.proofs.Outputs.{roots_inside}
use Rattle.core_graph.proofs.listing.list.Goals as goal

pub completion-requires-clause-there : goal.completion-requires-clause-there
completion-requires-clause-there c =
    subst (λ (ns : List ℕ). All (λ n. n < length c.args.forest.now) ns) (sym (c.deref.ensures.value ∙ c.in_ok-roots.ensures))
    (roots_inside (length c.args.forest.now) c.args.ids.now c.requires.there c.args.part c.args.outs.now c.requires.named)

pub places-requires-clause-there : goal.places-requires-clause-there
places-requires-clause-there c =
    let forest : List Vertex = c.args.forest.now in
    let roots : List ℕ = roots_of c.args.part c.args.ids.now c.args.outs.now in
    let order : List ℕ = c.in_ok-order.order.items in
    let listed : List ℕ = c.in_ok-listed.listed.items in
    let made : listed ≡ filter (λ n. is_in c.args.part (tree_at (trees forest) n)) order
    = c.in_ok-listed.ensures ∙ ap (filter (λ n. is_in c.args.part (tree_at (trees forest) n))) c.deref-2.ensures.value in
    let inside : All (λ n. n < length forest) listed
    = part_within forest (λ n. is_in c.args.part (tree_at (trees forest) n)) order listed made c.in_ok-order.ensures.within in
    subst (λ (m : ℕ). All (λ n. n < m) c.deref-3.result.now) (sym c.len-2.ensures)
    (subst (λ (ns : List ℕ). All (λ n. n < length forest) ns) (sym c.deref-3.ensures.value) inside)

pub places-requires-clause-once : goal.places-requires-clause-once
places-requires-clause-once c =
    let forest : List Vertex = c.args.forest.now in
    let roots : List ℕ = roots_of c.args.part c.args.ids.now c.args.outs.now in
    let order : List ℕ = c.in_ok-order.order.items in
    let listed : List ℕ = c.in_ok-listed.listed.items in
    let made : listed ≡ filter (λ n. is_in c.args.part (tree_at (trees forest) n)) order
    = c.in_ok-listed.ensures ∙ ap (filter (λ n. is_in c.args.part (tree_at (trees forest) n))) c.deref-2.ensures.value in
    let in_order : trees_of forest listed ≡ listed_trees forest c.args.part c.args.ids.now c.args.outs.now
    = part_trees forest c.args.part roots order listed
    (c.in_ok-order.ensures.order ∙ ap (λ (ns : List ℕ). completed (trees_of forest ns)) (c.deref.ensures.value ∙ c.in_ok-roots.ensures)) made in
    subst AreOnce (sym c.deref-3.ensures.value) (part_once forest c.args.part roots listed in_order)

pub places-requires-clause-few : goal.places-requires-clause-few
places-requires-clause-few c =
    let same : length c.deref-3.result.now ≡ length c.in_ok-listed.listed.items = ap length c.deref-3.ensures.value in
    omega (arith, same, c.if-len.false, c.len.ensures)

pub returns-clause-listing : goal.returns-clause-listing
returns-clause-listing c =
    let forest : List Vertex = c.args.forest.now in
    let roots : List ℕ = roots_of c.args.part c.args.ids.now c.args.outs.now in
    let order : List ℕ = c.in_ok-order.order.items in
    let listed : List ℕ = c.in_ok-listed.listed.items in
    let made : listed ≡ filter (λ n. is_in c.args.part (tree_at (trees forest) n)) order
    = c.in_ok-listed.ensures ∙ ap (filter (λ n. is_in c.args.part (tree_at (trees forest) n))) c.deref-2.ensures.value in
    let in_order : trees_of forest listed ≡ listed_trees forest c.args.part c.args.ids.now c.args.outs.now
    = part_trees forest c.args.part roots order listed
    (c.in_ok-order.ensures.order ∙ ap (λ (ns : List ℕ). completed (trees_of forest ns)) (c.deref.ensures.value ∙ c.in_ok-roots.ensures)) made in
    let inside : All (λ n. n < length forest) listed
    = part_within forest (λ n. is_in c.args.part (tree_at (trees forest) n)) order listed made c.in_ok-order.ensures.within in
    record {
      few = omega (arith, c.if-len.false, c.len.ensures);
      count = c.in_ok-places.ensures.count ∙ c.len-2.ensures;
      within = get_within forest listed inside;
      in_order = in_order;
      numbered = λ i n e. c.in_ok-places.ensures.places i n (ap (λ (ns : List ℕ). slice_get ns i) c.deref-3.ensures.value ∙ e);
    }

pub returns-then-len-clause-too_many : goal.returns-then-len-clause-too_many
returns-then-len-clause-too_many c = λ e.
    let forest : List Vertex = c.args.forest.now in
    let listed : List ℕ = c.in_ok-listed.listed.items in
    let made : listed ≡ filter (λ n. is_in c.args.part (tree_at (trees forest) n)) c.in_ok-order.order.items
    = c.in_ok-listed.ensures ∙ ap (filter (λ n. is_in c.args.part (tree_at (trees forest) n))) c.deref-2.ensures.value in
    let in_order : trees_of forest listed ≡ listed_trees forest c.args.part c.args.ids.now c.args.outs.now
    = part_trees forest c.args.part (roots_of c.args.part c.args.ids.now c.args.outs.now) c.in_ok-order.order.items listed
    (c.in_ok-order.ensures.order ∙ ap (λ (ns : List ℕ). completed (trees_of forest ns)) (c.deref.ensures.value ∙ c.in_ok-roots.ensures)) made in
    let size : length listed ≡ length (listed_trees forest c.args.part c.args.ids.now c.args.outs.now)
    = sym (length-map listed (tree_at (trees forest))) ∙ ap length in_order in
    omega (arith, size, c.if-len.true, c.len.ensures)
