use Rattle.std.proofs.Common.{◌≡◌, filter, take}
use Rattle.core_graph.specs.Vertices.{tree_at, trees}
use Rattle.core_graph.specs.Listings.{is_in}
use Rattle.core_graph.proofs.listing.select.Given as goal

abbrev pub invariant-loop-id : goal.invariant-loop-id
invariant-loop-id l = l.ids.items ≡ filter (λ n. is_in l.part (tree_at (trees l.forest) n)) (take l.id-index l.order)
