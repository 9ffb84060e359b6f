-- One more vertex.
use Rattle.std.proofs.Common.{◌≡◌, ℕ, get_or}
use Rattle.std.proofs.lemmas.List.{get_or_default}
use Rattle.core_graph.specs.Vertices.{tree_at, trees}
use Rattle.core_graph.specs.Listings.{is_in}
use Rattle.core_graph.proofs.Lists.{filter_kept}
use Rattle.core_graph.proofs.listing.select.Goals as goal

pub loop-id-preserved : goal.loop-id-preserved
loop-id-preserved c =
    let id : ℕ = get_or c.args.order.now c.loop-id.id-index 0 in
    let same : get_or c.args.order.now c.loop-id.id-index id ≡ id = get_or_default c.args.order.now c.loop-id.id-index id 0 c.loop-id-test.true in
    filter_kept (λ n. is_in c.args.part (tree_at (trees c.args.forest.now) n)) c.args.order.now c.loop-id.id-index id c.loop-id.ids.items c.keep.new.ids.items
    c.loop-id-test.true same c.loop-id.invariant c.in_ok-keep.ensures
