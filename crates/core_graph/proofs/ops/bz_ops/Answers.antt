-- One more instruction.
use Rattle.std.proofs.Common.{◌≡◌, ◌<◌, ℕ, List, length, get_or, sym, subst, ap, ap₂, ◌∙◌}
use Rattle.std.proofs.lemmas.List.{get_or_default}
use Rattle.std.proofs.lemmas.Option.{get_or_from_slice_get}
use Rattle.core_graph.specs.declared.vertex.Vertex.TheVariants.{True}
use Rattle.core_graph.specs.Listings.{vertex_at, bz_op_of}
use Rattle.core_graph.proofs.Lists.{map_kept}
use Rattle.core_graph.proofs.ops.bz_ops.Goals as goal

pub loop-id-preserved : goal.loop-id-preserved
loop-id-preserved c =
    let listed : List ℕ = c.deref-id-items.result.now in
    let ids : List ℕ = c.args.bz.now.ids.items in
    let id : ℕ = get_or listed c.loop-id.id-index 0 in
    let is : listed ≡ ids = c.deref-id-items.ensures.value in
    let inside : c.loop-id.id-index < length ids = subst (λ (ns : List ℕ). c.loop-id.id-index < length ns) is c.loop-id-test.true in
    let same : get_or ids c.loop-id.id-index id ≡ id
    = ap (λ (ns : List ℕ). get_or ns c.loop-id.id-index id) (sym is) ∙ get_or_default listed c.loop-id.id-index id 0 c.loop-id-test.true in
    let vertex : vertex_at c.args.forest.now id ≡ c.get.result = get_or_from_slice_get c.args.forest.now id c.get.result True c.get.ensures in
    map_kept (λ n. bz_op_of c.args.bz.now.places.items (vertex_at c.args.forest.now n)) ids c.loop-id.id-index id c.bz_op.result c.loop-id.ops c.push.new.self
    inside same c.loop-id.invariant c.in_ok-push.ensures.pushed
    (c.bz_op.ensures ∙ ap₂ bz_op_of c.deref.ensures.value (sym vertex))
