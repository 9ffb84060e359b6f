use Rattle.std.proofs.Common.{◌≡◌, map, take}
use Rattle.core_graph.specs.Listings.{vertex_at, bz_op_of}
use Rattle.core_graph.proofs.ops.bz_ops.Given as goal

abbrev pub invariant-loop-id : goal.invariant-loop-id
invariant-loop-id l = l.ops ≡ map (λ n. bz_op_of l.bz.places.items (vertex_at l.forest n)) (take l.id-index l.bz.ids.items)
