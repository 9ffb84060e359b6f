use Rattle.std.proofs.Common.{◌≡◌, map, take}
use Rattle.core_graph.specs.Listings.{placed_out}
use Rattle.core_graph.proofs.ops.numbered_outs.Given as goal

abbrev pub invariant-loop-out : goal.invariant-loop-out
invariant-loop-out l = l.new ≡ map (placed_out l.ids l.ft l.pt) (take l.out-index l.outs)
