use Rattle.std.proofs.Common.{◌≡◌, take}
use Rattle.core_graph.specs.Listings.{roots_of}
use Rattle.core_graph.proofs.listing.roots.Given as goal

abbrev pub invariant-loop-out : goal.invariant-loop-out
invariant-loop-out l = l.roots.items ≡ roots_of l.part l.ids (take l.out-index l.outs)
