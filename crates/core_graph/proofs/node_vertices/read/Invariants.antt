use Rattle.std.proofs.Common.{take}
use Rattle.core_graph.specs.Reading.{AreRead}
use Rattle.core_graph.proofs.node_vertices.read.Given as goal

abbrev pub invariant-loop-node : goal.invariant-loop-node
invariant-loop-node l = AreRead l.columns l.forest (take l.node-index l.nodes) l.ids.items
