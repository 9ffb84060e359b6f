use Rattle.std.proofs.Common.{◌≡◌, take}
use Rattle.core_graph.specs.Trees.{completed}
use Rattle.core_graph.specs.Walks.{IsWalk, trees_of}
use Rattle.core_graph.proofs.walk.completion.Given as goal

abbrev pub invariant-loop-root : goal.invariant-loop-root
invariant-loop-root l = record {
  walk : IsWalk l.forest l.walk.order.items l.walk.done.items;
  visited : trees_of l.forest l.walk.order.items ≡ completed (trees_of l.forest (take l.root-index l.roots));
}
