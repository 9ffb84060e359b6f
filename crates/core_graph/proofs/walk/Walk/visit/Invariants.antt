use Rattle.std.proofs.Common.{◌≡◌}
use Rattle.core_graph.specs.Vertices.{tree_at, trees}
use Rattle.core_graph.specs.Trees.{add_tree}
use Rattle.core_graph.specs.Walks.{IsStack, IsWalk, finish, trees_of, work}
use Rattle.core_graph.proofs.walk.Walk.visit.Given as goal

abbrev pub invariant-loop-top : goal.invariant-loop-top
invariant-loop-top l = record {
  walk : IsWalk l.forest l.self.order.items l.self.done.items;
  waiting : IsStack l.forest l.self.done.items l.stack.items;
  goal : finish (trees_of l.forest l.stack.items) (trees_of l.forest l.self.order.items)
      ≡ add_tree (tree_at (trees l.forest) l.root) (trees_of l.forest l.fn.self.order.items);
}

abbrev pub decreases-loop-top : goal.decreases-loop-top
decreases-loop-top l = work l.self.done.items l.stack.items
