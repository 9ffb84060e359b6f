use Rattle.std.proofs.Common.{◌≡◌, ◌<◌, ℕ, length}
use Rattle.pt_boxes.specs.Boxes.{no_boxes}
use Rattle.pt_boxes.specs.Nodes.{node_at}
use Rattle.pt_boxes.proofs.restart.restart.Given as goal

abbrev pub invariant-loop-i : goal.invariant-loop-i
invariant-loop-i l = record {
  many : length l.nodes ≡ length l.fn.nodes;
  seats : (j : ℕ) → (node_at l.nodes j).seat ≡ (node_at l.fn.nodes j).seat;
  emptied : (j : ℕ) → j < l.i → (node_at l.nodes j).boxes ≡ no_boxes;
}
