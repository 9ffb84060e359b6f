use Rattle.std.proofs.Common.{◌≡◌, length, take, vec_len}
use Rattle.std.specs.List.{sum}
use Rattle.std.specs.Vec.{vec_capacity}
use Rattle.pt_boxes.proofs.Making.{Started}
use Rattle.pt_boxes.proofs.engine.Pt.make.Given as goal

abbrev pub invariant-loop-size : goal.invariant-loop-size
invariant-loop-size l = record {
  room : vec_capacity l.nodes ≡ length l.sizes;
  count : vec_len l.nodes ≡ l.size-index;
  total : l.start ≡ sum (take l.size-index l.sizes);
  started : Started l.sizes l.nodes.items l.start l.size-index;
}
