use Rattle.std.proofs.Common.{◌≡◌, length, take, vec_len}
use Rattle.std.specs.List.{sum}
use Rattle.std.specs.Vec.{vec_capacity}
use Rattle.ft_engine.proofs.Making.{Started}
use Rattle.ft_engine.proofs.engine.Ft.make.Given as goal

abbrev pub invariant-loop-i : goal.invariant-loop-i
invariant-loop-i l = record {
  room : vec_capacity l.queues ≡ length l.ops;
  count : vec_len l.queues ≡ l.i;
  total : l.start ≡ sum (take l.i l.sizes);
  started : Started l.ops l.sizes l.queues.items l.start l.i;
}
