use Rattle.std.proofs.Common.{◌≡◌, ◌≤◌, drop, length}
use Rattle.std.specs.Vec.{vec_capacity, vec_len}
use Rattle.mltl_base.specs.Room.{room}
use Rattle.obs_binary.specs.Reading.{named}
use Rattle.obs_binary.proofs.Steps.{names_after}
use Rattle.obs_binary.proofs.names.named.Given as goal

abbrev pub invariant-loop-k : goal.invariant-loop-k
invariant-loop-k g l = record {
  read : names_after l.wholes.items (named g.H.Head.name_len g.H.Head.with_name g.H.Head.fault l.k (drop l.k l.heads) l.rest)
      ≡ named g.H.Head.name_len g.H.Head.with_name g.H.Head.fault 0 l.heads l.names;
  len : vec_len l.wholes ≡ l.k;
  room : vec_capacity l.wholes ≡ room (length l.heads);
  enough : length l.heads ≤ vec_capacity l.wholes;
}
