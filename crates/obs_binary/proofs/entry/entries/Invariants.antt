use Rattle.std.proofs.Common.{◌≡◌, ◌+◌, ◌*◌, ◌-◌, ◌≤◌, length}
use Rattle.std.specs.Vec.{vec_capacity, vec_len}
use Rattle.mltl_base.specs.Room.{room}
use Rattle.obs_binary.specs.Reading.{entry_at, each_at}
use Rattle.obs_binary.proofs.Steps.{with_front}
use Rattle.obs_binary.proofs.entry.entries.Given as goal

abbrev pub invariant-loop : goal.invariant-loop
invariant-loop g l = record {
  read : with_front l.found.items (each_at (entry_at g.X.Entry.LEN g.X.Entry.spelled g.X.Entry.content l.size) (l.count - l.counter) l.rest)
      ≡ each_at (entry_at g.X.Entry.LEN g.X.Entry.spelled g.X.Entry.content l.size) l.count l.bytes;
  count : length l.found.items ≡ l.counter;
  len : vec_len l.found ≡ l.counter;
  room : vec_capacity l.found ≡ room l.count;
  enough : l.count ≤ vec_capacity l.found;
  left : length l.rest + g.X.Entry.LEN * l.counter ≡ length l.bytes;
}
