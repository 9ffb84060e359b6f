use Rattle.std.proofs.Common.{◌≡◌, ◌++◌, ◌≤◌, length, take}
use Rattle.obs_show.specs.Writing.{written}
use Rattle.obs_show.proofs.text.add_all.Given as goal

abbrev pub invariant-loop-k : goal.invariant-loop-k
invariant-loop-k g l = record {
  text : l.text.items ≡ l.initial.text.items ++ written (g.T.Shown.bytes l.checked) 0 (take l.k l.members);
  short : length l.text.items ≤ 1048576;
}
