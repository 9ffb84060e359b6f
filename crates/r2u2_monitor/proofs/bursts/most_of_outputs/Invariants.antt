use Rattle.std.proofs.Common.{◌≡◌, ◌≤◌, ◌*◌, ◌^◌, take, sum_by}
use Rattle.r2u2_monitor.specs.Bursts.{most_of}
use Rattle.r2u2_monitor.proofs.bursts.most_of_outputs.Given as goal

abbrev pub invariant-loop-out : goal.invariant-loop-out
invariant-loop-out l = record {
  sum : l.most ≡ sum_by (most_of l.checked) (take l.out-index l.outs);
  few : l.most ≤ 2 ^ 25 * l.out-index;
}
