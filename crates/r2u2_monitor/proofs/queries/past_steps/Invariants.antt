use Rattle.std.proofs.Common.{◌≡◌, ◌≤◌, ◌*◌, ◌+◌, ◌^◌, take, sum_by}
use Rattle.r2u2_monitor.proofs.queries.past_steps.Given as goal

abbrev pub invariant-loop-size : goal.invariant-loop-size
invariant-loop-size l = record {
  steps : l.steps ≡ sum_by (λ size. size + 2) (take l.size-index l.sizes);
  few : l.steps ≤ 2 ^ 28 * l.size-index;
}
