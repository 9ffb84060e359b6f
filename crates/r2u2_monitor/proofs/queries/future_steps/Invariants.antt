use Rattle.std.proofs.Common.{◌≡◌, ◌≤◌, ◌*◌, ◌^◌, slice_index}
use Rattle.ft_engine.specs.Queues.{work_before}
use Rattle.r2u2_monitor.proofs.queries.future_steps.Given as goal

abbrev pub invariant-loop-i : goal.invariant-loop-i
invariant-loop-i l = record {
  steps : l.steps ≡ work_before l.ops (slice_index l.sizes) l.i;
  few : l.steps ≤ 2 ^ 28 * l.i;
}
