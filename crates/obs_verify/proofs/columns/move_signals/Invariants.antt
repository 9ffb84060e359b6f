use Rattle.std.proofs.Common.{◌≡◌, ◌++◌, drop, length, take}
use Rattle.obs_verify.specs.Bound.{bound_signals}
use Rattle.obs_verify.proofs.columns.move_signals.Given as goal

abbrev pub invariant-loop-k : goal.invariant-loop-k
invariant-loop-k l = record {
  long : length l.signals ≡ length l.initial.signals;
  done : l.signals ≡ bound_signals (take l.k l.initial.signals) (take l.k l.columns) ++ drop l.k l.initial.signals;
}
