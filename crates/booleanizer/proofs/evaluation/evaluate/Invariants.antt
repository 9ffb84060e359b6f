use Rattle.std.proofs.Common.{◌≡◌, ◌+◌}
use Rattle.booleanizer.proofs.Evaluating.{Computed}
use Rattle.booleanizer.proofs.evaluation.evaluate.Given as goal

abbrev pub invariant-loop-i : goal.invariant-loop-i
invariant-loop-i g l = record {
  computed : Computed l.row l.ops l.numbers l.i;
  counted : l.steps ≡ l.initial.steps + l.i;
}
