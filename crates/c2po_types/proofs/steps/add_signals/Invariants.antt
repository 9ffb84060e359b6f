use Rattle.std.proofs.Common.{◌≡◌, drop}
use Rattle.c2po_types.specs.Environment.{Env}
use Rattle.c2po_types.specs.Holding.{StandsFor}
use Rattle.c2po_types.specs.Outputs.{with_signals}
use Rattle.c2po_types.proofs.steps.add_signals.Given as goal

-- the signals so far stand for their numbers, and those that are left make the whole
abbrev pub invariant-loop-number : goal.invariant-loop-number
invariant-loop-number l = record {
  stand : (env : Env) → StandsFor l.fn.values env
      → (now : Env) × StandsFor l.values now × (with_signals l.number (drop l.number l.signals) now ≡ with_signals l.from (drop l.from l.signals) env);
}
