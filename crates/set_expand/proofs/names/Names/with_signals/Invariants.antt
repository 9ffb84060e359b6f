use Rattle.std.proofs.Common.{◌≡◌, ◌+◌, List, drop}
use Rattle.c2po_ast.specs.declared.nodes.Plain.{Plain}
use Rattle.c2po_types.specs.Outputs.{with_signals}
use Rattle.set_expand.specs.Names.{SignalsBelow, env_now}
use Rattle.set_expand.specs.Nodes.{HaveNodes}
use Rattle.set_expand.proofs.Stepping.{signals_named}
use Rattle.set_expand.proofs.names.Names.with_signals.Given as goal

-- the signals so far are declared, and those that are left make the whole
abbrev pub invariant-loop-name : goal.invariant-loop-name
invariant-loop-name l = record {
  env : with_signals (l.fn.from + l.name-index) (drop l.name-index (signals_named l.signals l.truth)) (env_now l.names)
      ≡ with_signals l.fn.from (signals_named l.signals l.truth) (env_now l.fn.self);
  below : SignalsBelow l.fn.from l.fn.self → SignalsBelow l.number l.names;
  kept : (nodes : List Plain) → HaveNodes nodes l.fn.self → HaveNodes nodes l.names;
  number : l.number ≡ l.fn.from + l.name-index;
}
