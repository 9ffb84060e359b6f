use Rattle.std.proofs.Common.{◌≡◌, ◌≤◌, drop, map}
use Rattle.mltl_base.specs.declared.limits.TheConstants.{MAX_WEIGHT}
use Rattle.c2po_ast.specs.ItemShape.{item_shape}
use Rattle.c2po_types.specs.Checking.{in_turn}
use Rattle.c2po_types.specs.Environment.{Env}
use Rattle.c2po_types.specs.Holding.{StandsFor}
use Rattle.c2po_types.specs.Stepwise.{item_step, checked}
use Rattle.c2po_types.specs.Reaching.{state_of}
use Rattle.c2po_types.proofs.spec_check.run.Given as goal

-- what is left to be checked makes the whole
abbrev pub invariant-loop-item : goal.invariant-loop-item
invariant-loop-item l = record {
  light : l.progress.total ≤ MAX_WEIGHT;
  reached : (env : Env) × StandsFor l.progress.values env
      × (in_turn (λ i. item_step (item_shape i)) (drop l.item-index l.items) (state_of l.progress env) ≡ checked (map item_shape l.items));
}
