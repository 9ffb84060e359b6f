use Rattle.std.proofs.Common.{◌≤◌, List, length, sym, subst}
use Rattle.mltl_base.specs.declared.limits.TheConstants.{MAX_SIGNALS}
use Rattle.mltl_base.specs.declared.signal.Signal.{Signal}
use Rattle.mltl_base.specs.Kinds.{HaveOwnNames}
use Rattle.c2po_ast.specs.ItemShape.{spec_shape}
use Rattle.c2po_types.proofs.OwnNames.{own_names, few_signals}
use Rattle.c2po_types.proofs.typed.TypedSpec.signals.Goals as goal

pub returns-clause-named : goal.returns-clause-named
returns-clause-named c =
    let h = c.self.invariant in
    subst HaveOwnNames (sym h.signals_are) (own_names (spec_shape c.self.inside.tree) h.faultless)

pub returns-clause-few : goal.returns-clause-few
returns-clause-few c =
    let h = c.self.invariant in
    subst (λ (ss : List Signal). length ss ≤ MAX_SIGNALS) (sym h.signals_are) (few_signals (spec_shape c.self.inside.tree) h.faultless)
