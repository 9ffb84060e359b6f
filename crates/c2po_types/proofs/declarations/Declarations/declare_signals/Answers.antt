use Rattle.std.proofs.Common.{◌∙◌, sym, subst}
use Rattle.std.proofs.lemmas.Result.{err_from_is_err_and}
use Rattle.c2po_types.specs.Checking.{Fails}
use Rattle.c2po_types.specs.Items.{with_signal}
use Rattle.c2po_types.proofs.Turns.{turn-more, turn-fails}
use Rattle.c2po_types.proofs.declarations.Declarations.declare_signals.Goals as goal

pub loop-name-preserved : goal.loop-name-preserved
loop-name-preserved c = sym (turn-more (with_signal c.args.line c.args.truth) c.args.names.now c.loop-name.name-index c.name-item.result c.loop-name.self c.loop-name-test.true c.name-item.is
    c.declare_signal.new.self c.in_ok-declare_signal.ensures) ∙ c.loop-name.invariant

pub returns-in_err-declare_signal : goal.returns-in_err-declare_signal
returns-in_err-declare_signal c =
    let p = err_from_is_err_and c.from_residual.result c.from_residual.ensures.1 in
    rw (p.1, p.2) (subst (Fails c.in_err-declare_signal.field-0.0) c.loop-name.invariant
    (turn-fails (with_signal c.args.line c.args.truth) c.args.names.now c.loop-name.name-index c.name-item.result c.loop-name.self c.loop-name-test.true c.name-item.is _ c.in_err-declare_signal.ensures))
