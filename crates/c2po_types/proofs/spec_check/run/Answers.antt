use Rattle.std.proofs.Common.{◌∙◌, sym, ap, subst, arith}
use Rattle.std.proofs.lemmas.Result.{err_from_is_err_and}
use Rattle.c2po_ast.specs.ItemShape.{item_shape}
use Rattle.c2po_types.specs.Checking.{Fails}
use Rattle.c2po_types.proofs.Turns.{turn-more, turn-fails, turn-end}
use Rattle.c2po_types.specs.Environment.{no_names}
use Rattle.c2po_types.specs.Stepwise.{State, item_step}
use Rattle.c2po_types.specs.Reaching.{state_of}
use Rattle.c2po_types.proofs.Outcome.{checked-from}
use Rattle.c2po_types.proofs.spec_check.run.Goals as goal

pub loop-item-init : goal.loop-item-init
loop-item-init c =
    let items = c.args.items.now in record {
      light = omega (arith, ap (λ (s : State). s.total) c.new-progress.ensures.start);
      reached = (no_names, c.new-progress.ensures.stands, checked-from items c.new-progress.result c.new-progress.ensures.start);
    }

pub loop-item-preserved : goal.loop-item-preserved
loop-item-preserved c =
    let items = c.args.items.now in
    let k = c.loop-item.item-index in
    let item = c.item-item.result in
    let old = c.loop-item.progress in
    let new = c.step.new.self in
    let p = c.loop-item.invariant.reached in
    let q = c.in_ok-step.ensures.reached p.0 p.1 in
    record {
      light = c.in_ok-step.ensures.light;
      reached = (
        q.0,
        q.1,
        sym (turn-more (λ i. item_step (item_shape i)) items k item (state_of old p.0) c.loop-item-test.true c.item-item.is (state_of new q.0) q.2) ∙ p.2,
      );
    }

pub returns-in_err-step : goal.returns-in_err-step
returns-in_err-step c =
    let e = err_from_is_err_and c.from_residual.result c.from_residual.ensures.1 in
    let p = c.loop-item.invariant.reached in
    rw (e.1, e.2) (subst (Fails c.in_err-step.field-0.0) p.2
    (turn-fails (λ i. item_step (item_shape i)) c.args.items.now c.loop-item.item-index c.item-item.result (state_of c.loop-item.progress p.0)
    c.loop-item-test.true c.item-item.is c.in_err-step.field-0.0 (c.in_err-step.ensures.reached p.0 p.1)))

pub returns : goal.returns
returns c =
    let p = c.loop-item.invariant.reached in
    (p.0, p.1, sym p.2 ∙ turn-end (λ i. item_step (item_shape i)) c.args.items.now c.loop-item.item-index (state_of c.loop-item.progress p.0) c.loop-item-test.false)
