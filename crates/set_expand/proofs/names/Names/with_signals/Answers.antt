use Rattle.std.proofs.Common.{◌≡◌, ◌+◌, ◌∙◌, Some, drop, slice_get, refl, sym, ap, arith}
use Rattle.c2po_types.specs.Outputs.{with_signals}
use Rattle.c2po_types.specs.Environment.{declare, value, signal_value}
use Rattle.c2po_types.proofs.Members.{found_at}
use Rattle.set_expand.specs.Names.{env_now}
use Rattle.set_expand.proofs.Stepping.{signals-next, signals-end, below-more, signals_named}
use Rattle.set_expand.proofs.names.Names.with_signals.Goals as goal

pub loop-name-init : goal.loop-name-init
loop-name-init c = record {
  env = ap (λ k. with_signals k (signals_named c.args.signals.now c.args.truth) (env_now c.args.self)) (omega arith);
  below = λ h. h;
  kept = λ nodes h. h;
  number = omega arith;
}

pub loop-name-preserved : goal.loop-name-preserved
loop-name-preserved c =
    let xs = c.args.signals.now in
    let b = c.args.truth in
    let i = c.loop-name.name-index in
    let x = c.name-item.result in
    let h = c.loop-name.invariant in
    let made = c.in_ok-names.ensures in
    let at : slice_get xs i ≡ Some x = found_at xs xs i x refl c.loop-name-test.true c.name-item.is in
    let now : env_now c.in_ok-names.names ≡ declare x (value (signal_value b (c.args.from + i))) (env_now c.loop-name.names) =
    made.env ∙ ap (λ k. declare x (value (signal_value b k)) (env_now c.loop-name.names)) h.number in record {
      env = ap (with_signals (c.args.from + (i + 1)) (drop (i + 1) (signals_named xs b))) now
          ∙ (sym (signals-next xs b i c.args.from x (env_now c.loop-name.names) at) ∙ h.env);
      below = λ begins.
          made.below (c.loop-name.number + 1) (below-more c.loop-name.number (c.loop-name.number + 1) c.loop-name.names (omega arith) (h.below begins)) (omega arith);
      kept = λ nodes begins. made.kept nodes (h.kept nodes begins);
      number = omega (arith, h.number);
    }

pub returns-clause-env : goal.returns-clause-env
returns-clause-env c =
    sym (signals-end c.args.signals.now c.args.truth c.loop-name.name-index c.args.from (env_now c.loop-name.names) c.loop-name-test.false)
    ∙ c.loop-name.invariant.env

pub returns-clause-below : goal.returns-clause-below
returns-clause-below c = c.loop-name.invariant.below
