use Rattle.std.proofs.Common.{◌∙◌, sym, subst}
use Rattle.c2po_types.specs.Environment.{declare, value, signal_value}
use Rattle.c2po_types.specs.Holding.{StandsFor}
use Rattle.c2po_types.proofs.Outcome.{signals-more, signals-end}
use Rattle.c2po_types.proofs.steps.add_signals.Goals as goal

pub loop-number-preserved : goal.loop-number-preserved
loop-number-preserved c =
    let s = c.index-signals-number.result in
    let k = c.loop-number.number in record {
      stand = λ env stands. let p = c.loop-number.invariant.stand env stands in (
        declare s.name (value (signal_value s.truth k)) p.0,
        c.in_ok-add_signal.ensures p.0 k p.1,
        sym (signals-more c.args.signals.now k s p.0 c.loop-number-test.true c.index-signals-number.is) ∙ p.2,
      );
    }

pub returns-clause-added : goal.returns-clause-added
returns-clause-added c = λ env stands.
    let p = c.loop-number.invariant.stand env stands in
    subst (StandsFor c.loop-number.values) (sym (signals-end c.args.signals.now c.loop-number.number p.0 c.loop-number-test.false) ∙ p.2) p.1
