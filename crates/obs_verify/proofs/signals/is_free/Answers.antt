use Rattle.std.proofs.Common.{◌∙◌, ap, sym, false}
use Rattle.std.specs.Prelude.{◌&&◌, not}
use Rattle.std.proofs.lemmas.Bool.{lt-ltb}
use Rattle.obs_verify.proofs.SignalLaws.{either_kind, true_and}
use Rattle.obs_verify.proofs.signals.is_free.Goals as goal

pub returns-clause-free : goal.returns-clause-free
returns-clause-free c = λ earlier known.
    let here = known c.args.signal.now.column (record { whole = false; truth = false }) c.if-signal-kinds.false in
    c.is_empty.ensures ∙ ap (λ k. not k.whole && not k.truth) here ∙ either_kind earlier c.args.signal.now.column ∙ sym (true_and _ _ (lt-ltb _ _ c.if-signal-kinds.false))
