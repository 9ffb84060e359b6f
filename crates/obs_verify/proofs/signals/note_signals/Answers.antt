use Rattle.std.proofs.Common.{◌≡◌, ◌∙◌, ap, sym, refl, subst, None, ◌+◌, ◌++◌, ◌∷◌, [], List, take, length}
use Rattle.std.proofs.lemmas.List.{take_more}
use Rattle.std.proofs.lemmas.Result.{err_from_is_err_and}
use Rattle.mltl_base.specs.declared.program.StoredSignal.{StoredSignal}
use Rattle.obs_verify.specs.Kinds.{AreKinds, AreNames}
use Rattle.obs_verify.specs.WellFormed.{first_in, signal_fault}
use Rattle.obs_verify.proofs.RuleLaws.{first_all, first_here, first_more}
use Rattle.obs_verify.proofs.SignalLaws.{signal_rule}
use Rattle.obs_verify.proofs.signals.note_signals.Goals as goal

pub returns-in_err-check_signal-clause-answer : goal.returns-in_err-check_signal-clause-answer
returns-in_err-check_signal-clause-answer c =
    let p = err_from_is_err_and c.from_residual.result c.from_residual.ensures.1 in
    let items : List StoredSignal = c.as_slice-signal-items.result.now in
    rw (p.1, p.2) (λ other. ap (first_in (signal_fault c.args.program.now) 0) (sym c.as_slice-signal-items.ensures) ∙ sym c.loop-k.invariant.passed
    ∙ first_here (signal_fault c.args.program.now) items c.loop-k.k c.signal-item.result c.in_err-check_signal.field-0.0 c.loop-k-test.true
    (ap (signal_fault c.args.program.now c.loop-k.k) (sym c.signal-item.is)
    ∙ signal_rule c.args.program.now items (length c.loop-k.kinds) c.loop-k.k c.signal-item.result _ c.as_slice-signal-items.ensures (c.loop-k.auto.kinds ∙ c.requires.same)
    (c.in_err-check_signal.ensures.answer (take c.loop-k.k items) c.loop-k.invariant.kinds c.loop-k.invariant.names other)))

pub loop-k-preserved : goal.loop-k-preserved
loop-k-preserved c =
    let items : List StoredSignal = c.as_slice-signal-items.result.now in
    let more : take (c.loop-k.k + 1) items ≡ take c.loop-k.k items ++ c.signal-item.result ∷ [] =
    take_more items c.loop-k.k c.signal-item.result c.loop-k-test.true ∙ ap (λ s. take c.loop-k.k items ++ s ∷ []) (sym c.signal-item.is) in
    record {
      passed = sym (first_more (signal_fault c.args.program.now) items c.loop-k.k c.signal-item.result c.loop-k-test.true
          (ap (signal_fault c.args.program.now c.loop-k.k) (sym c.signal-item.is)
          ∙ signal_rule c.args.program.now items (length c.loop-k.kinds) c.loop-k.k c.signal-item.result None c.as_slice-signal-items.ensures (c.loop-k.auto.kinds ∙ c.requires.same)
          (c.in_ok-check_signal.ensures.answer (take c.loop-k.k items) c.loop-k.invariant.kinds c.loop-k.invariant.names)))
          ∙ c.loop-k.invariant.passed;
      kinds = subst (λ (earlier : List StoredSignal). AreKinds earlier c.note_kind.new.kinds) (sym more) (c.note_kind.ensures (take c.loop-k.k items) c.signal-item.result c.loop-k.invariant.kinds refl refl);
      names = subst (λ (earlier : List StoredSignal). AreNames earlier c.check_signal.new.names) (sym more) (c.in_ok-check_signal.ensures.names (take c.loop-k.k items) c.loop-k.invariant.names);
    }

pub returns-clause-answer : goal.returns-clause-answer
returns-clause-answer c = ap (first_in (signal_fault c.args.program.now) 0) (sym c.as_slice-signal-items.ensures) ∙ sym c.loop-k.invariant.passed
    ∙ first_all (signal_fault c.args.program.now) c.as_slice-signal-items.result.now c.loop-k.k c.loop-k-test.false
