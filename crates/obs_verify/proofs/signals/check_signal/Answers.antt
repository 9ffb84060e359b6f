use Rattle.std.proofs.Common.{◌∙◌, ap, sym}
use Rattle.std.specs.Prelude.{not}
use Rattle.obs_verify.proofs.SignalLaws.{unless_both, unless_left}
use Rattle.obs_verify.proofs.signals.check_signal.Goals as goal

pub returns-then-not-is_free-clause-answer : goal.returns-then-not-is_free-clause-answer
returns-then-not-is_free-clause-answer c = λ earlier kinds names other. unless_left _ _ _ (sym (c.if-not-is_free.ensures.free earlier kinds))

pub returns-clause-answer : goal.returns-clause-answer
returns-clause-answer c = λ earlier kinds names.
    unless_both _ _ _ (sym (c.if-not-is_free.ensures.free earlier kinds)) (let h = c.in_ok-insert_name.ensures.new in let k = c.if-not-branch.false in let m = names c.args.signal.now.name in sym (ap not m) ∙ sym h ∙ k)
