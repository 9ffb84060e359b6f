-- The operand of a negation, or one more vertex.
use Rattle.std.proofs.Common.{sym, ◌∙◌}
use Rattle.std.proofs.lemmas.Option.{same_Some}
use Rattle.std.proofs.lemmas.Result.{IfOk-weaker}
use Rattle.core_graph.proofs.Forests.{not_operand, not_added}
use Rattle.core_graph.proofs.forest.Forest.negation.Goals as goal

pub returns-in-Not-clause-has : goal.returns-in-Not-clause-has
returns-in-Not-clause-has c = λ p h. not_operand c.args.self.now c.args.a c.in-Not.b c.requires.forest c.in-Not.ensures p h

pub returns-in_default : goal.returns-in_default
returns-in_default c = record {
  grows = c.share.ensures.grows;
  has = λ p h. IfOk-weaker c.share.result _ _
      (λ n g. not_added c.args.self.now c.share.new.self c.args.a n c.requires.forest (λ b e. c.in_default.not-Not b (same_Some _ _ (sym c.get.ensures ∙ e))) g p h)
      c.share.ensures.has;
}
