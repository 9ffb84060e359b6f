-- The operand lists are seen as they are, or negated.
use Rattle.std.proofs.Common.{ap, ◌∙◌}
use Rattle.mltl_base.specs.Kleene.{k_not}
use Rattle.mltl_oracle.proofs.verdict.between_at.Goals as goal

pub returns-in-U : goal.returns-in-U
returns-in-U c = rw c.in-U.is c.until.ensures

pub returns-in-R : goal.returns-in-R
returns-in-R c = rw c.in-R.is (c.not.ensures ∙ ap k_not c.until-in-R.ensures)
