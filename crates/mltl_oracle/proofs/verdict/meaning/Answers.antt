-- The known verdict at the time is the meaning there.
use Rattle.std.proofs.Common.{slice_get, ap, ◌∙◌}
use Rattle.mltl_base.proofs.Settling.{verdict_known}
use Rattle.mltl_oracle.proofs.Shaping.{right_value}
use Rattle.mltl_oracle.proofs.verdict.meaning.Goals as goal

pub returns-clause-meaning : goal.returns-clause-meaning
returns-clause-meaning c = right_value _ _ _ _ (c.at-decided.ensures ∙ ap (λ vs. slice_get vs c.args.t) c.in_ok-vs.ensures.known)

pub returns-clause-in_time : goal.returns-clause-in_time
returns-clause-in_time c = λ l. c.at-decided.ensures ∙ (ap (λ vs. slice_get vs c.args.t) c.in_ok-vs.ensures.known ∙ verdict_known _ _ _ l)
