use Rattle.std.proofs.Common.{rules, ◌∙◌, ap, sym}
use Rattle.mltl_base.specs.Queues.{worst_delays}
use Rattle.obs_verify.specs.WellFormed.{first_in, late_fault}
use Rattle.obs_verify.proofs.SoundLaws.{first_late, none_late}
use Rattle.obs_verify.proofs.rules.check_delays.Goals as goal

pub returns-in-Ok-clause-answer : goal.returns-in-Ok-clause-answer
returns-in-Ok-clause-answer c = ap (first_in late_fault 0) (sym c.in-Ok.ensures.worst) ∙ none_late c.in-Ok.found.worst c.in-Ok.ensures.in_time

pub returns-in-Err-TooLate-clause-answer : goal.returns-in-Err-TooLate-clause-answer
returns-in-Err-TooLate-clause-answer c = λ other. first_late (worst_delays c.args.program.now.ft) c.in-Err-TooLate.i (c.in-Err-TooLate.ensures.too_late c.in-Err-TooLate.i (search rules))
