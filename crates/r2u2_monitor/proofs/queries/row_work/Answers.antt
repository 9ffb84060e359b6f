use Rattle.std.proofs.Common.{subst, sym}
use Rattle.obs_verify.specs.Running.{RunsPast}
use Rattle.obs_verify.proofs.RunLaws.{runs_past}
use Rattle.r2u2_monitor.proofs.queries.row_work.Goals as goal

pub taking_steps-requires-clause-past : goal.taking_steps-requires-clause-past
taking_steps-requires-clause-past c =
    subst RunsPast (sym c.program-program.ensures.program) (runs_past c.args.checked.now c.program-program.ensures.layout c.program-program.ensures.well_formed)
