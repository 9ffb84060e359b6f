use Rattle.tool_io.proofs.LogLaws.{OnLog-then}
use Rattle.r2u2_cli.proofs.MainLaws.{main_ran}
use Rattle.r2u2_cli.proofs.r2u2_run.r2u2_main.Goals as goal

pub returns-clause-log : goal.returns-clause-log
returns-clause-log g c =
    OnLog-then _ _ _ _ c.run-status.ensures.log c.tell_user.ensures.log
    (λ first second ran told. main_ran _ _ _ _ _ _ first second c.tell_user.result ran c.run-status.ensures.cause c.tell_user.ensures.cause told)
