use Rattle.tool_io.proofs.LogLaws.{OnLog-map, OnLog-then}
use Rattle.c2po_cli.specs.Asking.{ask}
use Rattle.c2po_cli.proofs.MainLaws.{main_ran}
use Rattle.c2po_cli.proofs.ShownRuns.{shows_program}
use Rattle.c2po_cli.proofs.SmallerPrograms.{needs_no_more}
use Rattle.c2po_cli.proofs.UpgradedFiles.{upgrades_program}
use Rattle.c2po_cli.proofs.c2po_run.c2po_main.Goals as goal

pub returns-clause-log : goal.returns-clause-log
returns-clause-log g c =
    OnLog-then _ _ _ _ c.run-status.ensures.log c.tell_user.ensures.log
    (λ first second ran told. main_ran _ _ _ _ _ first second c.tell_user.result ran c.run-status.ensures.cause c.tell_user.ensures.cause told)

pub returns-clause-returns : goal.returns-clause-returns
returns-clause-returns g c = OnLog-map _ _ _ (returns-clause-log g c) (λ events is. shows_program (ask c.args.words.now) c.run-status.result events is.outcome)

pub returns-clause-upgraded : goal.returns-clause-upgraded
returns-clause-upgraded g c = OnLog-map _ _ _ (returns-clause-log g c) (λ events is. upgrades_program (ask c.args.words.now) c.run-status.result events is.outcome)

pub returns-clause-smaller : goal.returns-clause-smaller
returns-clause-smaller g c = OnLog-map _ _ _ (returns-clause-log g c) (λ events is. needs_no_more (ask c.args.words.now) c.run-status.result events is.outcome)
