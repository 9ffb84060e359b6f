use Rattle.std.proofs.Common.{None, ap, subst, sym}
use Rattle.tool_words.specs.R2u2Words.{asked_of}
use Rattle.tool_io.proofs.LogLaws.{OnLog-none, OnLog-map}
use Rattle.r2u2_cli.specs.Run.{Ran}
use Rattle.r2u2_cli.proofs.AskedRuns.{run_demo, run_help, run_nothing}
use Rattle.r2u2_cli.proofs.r2u2_run.run_asked.Goals as goal

pub returns-in-Help-clause-log : goal.returns-in-Help-clause-log
returns-in-Help-clause-log g c =
    OnLog-map _ _ _ c.give_help.ensures.log
    (λ events told. rw c.requires.none_kept (subst (λ asked. Ran (asked_of asked) c.give_help.result None events) (sym c.in-Help.is) (run_help c.give_help.result events told)))

pub returns-in-Run-clause-log : goal.returns-in-Run-clause-log
returns-in-Run-clause-log g c =
    OnLog-map _ _ _ c.run_file.ensures.log
    (λ events ran. subst (λ asked. Ran (asked_of asked) c.run_file.result c.run_file.new.kept events) (sym c.in-Run.is) ran)

pub returns-in-Demo-clause-log : goal.returns-in-Demo-clause-log
returns-in-Demo-clause-log g c =
    OnLog-map _ _ _ c.give_demo.ensures.log
    (λ events told. subst (λ asked. Ran (asked_of asked) c.give_demo.result c.give_demo.new.kept events) (sym c.in-Demo.is) (run_demo c.in-Demo.seed c.in-Demo.rows c.give_demo.result c.give_demo.new.kept events told))

pub returns-in-Nothing-clause-log : goal.returns-in-Nothing-clause-log
returns-in-Nothing-clause-log g c = OnLog-none _ _ (rw c.requires.none_kept (run_nothing (asked_of c.args.asked) (ap asked_of c.in-Nothing.is)))
