use Rattle.std.proofs.Common.{ap, subst, sym}
use Rattle.tool_words.specs.C2poWords.{asked_of}
use Rattle.tool_io.proofs.LogLaws.{OnLog-none, OnLog-map}
use Rattle.c2po_cli.specs.Asking.{make, served}
use Rattle.c2po_cli.specs.Run.{Ran}
use Rattle.c2po_cli.proofs.AskedRuns.{run_help, run_nothing}
use Rattle.c2po_cli.proofs.c2po_run.run_asked.Goals as goal

pub returns-in-Help-clause-log : goal.returns-in-Help-clause-log
returns-in-Help-clause-log g c =
    OnLog-map _ _ _ c.give_help.ensures.log
    (λ events told. subst (λ asked. Ran (served (asked_of asked)) c.give_help.result events) (sym c.in-Help.is) (run_help c.give_help.result events told))

pub returns-in-Compile-clause-log : goal.returns-in-Compile-clause-log
returns-in-Compile-clause-log g c =
    OnLog-map _ _ _ c.make.ensures.log
    (λ events ran. subst (λ asked. Ran (served (asked_of asked)) c.make.result events) (sym c.in-Compile.is) (subst (λ made. Ran (make made) c.make.result events) c.compilation.ensures.made ran))

pub returns-in-Upgrade-clause-log : goal.returns-in-Upgrade-clause-log
returns-in-Upgrade-clause-log g c =
    OnLog-map _ _ _ c.make-in-Upgrade.ensures.log
    (λ events ran. subst (λ asked. Ran (served (asked_of asked)) c.make-in-Upgrade.result events) (sym c.in-Upgrade.is) (subst (λ made. Ran (make made) c.make-in-Upgrade.result events) c.upgrading.ensures.made ran))

pub returns-in-Show-clause-log : goal.returns-in-Show-clause-log
returns-in-Show-clause-log g c =
    OnLog-map _ _ _ c.make-in-Show.ensures.log
    (λ events ran. subst (λ asked. Ran (served (asked_of asked)) c.make-in-Show.result events) (sym c.in-Show.is) (subst (λ made. Ran (make made) c.make-in-Show.result events) c.showing.ensures.made ran))

pub returns-in-Nothing-clause-log : goal.returns-in-Nothing-clause-log
returns-in-Nothing-clause-log g c = OnLog-none _ _ (run_nothing (served (asked_of c.args.asked)) (ap (λ asked. served (asked_of asked)) c.in-Nothing.is))
