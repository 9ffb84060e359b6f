use Rattle.std.proofs.Common.{subst}
use Rattle.tool_words.specs.C2poWords.{asked_of}
use Rattle.tool_io.proofs.LogLaws.{OnLog-none, OnLog-map}
use Rattle.c2po_cli.specs.Asking.{ask}
use Rattle.c2po_cli.specs.Run.{Ran}
use Rattle.c2po_cli.proofs.AskedRuns.{asked_served, run_helped, run_no_memory, run_usage}
use Rattle.c2po_cli.proofs.c2po_run.run.Goals as goal

pub returns-in-Ok-clause-usage : goal.returns-in-Ok-clause-usage
returns-in-Ok-clause-usage g c some =
    let told = c.run_asked.ensures.log in
    let ran = subst (λ asked. Ran asked c.run_asked.result told.events) (asked_served (asked_of c.in-Ok.asked) c.args.words.now c.in-Ok.ensures) told.holds in
    run_usage (ask c.args.words.now) c.run_asked.result told.events ran some

pub returns-in-Ok-clause-helped : goal.returns-in-Ok-clause-helped
returns-in-Ok-clause-helped g c is =
    let told = c.run_asked.ensures.log in
    let ran = subst (λ asked. Ran asked c.run_asked.result told.events) (asked_served (asked_of c.in-Ok.asked) c.args.words.now c.in-Ok.ensures) told.holds in
    run_helped (ask c.args.words.now) c.run_asked.result told.events ran is

pub returns-in-Ok-clause-log : goal.returns-in-Ok-clause-log
returns-in-Ok-clause-log g c =
    OnLog-map _ _ _ c.run_asked.ensures.log
    (λ events ran. subst (λ asked. Ran asked c.run_asked.result events) (asked_served (asked_of c.in-Ok.asked) c.args.words.now c.in-Ok.ensures) ran)

pub returns-in-Err-clause-log : goal.returns-in-Err-clause-log
returns-in-Err-clause-log g c = OnLog-none _ _ (run_no_memory (ask c.args.words.now))
