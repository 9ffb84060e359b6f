use Rattle.std.proofs.Common.{subst}
use Rattle.tool_words.specs.R2u2Words.{ask}
use Rattle.tool_io.proofs.LogLaws.{OnLog-none, OnLog-map}
use Rattle.r2u2_cli.specs.Run.{Ran}
use Rattle.r2u2_cli.proofs.AskedRuns.{run_helped, run_no_memory, run_usage}
use Rattle.r2u2_cli.proofs.r2u2_run.run.Goals as goal

pub returns-in-Ok-clause-usage : goal.returns-in-Ok-clause-usage
returns-in-Ok-clause-usage g c some =
    let told = c.run_asked.ensures.log in
    let ran = subst (λ asked. Ran asked c.run_asked.result c.run_asked.new.kept told.events) c.in-Ok.ensures.asked told.holds in
    run_usage (ask c.args.words.now) c.run_asked.result c.run_asked.new.kept told.events ran some

pub returns-in-Ok-clause-helped : goal.returns-in-Ok-clause-helped
returns-in-Ok-clause-helped g c is =
    let told = c.run_asked.ensures.log in
    let ran = subst (λ asked. Ran asked c.run_asked.result c.run_asked.new.kept told.events) c.in-Ok.ensures.asked told.holds in
    run_helped (ask c.args.words.now) c.run_asked.result c.run_asked.new.kept told.events ran is

pub returns-in-Ok-clause-log : goal.returns-in-Ok-clause-log
returns-in-Ok-clause-log g c =
    OnLog-map _ _ _ c.run_asked.ensures.log
    (λ events ran. subst (λ asked. Ran asked c.run_asked.result c.run_asked.new.kept events) c.in-Ok.ensures.asked ran)

pub returns-in-Err-clause-log : goal.returns-in-Err-clause-log
returns-in-Err-clause-log g c = OnLog-none _ _ (rw c.requires.none_kept (run_no_memory (ask c.args.words.now)))
