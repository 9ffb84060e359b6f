use Rattle.std.proofs.Common.{◌≡◌, ◌∙◌, subst}
use Rattle.tool_io.specs.declared.host.Place.TheVariants as at
use Rattle.tool_io.specs.Log.{given, taken}
use Rattle.tool_words.specs.declared.status.Status.TheVariants.{Done}
use Rattle.api_tests.specs.Joined.{HasMade, HasRun, Requests, ReportsRequested}
use Rattle.api_tests.proofs.Runs.{compiled_is, made_is, watched_is, where_together}
use Rattle.api_tests.proofs.joined.compile_and_watch.Goals as goal

pub returns-in-Done-clause-reports : goal.returns-in-Done-clause-reports
returns-in-Done-clause-reports c =
    let making = c.args.making.now in
    let running = c.args.watching.now in
    let maker = c.c2po_main.new.host in
    let old = c.args.watcher.now.host in
    let watcher = c.watch_program-ended.new.watcher.host in
    let made : HasMade making Done c.args.maker.now maker = made_is making Done c.args.maker.now maker c.requires.new.0 c.in-Done.ensures.cause c.in-Done.ensures.log in
    where_together c.watch_program-ended.result (λ status. HasRun running status old watcher) (λ status. taken at.Program watcher.tape.events ≡ c.out.result.now)
    (λ status. status ≡ Done → (asked : Requests making running) → ReportsRequested asked maker.tape.events watcher.tape.events)
    (λ status ran read done asked. c.compiled_and_watched.ensures _ _ _ _ _ _ _ _ (compiled_is making running asked c.args.maker.now maker made)
    (watched_is making running asked (given at.Out maker.tape.events) old watcher (subst (λ ended. HasRun running ended old watcher) done ran) (read ∙ c.out.ensures)))
    c.watch_program-ended.ensures.ran c.watch_program-ended.ensures.together
