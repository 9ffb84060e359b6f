use Rattle.std.proofs.Common.{ℕ, Bool, if◌then◌else◌, List, subst, sym}
use Rattle.r2u2_monitor.specs.Monitoring.{program_of}
use Rattle.tool_io.proofs.LogLaws.{OnLog-map}
use Rattle.r2u2_watch.specs.Trace.{stamped_rows, trace_rows}
use Rattle.r2u2_watch.specs.Watch.{IsWatch, first_of}
use Rattle.r2u2_cli.proofs.trace_run.watch_asked.Goals as goal

pub returns-then-asked-clause-log : goal.returns-then-asked-clause-log
returns-then-asked-clause-log g c =
    let asked = c.args.asked.now in
    let cut = c.args.cut.now in
    let program = program_of c.args.monitor.now in
    OnLog-map _ _ _ c.watch_timed.ensures.log
    (λ events watch. subst (λ (timed : Bool). IsWatch program asked.style (λ (raws : List (List ℕ)). if timed then stamped_rows program asked.mission (first_of cut) raws else trace_rows program asked.mission (first_of cut) raws) cut c.watch_timed.new.cut c.watch_timed.new.monitor c.watch_timed.result events) (sym c.if-asked.true) watch)

pub returns-else-asked-clause-log : goal.returns-else-asked-clause-log
returns-else-asked-clause-log g c =
    let asked = c.args.asked.now in
    let cut = c.args.cut.now in
    let program = program_of c.args.monitor.now in
    OnLog-map _ _ _ c.watch.ensures.log
    (λ events watch. subst (λ (timed : Bool). IsWatch program asked.style (λ (raws : List (List ℕ)). if timed then stamped_rows program asked.mission (first_of cut) raws else trace_rows program asked.mission (first_of cut) raws) cut c.watch.new.cut c.watch.new.monitor c.watch.result events) (sym c.if-asked.false) watch)
