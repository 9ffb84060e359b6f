use Rattle.std.proofs.Common.{false}
use Rattle.tool_io.specs.Log.{Prompt}
use Rattle.tool_io.proofs.LogLaws.{OnLog-map}
use Rattle.r2u2_monitor.specs.Monitoring.{program_of}
use Rattle.r2u2_watch.specs.Trace.{due, fed_rows}
use Rattle.r2u2_watch.specs.Turns.{begins_at}
use Rattle.r2u2_watch.specs.Watch.{first_of}
use Rattle.r2u2_watch.proofs.Completing.{completes_on}
use Rattle.r2u2_watch.proofs.trace_loop.watch.Goals as goal

pub returns-clause-completes : goal.returns-clause-completes
returns-clause-completes g c =
    rw (c.new-course.ensures.reader, c.new-course.ensures.mission) at
    (completes_on c.turns.result (program_of c.args.monitor.now) c.new-course.result.style
    (fed_rows (begins_at c.new-course.result.reader) (program_of c.args.monitor.now) c.new-course.result.mission (first_of c.args.cut.now))
    c.args.cut.now c.turns.new.cut c.turns.new.monitor _ _ _ _ c.turns.ensures.cause c.turns.ensures.log)

pub returns-clause-prompt : goal.returns-clause-prompt
returns-clause-prompt g c =
    rw (c.new-course.ensures.reader, c.new-course.ensures.mission, c.new-course.ensures.style) at
    (OnLog-map _ _ (Prompt (due (program_of c.args.monitor.now) c.new-course.result.style
    (fed_rows (begins_at c.new-course.result.reader) (program_of c.args.monitor.now) c.new-course.result.mission (first_of c.args.cut.now)) false)
    c.args.cut.now.pending) c.turns.ensures.log (λ events is. is.prompt))
