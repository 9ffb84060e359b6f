use Rattle.std.proofs.Common.{subst}
use Rattle.r2u2_monitor.specs.Monitoring.{program_of}
use Rattle.r2u2_watch.specs.Turns.{ReaderIsAt}
use Rattle.r2u2_watch.proofs.FoundLaws.{plain_read, stamped_read}
use Rattle.r2u2_watch.proofs.trace_loop.Course.read.Goals as goal

pub returns-in-Plain-clause-told : goal.returns-in-Plain-clause-told
returns-in-Plain-clause-told c rows feed stands at =
    let course = c.args.self.now in
    plain_read feed c.read_fields.result (program_of c.args.monitor.now) course.mission course.lines c.args.line.now rows c.args.monitor.now c.read_fields.new.monitor
    (subst (λ r. ReaderIsAt feed r course.lines rows) c.in-Plain.is at) c.read_fields.ensures.told

pub returns-in-Stamped-clause-told : goal.returns-in-Stamped-clause-told
returns-in-Stamped-clause-told c rows feed stands at =
    let course = c.args.self.now in
    stamped_read feed c.in-Stamped.last c.read_stamped.result (program_of c.args.monitor.now) course.mission course.lines c.args.line.now rows c.args.monitor.now c.read_stamped.new.monitor
    (subst (λ r. ReaderIsAt feed r course.lines rows) c.in-Stamped.is at) (λ last is same. c.read_stamped.ensures.told course.lines rows last stands is same)
