use Rattle.std.proofs.Common.{◌∙◌, ap, subst, sym}
use Rattle.tool_io.proofs.LogLaws.{OnLog-none, OnLog-map}
use Rattle.r2u2_monitor.specs.Monitoring.{program_of}
use Rattle.r2u2_monitor.proofs.Keeping.{same_stands}
use Rattle.r2u2_watch.specs.Endings.{why_of}
use Rattle.r2u2_watch.specs.Feed.{text_meaning}
use Rattle.r2u2_watch.specs.Turns.{FindsRow, cut_meaning}
use Rattle.r2u2_watch.proofs.FoundLaws.{takes_row, takes_front, takes_blank, takes_bad, takes_past, writes_none}
use Rattle.r2u2_watch.proofs.trace_loop.Course.take_row.Goals as goal

pub returns-then-take_rows-clause-log : goal.returns-then-take_rows-clause-log
returns-then-take_rows-clause-log g c rows feed stands at =
    let course = c.args.self.now in
    let before = c.args.monitor.now in
    let between = c.read.new.monitor in
    let program = program_of before in
    let finds = subst (λ text. FindsRow c.in-Row.copies c.in-Row.reader (text_meaning program course.mission feed text) course.lines rows before between) c.line.ensures (c.in-Row.ensures.told rows feed stands at) in
    OnLog-map _ _ _ (c.if-take_rows.ensures.log rows (same_stands before between rows c.read.ensures.same stands))
    (λ events tells. takes_row c.in-Row.copies c.args.cut.now.number (cut_meaning program course feed c.args.cut.now) course _ rows before between c.take_rows.new.monitor events finds c.read.ensures.same tells)

pub returns-else-take_rows-clause-log : goal.returns-else-take_rows-clause-log
returns-else-take_rows-clause-log g c rows feed stands at =
    let course = c.args.self.now in
    let before = c.args.monitor.now in
    let between = c.read.new.monitor in
    let program = program_of before in
    let finds = subst (λ text. FindsRow c.in-Row.copies c.in-Row.reader (text_meaning program course.mission feed text) course.lines rows before between) c.line.ensures (c.in-Row.ensures.told rows feed stands at) in
    OnLog-map _ _ _ (c.if-take_rows.ensures.log rows (same_stands before between rows c.read.ensures.same stands))
    (λ events tells. takes_front c.in-Row.copies c.args.cut.now.number (cut_meaning program course feed c.args.cut.now) c.in-Row.reader course _ rows before between c.take_rows.new.monitor events finds c.read.ensures.same tells)

pub returns-in-Blank-clause-log : goal.returns-in-Blank-clause-log
returns-in-Blank-clause-log g c rows feed stands at =
    let course = c.args.self.now in
    let before = c.args.monitor.now in
    let program = program_of before in
    OnLog-none _ _ (takes_blank feed c.args.cut.now.number (cut_meaning program course feed c.args.cut.now) program course rows c.read.new.monitor
    (ap (text_meaning program course.mission feed) (sym c.line.ensures) ∙ c.in-Blank.ensures.told rows feed stands at) at
    (writes_none rows before c.read.new.monitor c.read.ensures.same stands c.requires.under_way.drained))

pub returns-in-Bad-clause-log : goal.returns-in-Bad-clause-log
returns-in-Bad-clause-log g c rows feed stands at =
    let course = c.args.self.now in
    let before = c.args.monitor.now in
    let program = program_of before in
    OnLog-none _ _ (takes_bad (cut_meaning program course feed c.args.cut.now) c.args.cut.now.number c.number.result (why_of c.in-Bad.fault) program course course rows c.read.new.monitor
    (ap (text_meaning program course.mission feed) (sym c.line.ensures) ∙ c.in-Bad.ensures.told rows feed stands at) c.number.ensures
    (writes_none rows before c.read.new.monitor c.read.ensures.same stands c.requires.under_way.drained))

pub returns-in-Past-clause-log : goal.returns-in-Past-clause-log
returns-in-Past-clause-log g c rows feed stands at =
    let course = c.args.self.now in
    let before = c.args.monitor.now in
    let program = program_of before in
    OnLog-none _ _ (takes_past (cut_meaning program course feed c.args.cut.now) c.args.cut.now.number program course course rows c.read.new.monitor
    (ap (text_meaning program course.mission feed) (sym c.line.ensures) ∙ c.in-Past.ensures.told rows feed stands at)
    (writes_none rows before c.read.new.monitor c.read.ensures.same stands c.requires.under_way.drained))
