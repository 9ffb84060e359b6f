use Rattle.std.proofs.Common.{arith, refl, sym, ◌∙◌}
use Rattle.std.proofs.lemmas.Bool.Decides.{nat_tests}
use Rattle.std.specs.declared.ops.ControlFlow.TheVariants.{Continue, Break}
use Rattle.tool_io.proofs.LogLaws.{OnLog-map}
use Rattle.r2u2_monitor.specs.Monitoring.{program_of}
use Rattle.r2u2_watch.specs.Endings.{watched_of}
use Rattle.r2u2_watch.proofs.LineTurns.{Turns-step, stopped, took_line}
use Rattle.r2u2_watch.proofs.trace_loop.Course.next_line.Goals as goal

pub returns-in_ok-take_row-in-Row-3-clause-log : goal.returns-in_ok-take_row-in-Row-3-clause-log
returns-in_ok-take_row-in-Row-3-clause-log g c rows feed stands at =
    Turns-step (Continue tt) _ _ _ (program_of c.args.monitor.now) c.args.self.now _ feed rows _ _ _ c.in-Row.ensures.log
    (OnLog-map _ _ _ (c.in_ok-take_row-in-Row-3.ensures.log rows feed stands at)
    (λ events takes. took_line (program_of c.args.monitor.now) c.args.self.now c.take_row.new.self _ feed rows c.next_line.new.self c.take_row.new.monitor events
    (record { within = grind (arith, nat_tests, c.requires.within, c.if-self.false); no_header = sym c.is_header.ensures ∙ c.if-is_header.false }) c.take_row.ensures.moves refl refl refl refl takes))

pub returns-in_err-take_row-in-Row-3-clause-log : goal.returns-in_err-take_row-in-Row-3-clause-log
returns-in_err-take_row-in-Row-3-clause-log g c rows feed stands at =
    let ended = watched_of c.in_err-take_row-in-Row-3.field-0.0 in
    let program = program_of c.args.monitor.now in
    rw c.from_residual.ensures
    (Turns-step (Break ended) _ _ _ program c.args.self.now c.take_row.new.self feed rows _ _ _ c.in-Row.ensures.log
    (OnLog-map _ _ _ (c.in_err-take_row-in-Row-3.ensures.log rows feed stands at)
    (λ events takes. stopped ended program c.args.self.now c.take_row.new.self feed rows c.next_line.new.self c.take_row.new.monitor events
    (record { counts = record { within = grind (arith, nat_tests, c.requires.within, c.if-self.false); no_header = sym c.is_header.ensures ∙ c.if-is_header.false }; takes = takes }))))
