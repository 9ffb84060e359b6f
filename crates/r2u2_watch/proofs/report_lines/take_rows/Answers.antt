use Rattle.std.proofs.Common.{◌++◌, ◌∷◌, [], subst, replicate}
use Rattle.tool_io.proofs.LogLaws.{OnLog-map, Appends-then}
use Rattle.r2u2_monitor.specs.Monitoring.{program_of, last_of, read_of}
use Rattle.r2u2_watch.specs.Telling.{TellsRows}
use Rattle.r2u2_watch.proofs.TellLaws.{TellsRows-one, TellsFront-more}
use Rattle.r2u2_watch.proofs.report_lines.take_rows.Goals as goal

pub returns-then-not-repeat_row-clause-log : goal.returns-then-not-repeat_row-clause-log
returns-then-not-repeat_row-clause-log g c rows stands =
    OnLog-map _ _ _ (c.if-not-repeat_row.ensures.log rows stands) (λ events front. TellsFront-more _ _ _ _ (read_of c.args.monitor.now ∷ []) _ events front)

pub returns-clause-log : goal.returns-clause-log
returns-clause-log g c rows stands =
    let held = c.if-not-repeat_row.ensures.log rows stands in
    let copies = replicate c.args.copies (last_of c.args.monitor.now) in
    let read = read_of c.repeat_row.new.monitor in
    let program = program_of c.args.monitor.now in
    let takes = c.take_read.ensures.takes in
    let told = c.write_reports.ensures.log ((rows ++ copies) ++ read ∷ []) (takes.stands (rows ++ copies) held.holds.told.stands) in
    record {
      events = held.events ++ told.events;
      appended = Appends-then _ _ _ held.events told.events held.appended told.appended;
      holds = subst (λ r. TellsRows c.write_reports.result program c.args.style rows (copies ++ r ∷ []) c.write_reports.new.monitor (held.events ++ told.events)) c.if-not-repeat_row.ensures.read
          (TellsRows-one c.write_reports.result program c.args.style rows copies read c.repeat_row.new.monitor c.take_read.new.self c.write_reports.new.monitor held.events told.events held.holds takes told.holds c.write_reports.ensures.program (c.write_reports.ensures.stands ((rows ++ copies) ++ read ∷ [])) c.write_reports.ensures.drained);
    }
