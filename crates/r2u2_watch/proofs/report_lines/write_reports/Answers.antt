use Rattle.std.proofs.Common.{◌∙◌, ap, refl}
use Rattle.tool_io.specs.declared.host.Place.TheVariants.{Out}
use Rattle.tool_io.proofs.HostLaws.{RoseAt-after, NoFault-then}
use Rattle.tool_io.proofs.LogLaws.{OnLog-none, OnLog-map, OnLog-then}
use Rattle.mltl_base.specs.Lines.{lines_of_reports}
use Rattle.mltl_base.specs.Programs.{output_names}
use Rattle.r2u2_monitor.specs.Monitoring.{program_of, open_in, last_of, read_of}
use Rattle.r2u2_watch.proofs.TellLaws.{HasSent-none, HasSent-more, HasSent-all, HasSent-front, next_line}
use Rattle.r2u2_watch.proofs.report_lines.write_reports.Goals as goal

pub loop-report-init : goal.loop-report-init
loop-report-init g c = record {
  no_fault = λ place. refl;
  program = refl;
  as_many = refl;
  last = refl;
  read = refl;
  stands = λ rows stands. stands;
  log = λ rows stands. OnLog-none _ _ (HasSent-none _);
}

pub returns-then-not-write_report-clause-cause : goal.returns-then-not-write_report-clause-cause
returns-then-not-write_report-clause-cause g c = RoseAt-after _ _ _ Out c.loop-report.invariant.no_fault c.if-not-write_report.ensures.cause

pub returns-then-not-write_report-clause-log : goal.returns-then-not-write_report-clause-log
returns-then-not-write_report-clause-log g c rows stands =
    let was = c.loop-report.invariant in
    let names = output_names (program_of c.args.monitor.now) in
    let same = ap output_names (c.checked.ensures.program ∙ c.next.ensures.program ∙ was.program) in
    let lines = next_line names (output_names c.checked.result.now) (open_in c.args.style c.loop-report.monitor rows) (open_in c.args.style c.next.new.self rows) c.in-Some.report (c.in-Some.ensures.first rows (was.stands rows stands)) same in
    OnLog-then _ _ _ _ (was.log rows stands) c.if-not-write_report.ensures.log (λ first second has fails. HasSent-front _ _ _ _ first second has lines fails)

pub loop-report-preserved : goal.loop-report-preserved
loop-report-preserved g c =
    let was = c.loop-report.invariant in
    let names = output_names (program_of c.args.monitor.now) in
    let same = ap output_names (c.checked.ensures.program ∙ c.next.ensures.program ∙ was.program) in
    record {
      no_fault = NoFault-then _ _ _ was.no_fault c.if-not-write_report.ensures.cause;
      program = c.next.ensures.program ∙ was.program;
      as_many = c.next.ensures.as_many ∙ was.as_many;
      last = c.in-Some.ensures.given.moved.last ∙ was.last;
      read = c.in-Some.ensures.given.moved.read ∙ was.read;
      stands = λ rows stands. c.next.ensures.stands rows (was.stands rows stands);
      log = λ rows stands.
          let lines = next_line names (output_names c.checked.result.now) (open_in c.args.style c.loop-report.monitor rows) (open_in c.args.style c.next.new.self rows) c.in-Some.report (c.in-Some.ensures.first rows (was.stands rows stands)) same in
          OnLog-then _ _ _ _ (was.log rows stands) c.if-not-write_report.ensures.log (λ first second has sends. HasSent-more _ _ _ _ first second has lines sends);
    }

pub returns-clause-log : goal.returns-clause-log
returns-clause-log g c rows stands =
    let was = c.loop-report.invariant in
    let names = output_names (program_of c.args.monitor.now) in
    OnLog-map _ _ _ (was.log rows stands) (λ events has. HasSent-all _ _ events has (ap (lines_of_reports names) (c.in_default.ensures.first rows (was.stands rows stands))))

pub returns-then-not-write_report-clause-as_many : goal.returns-then-not-write_report-clause-as_many
returns-then-not-write_report-clause-as_many g c = c.next.ensures.as_many ∙ c.loop-report.invariant.as_many

pub returns-clause-as_many : goal.returns-clause-as_many
returns-clause-as_many g c = c.next.ensures.as_many ∙ c.loop-report.invariant.as_many

pub returns-then-not-write_report-clause-last : goal.returns-then-not-write_report-clause-last
returns-then-not-write_report-clause-last g c = c.in-Some.ensures.given.moved.last ∙ c.loop-report.invariant.last

pub returns-clause-last : goal.returns-clause-last
returns-clause-last g c = ap last_of c.in_default.ensures.same ∙ c.loop-report.invariant.last

pub returns-then-not-write_report-clause-read : goal.returns-then-not-write_report-clause-read
returns-then-not-write_report-clause-read g c = c.in-Some.ensures.given.moved.read ∙ c.loop-report.invariant.read

pub returns-clause-read : goal.returns-clause-read
returns-clause-read g c = ap read_of c.in_default.ensures.same ∙ c.loop-report.invariant.read
