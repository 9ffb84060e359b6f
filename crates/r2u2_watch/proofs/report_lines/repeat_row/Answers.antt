use Rattle.std.proofs.Common.{◌≡◌, ◌∙◌, ◌+◌, ◌++◌, ◌∷◌, [], refl, false, true, arith, ap, subst, replicate}
use Rattle.std.proofs.lemmas.List.{replicate_more}
use Rattle.tool_io.proofs.HostLaws.{NoFault-then}
use Rattle.tool_io.proofs.LogLaws.{OnLog-none, OnLog-map, Appends-then}
use Rattle.r2u2_monitor.specs.Monitoring.{program_of, last_of}
use Rattle.r2u2_watch.specs.Telling.{TellsAll, TellsRows}
use Rattle.r2u2_watch.proofs.TellLaws.{TellsAll-none, TellsRows-one, TellsFront-held}
use Rattle.r2u2_watch.proofs.report_lines.repeat_row.Goals as goal

pub loop-done-init : goal.loop-done-init
loop-done-init g c = record {
  no_fault = λ place. refl;
  program = refl;
  taken = omega arith;
  last = refl;
  read = refl;
  drained = c.requires.drained;
  log = λ rows stands. OnLog-none _ _ (TellsAll-none _ _ rows _ (record { program_kept = refl; stands = stands; drained = c.requires.drained }));
}

pub returns-then-not-write_reports-clause-log : goal.returns-then-not-write_reports-clause-log
returns-then-not-write_reports-clause-log g c rows stands =
    let was = c.loop-done.invariant in
    let log = was.log rows stands in
    let row = last_of c.args.monitor.now in
    let copies = replicate c.loop-done.done row in
    let last = last_of c.loop-done.monitor in
    let program = program_of c.args.monitor.now in
    let takes = c.repeat_last.ensures.takes in
    let told = c.if-not-write_reports.ensures.log ((rows ++ copies) ++ last ∷ []) (takes.stands (rows ++ copies) log.holds.told.stands) in
    let front : TellsRows false program c.args.style rows (copies ++ last ∷ []) c.write_reports.new.monitor (log.events ++ told.events) = TellsRows-one false program c.args.style rows copies last c.loop-done.monitor c.repeat_last.new.self c.write_reports.new.monitor log.events told.events log.holds takes told.holds c.if-not-write_reports.ensures.program (c.if-not-write_reports.ensures.stands ((rows ++ copies) ++ last ∷ [])) tt in
    record {
      events = log.events ++ told.events;
      appended = Appends-then _ _ _ log.events told.events log.appended told.appended;
      holds = TellsFront-held program c.args.style rows row (c.loop-done.done + 1) c.args.times c.write_reports.new.monitor (log.events ++ told.events) (omega (arith, c.loop-done-test.true))
          (subst (λ all. TellsRows false program c.args.style rows all c.write_reports.new.monitor (log.events ++ told.events)) (ap (λ r. copies ++ r ∷ []) was.last ∙ replicate_more c.loop-done.done row) front);
    }

pub loop-done-preserved : goal.loop-done-preserved
loop-done-preserved g c =
    let was = c.loop-done.invariant in
    let row = last_of c.args.monitor.now in
    let copies = replicate c.loop-done.done row in
    let last = last_of c.loop-done.monitor in
    let program = program_of c.args.monitor.now in
    let takes = c.repeat_last.ensures.takes in
    record {
      no_fault = NoFault-then _ _ _ was.no_fault c.if-not-write_reports.ensures.cause;
      program = c.if-not-write_reports.ensures.program ∙ takes.program ∙ was.program;
      taken = omega (arith, c.if-not-write_reports.ensures.as_many, takes.taken, was.taken);
      last = c.if-not-write_reports.ensures.last ∙ takes.last ∙ was.last;
      read = c.if-not-write_reports.ensures.read ∙ c.repeat_last.ensures.read ∙ was.read;
      drained = c.if-not-write_reports.ensures.drained;
      log = λ rows stands.
          let log = was.log rows stands in
          let told = c.if-not-write_reports.ensures.log ((rows ++ copies) ++ last ∷ []) (takes.stands (rows ++ copies) log.holds.told.stands) in
          let all : TellsRows true program c.args.style rows (copies ++ last ∷ []) c.write_reports.new.monitor (log.events ++ told.events) = TellsRows-one true program c.args.style rows copies last c.loop-done.monitor c.repeat_last.new.self c.write_reports.new.monitor log.events told.events log.holds takes told.holds c.if-not-write_reports.ensures.program (c.if-not-write_reports.ensures.stands ((rows ++ copies) ++ last ∷ [])) c.if-not-write_reports.ensures.drained in
          record {
            events = log.events ++ told.events;
            appended = Appends-then _ _ _ log.events told.events log.appended told.appended;
            holds = subst (λ all. TellsRows true program c.args.style rows all c.write_reports.new.monitor (log.events ++ told.events)) (ap (λ r. copies ++ r ∷ []) was.last ∙ replicate_more c.loop-done.done row) all;
          };
    }

pub returns-clause-log : goal.returns-clause-log
returns-clause-log g c rows stands =
    let done : c.loop-done.done ≡ c.args.times = omega (arith, c.loop-done-test.false, c.loop-done.auto.done-end) in
    OnLog-map _ _ _ (c.loop-done.invariant.log rows stands) (λ events all. subst (λ n. TellsAll (program_of c.args.monitor.now) c.args.style rows (replicate n (last_of c.args.monitor.now)) c.loop-done.monitor events) done all)
