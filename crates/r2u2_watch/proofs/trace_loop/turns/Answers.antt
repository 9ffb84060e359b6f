use Rattle.std.proofs.Common.{◌++◌, ◌∙◌, subst, sym, refl, arith}
use Rattle.std.specs.declared.ops.ControlFlow.TheVariants.{Continue, Break}
use Rattle.tool_io.proofs.HostLaws.{NoFault-then}
use Rattle.tool_io.proofs.LogLaws.{OnLog-none, Appends-then}
use Rattle.mltl_base.specs.declared.report.Style.{Style}
use Rattle.r2u2_monitor.specs.Monitoring.{program_of}
use Rattle.r2u2_watch.specs.Endings.{watched_of}
use Rattle.r2u2_watch.specs.Trace.{fed_rows}
use Rattle.r2u2_watch.specs.Turns.{IsCounted, Turns, begins_at}
use Rattle.r2u2_watch.specs.Watch.{IsWatch, first_of}
use Rattle.r2u2_watch.proofs.FoundLaws.{is_counted}
use Rattle.r2u2_watch.proofs.LineTurns.{HasLines-none, turn_goes, turn_ends}
use Rattle.r2u2_watch.proofs.trace_loop.turns.Goals as goal

pub loop-ending-init : goal.loop-ending-init
loop-ending-init g c = record {
  mission = refl;
  style = refl;
  within = omega (arith, c.requires.start.no_lines);
  program = refl;
  no_fault = λ place. refl;
  feed = begins_at c.args.course.reader;
  log = OnLog-none _ _ (HasLines-none (program_of c.args.monitor.now) c.args.course (begins_at c.args.course.reader) c.args.cut.now c.args.monitor.now c.requires.ready.numbered
      (record { program_kept = refl; stands = c.requires.ready.no_rows; drained = c.requires.ready.drained }) c.requires.start.no_lines c.requires.start.no_rows);
}

pub next_line-requires-clause-under_way : goal.next_line-requires-clause-under_way
next_line-requires-clause-under_way g c =
    let was = c.loop-ending.invariant in
    let has = was.log.holds in
    let course = c.loop-ending.course in
    record {
      drained = has.kept.drained;
      counted = subst (IsCounted course.reader course.lines) has.kept.stands.taken.stand.count (is_counted was.feed course.reader course.lines has.rows has.keeps);
      mission = omega (arith, was.mission, c.requires.ready.within);
    }

pub loop-ending-preserved : goal.loop-ending-preserved
loop-ending-preserved g c =
    let was = c.loop-ending.invariant in
    let has = was.log.holds in
    let course = c.loop-ending.course in
    let turn = c.in_default.ensures.log has.rows was.feed has.kept.stands has.keeps in
    let goes = turn_goes _ _ _ _ _ _ _ course was.feed was.log.events has tt c.next_line.new.self turn.events was.within (omega (arith, was.mission, c.requires.ready.within))
    (subst (λ program. Turns (Continue tt) program course c.next_line.new.self was.feed has.rows c.loop-ending.cut c.next_line.new.cut c.next_line.new.monitor turn.events) has.kept.program_kept turn.holds) in
    record {
      mission = goes.same_mission ∙ was.mission;
      style = goes.same_style ∙ was.style;
      within = goes.within;
      program = c.next_line.ensures.program ∙ was.program;
      no_fault = NoFault-then _ _ _ was.no_fault c.in_default.ensures.cause;
      feed = goes.next;
      log = record {
        events = was.log.events ++ turn.events;
        appended = Appends-then _ _ _ was.log.events turn.events was.log.appended turn.appended;
        holds = goes.has_lines;
      };
    }

pub loop-ending-smaller : goal.loop-ending-smaller
loop-ending-smaller g c =
    let was = c.loop-ending.invariant in
    let has = was.log.holds in
    let course = c.loop-ending.course in
    let turn = c.in_default.ensures.log has.rows was.feed has.kept.stands has.keeps in
    (turn_goes _ _ _ _ _ _ _ course was.feed was.log.events has tt c.next_line.new.self turn.events was.within (omega (arith, was.mission, c.requires.ready.within))
    (subst (λ program. Turns (Continue tt) program course c.next_line.new.self was.feed has.rows c.loop-ending.cut c.next_line.new.cut c.next_line.new.monitor turn.events) has.kept.program_kept turn.holds)).fewer

pub returns-in-Break-clause-log : goal.returns-in-Break-clause-log
returns-in-Break-clause-log g c =
    let ended = watched_of c.in-Break.ending in
    let was = c.loop-ending.invariant in
    let has = was.log.holds in
    let course = c.loop-ending.course in
    let program = program_of c.args.monitor.now in
    let turn = c.in-Break.ensures.log has.rows was.feed has.kept.stands has.keeps in
    let events = was.log.events ++ turn.events in
    let rows_in = fed_rows (begins_at c.args.course.reader) program c.args.course.mission (first_of c.args.cut.now) in
    record {
      events = events;
      appended = Appends-then _ _ _ was.log.events turn.events was.log.appended turn.appended;
      holds = subst (λ answer. IsWatch program c.args.course.style rows_in c.args.cut.now c.next_line.new.cut c.next_line.new.monitor answer events) (sym c.watched.ensures)
          (subst (λ (style : Style). IsWatch program style rows_in c.args.cut.now c.next_line.new.cut c.next_line.new.monitor ended events) was.style
          (turn_ends _ _ _ _ _ _ _ course was.feed was.log.events has ended c.next_line.new.self turn.events
          (subst (λ p. Turns (Break ended) p course c.next_line.new.self was.feed has.rows c.loop-ending.cut c.next_line.new.cut c.next_line.new.monitor turn.events) has.kept.program_kept turn.holds)));
    }
