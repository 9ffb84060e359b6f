use Rattle.std.proofs.Common.{◌∙◌, refl}
use Rattle.r2u2_cli.proofs.Counting.{counted_step_of, room_at}
use Rattle.r2u2_cli.proofs.demo.run.drain.Goals as goal

pub loop-report-init : goal.loop-report-init
loop-report-init c = record { some = c.requires.counted; program = refl; taken = refl; stands = λ rows stands. stands; counted = λ rows stands was. was }

pub add-requires : goal.add-requires
add-requires c =
    let some = c.loop-report.invariant.some in
    record { room = room_at c.loop-report.tallies c.loop-report.monitor c.next_report.new.self some.0 c.in-Some.report some.2 (c.in-Some.ensures.first some.0 some.1) c.in-Some.ensures.given.exists c.in-Some.ensures.given.early }

pub loop-report-preserved : goal.loop-report-preserved
loop-report-preserved c =
    let was = c.loop-report.invariant in
    let some = was.some in
    record {
      some = (
        some.0,
        c.in-Some.ensures.stands some.0 some.1,
        counted_step_of c.loop-report.tallies c.add.new.self c.loop-report.monitor c.next_report.new.self some.0 c.in-Some.report c.in-Some.ensures.program
            (c.in-Some.ensures.first some.0 some.1) c.in-Some.ensures.given.exists c.add.ensures some.2,
      );
      program = c.in-Some.ensures.program ∙ was.program;
      taken = c.in-Some.ensures.as_many ∙ was.taken;
      stands = λ rows stands. c.in-Some.ensures.stands rows (was.stands rows stands);
      counted = λ rows stands all.
          counted_step_of c.loop-report.tallies c.add.new.self c.loop-report.monitor c.next_report.new.self rows c.in-Some.report c.in-Some.ensures.program
          (c.in-Some.ensures.first rows (was.stands rows stands)) c.in-Some.ensures.given.exists c.add.ensures (was.counted rows stands all);
    }
