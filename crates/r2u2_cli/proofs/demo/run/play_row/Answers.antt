use Rattle.std.proofs.Common.{◌≡◌, ◌∙◌, ap, arith}
use Rattle.r2u2_cli.specs.DemoRow.{demo_row}
use Rattle.r2u2_cli.proofs.Playing.{played_fits, played_more, played_taken}
use Rattle.r2u2_cli.proofs.demo.run.play_row.Goals as goal

pub unwrap-requires : goal.unwrap-requires
unwrap-requires c =
    let is : c.demo_row.result ≡ demo_row c.args.seed c.args.k = c.demo_row.ensures ∙ ap (demo_row c.args.seed) c.from.ensures in
    c.take.ensures.ready.1 (record {
      drained = c.requires.before.drained;
      early = omega (arith, c.requires.before.taken, c.requires.few);
      fit = played_fits c.args.tallies.now c.args.monitor.now c.args.seed c.args.k c.demo_row.result c.requires.before is;
    })

pub drain-requires : goal.drain-requires
drain-requires c = record {
  counted = played_taken c.args.tallies.now c.args.monitor.now c.take.new.self c.args.seed c.args.k c.demo_row.result c.requires.before (rw c.unwrap.ensures at c.take.ensures.takes);
}

pub returns : goal.returns
returns c =
    let is : c.demo_row.result ≡ demo_row c.args.seed c.args.k = c.demo_row.ensures ∙ ap (demo_row c.args.seed) c.from.ensures in
    record {
      after = played_more c.args.tallies.now c.drain.new.tallies c.args.monitor.now c.take.new.self c.drain.new.monitor c.args.seed c.args.k c.demo_row.result
          c.requires.before is (rw c.unwrap.ensures at c.take.ensures.takes) c.drain.ensures.program c.drain.ensures.taken c.drain.ensures.stands c.drain.ensures.drained c.drain.ensures.counted;
    }
