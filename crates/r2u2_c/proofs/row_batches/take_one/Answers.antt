use Rattle.std.proofs.Common.{refl}
use Rattle.r2u2_c.proofs.row_batches.take_one.Goals as goal

pub returns-clause-takes : goal.returns-clause-takes
returns-clause-takes c = record {
  ready = c.in_ok-take.ensures.ready.0 refl;
  taken = c.take.new.self;
  takes = c.in_ok-take.ensures.takes;
  few = c.in_ok-take.ensures.few;
  each = c.fill.ensures.tells;
}
