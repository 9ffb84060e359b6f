use Rattle.std.proofs.Common.{arith}
use Rattle.contract_status.proofs.Knowing.{past_ends, past_shows}
use Rattle.contract_status.proofs.engines.Engines.last_verdict.Goals as goal

pub returns-then-from-self : goal.returns-then-from-self
returns-then-from-self c = record {
  shows = λ program rows taken.
      past_shows program rows c.args.self.now.pt.now c.args.i c.args.from c.now.result taken.past c.requires.readable.0 (omega (arith, taken.count)) (omega (arith, taken.count)) c.now.ensures.now;
}

pub returns-else-from-self : goal.returns-else-from-self
returns-else-from-self c = record {
  shows = λ program rows taken. past_ends program rows c.args.i c.args.from (omega (arith, taken.count));
}
