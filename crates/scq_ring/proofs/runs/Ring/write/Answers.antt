use Rattle.std.proofs.Common.{◌-◌, arith, refl, ◌∙◌, inl, inr}
use Rattle.std.proofs.lemmas.Grind.{common_steps}
use Rattle.scq_ring.specs.Runs.{frontier_of, low_of, verdict_at}
use Rattle.scq_ring.proofs.RunLemmas.{verdict_newest}
use Rattle.scq_ring.proofs.runs.Ring.write.Goals as goal

pub turn-requires-clause-ahead : goal.turn-requires-clause-ahead
unfolding frontier_of
turn-requires-clause-ahead g c = c.requires.ahead

pub turn-requires-clause-other : goal.turn-requires-clause-other
turn-requires-clause-other g c = λ same. let other = c.if-value-self.false in grind (arith, common_steps)

pub returns-then-value-self : goal.returns-then-value-self
unfolding frontier_of low_of verdict_at
returns-then-value-self g c =
    let b = c.requires.belongs in
    let begun = b.begun in
    let ahead = c.requires.ahead in
    record {
      written = record {
        belongs = record { oldest_in = b.oldest_in; used_in = b.used_in; spans = b.spans; begun = omega arith; some_time = λ some. omega arith; alternate = b.alternate };
        frontier = refl;
        rises = omega arith;
        bounded = omega arith;
        kept = λ t from to. refl;
        written = λ t from to. verdict_newest c.args.self.now c.args.slots.now t (omega arith) ∙ let same = c.if-value-self.true in grind (arith, common_steps);
      };
      stays = λ some same. refl;
      step = c.tick.ensures.one_more;
    }

pub returns-else-value-self : goal.returns-else-value-self
unfolding frontier_of low_of
returns-else-value-self g c =
    let turned = c.turn.ensures.turned in
    let ring = c.args.self.now in
    record {
      written = record {
        belongs = turned.belongs;
        frontier = turned.frontier;
        rises = turned.rises;
        bounded = elim turned.bounded [ inl same ↦ omega arith | inr few ↦ omega arith ];
        kept = turned.kept;
        written = turned.written;
      };
      stays = λ some same. let begun = c.requires.belongs.some_time some in let newest = verdict_newest ring c.args.slots.now (ring.frontier - 1) (omega arith) in absurd (let other = c.if-value-self.false in grind (arith, common_steps));
      step = c.tick.ensures.one_more;
    }
