use Rattle.std.proofs.Common.{◌+◌, arith, refl, ◌∙◌, inl, inr}
use Rattle.scq_ring.proofs.RunLemmas.{verdict_before, verdict_newest}
use Rattle.scq_ring.specs.declared.runs.Ring.{Ring}
use Rattle.scq_ring.proofs.runs.Ring.turn.Goals as goal

pub returns : goal.returns
returns c =
    let closed = c.close.ensures.closed in
    let ring = c.close.new.self in
    let slots = c.close.new.slots in
    let turned : Ring = record { frontier = c.args.upto + 1; low = ring.low; since = ring.frontier; oldest = ring.oldest; used = ring.used; value = c.args.value } in
    record {
      turned = record {
        belongs = record {
          oldest_in = closed.oldest_in;
          used_in = closed.used_in;
          spans = closed.spans;
          begun = omega (arith, closed.frontier, c.requires.ahead);
          some_time = λ some. omega (arith, closed.frontier, c.requires.ahead);
          alternate = closed.alternate c.args.value c.requires.other;
        };
        frontier = refl;
        rises = closed.rises;
        bounded = elim closed.bounded [ inl same ↦ inl same | inr few ↦ inr (omega (arith, few, c.requires.ahead)) ];
        kept = λ t from to. verdict_before turned slots t (omega (arith, to, closed.frontier)) ∙ closed.kept t from to;
        written = λ t from to. verdict_newest turned slots t (omega (arith, from, closed.frontier));
      };
    }
