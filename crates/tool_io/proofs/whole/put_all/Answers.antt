-- Each write sends more of the piece, and one that fails leaves a front of it sent.
use Rattle.std.proofs.Common.{arith, ◌∙◌}
use Rattle.std.proofs.lemmas.List.{length-take, length-drop}
use Rattle.tool_io.proofs.WholeLaws.{Writes-more, Writes-stop}
use Rattle.tool_io.proofs.whole.put_all.Goals as goal

pub loop-sent-preserved : goal.loop-sent-preserved
loop-sent-preserved g c =
    let was = c.loop-sent.invariant in
    let wrote = c.in-Wrote.ensures in
    record {
      in_range = omega (arith, simp (length-take, length-drop) at wrote.range.1);
      no_fault = λ place. wrote.cause place ∙ was.no_fault place;
      log = Writes-more _ _ _ c.args.place c.args.piece.now c.loop-sent.sent c.in-Wrote.n was.log wrote.log;
      untouched = λ none. absurd (omega (arith, wrote.range.0));
      left = λ place. wrote.left place ∙ was.left place;
    }

pub returns-in-Failed-clause-log : goal.returns-in-Failed-clause-log
returns-in-Failed-clause-log g c = Writes-stop _ _ _ c.args.place c.args.piece.now c.loop-sent.sent (c.loop-sent-test.true) c.loop-sent.invariant.log c.in-Failed.ensures.log
