use Rattle.std.proofs.Common.{◌≡◌, ◌++◌, length, map, drop, subst, arith}
use Rattle.r2u2_cli.specs.Summary.{lines_from, listed_out, summary_of}
use Rattle.r2u2_cli.proofs.SummaryLaws.{line_out, lines_out}
use Rattle.r2u2_cli.proofs.demo.summary.summary_of.Goals as goal

pub loop-k-preserved : goal.loop-k-preserved
loop-k-preserved c told are =
    line_out c.loop-k.text.items c.add_line.new.text.items (summary_of c.args.rows (map listed_out c.args.outs.now) told) c.args.outs.now c.loop-k.k c.index-outs-k.result told _
    c.loop-k-test.true c.index-outs-k.is (λ w. are.each c.loop-k.k w (omega (arith, c.requires, c.loop-k-test.true))) c.in_ok-add_line.ensures (c.loop-k.invariant told are)

pub returns : goal.returns
returns c told are =
    let end : c.loop-k.k ≡ length c.args.outs.now = omega arith in
    lines_out c.loop-k.text.items (summary_of c.args.rows (map listed_out c.args.outs.now) told) c.args.outs.now told
    (subst (λ n. c.loop-k.text.items ++ lines_from n (map listed_out (drop n c.args.outs.now)) told ≡ summary_of c.args.rows (map listed_out c.args.outs.now) told) end (c.loop-k.invariant told are))
