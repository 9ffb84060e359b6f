use Rattle.std.proofs.Common.{◌<◌, ◌+◌, take, length, ◌∙◌, arith}
use Rattle.std.proofs.lemmas.List.{drop-set-lt, take_more_set}
use Rattle.std.proofs.lemmas.Grind.{drop_more_same}
use Rattle.r2u2_c.specs.Reports.{style_of}
use Rattle.r2u2_c.proofs.Calls.{told_more}
use Rattle.r2u2_c.proofs.batches.fill.Goals as goal

pub loop-k-preserved : goal.loop-k-preserved
loop-k-preserved c =
    let k = c.loop-k.k in
    let reports = c.loop-k.reports in
    let inside : k < length reports = omega (arith, c.loop-k-test.true, c.loop-k.auto.reports) in
    record {
      told = rw (take_more_set reports k c.of.result inside)
          (told_more (style_of c.args.runs) (take k reports) c.of.result c.args.monitor.now c.loop-k.monitor c.next_of.new.monitor c.loop-k.invariant.told
          (record { report = c.in-Some.report; shown_as = c.of.ensures; first = c.in-Some.ensures.first; stands = c.in-Some.ensures.stands; gives = c.in-Some.ensures.given.moved }));
      rest = drop-set-lt (k + 1) reports k c.of.result (omega arith) ∙ drop_more_same reports c.args.reports.now k c.loop-k.invariant.rest;
    }
