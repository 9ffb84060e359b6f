use Rattle.std.proofs.Common.{ap, ◌≡◌, ◌∙◌}
use Rattle.mltl_base.specs.declared.program.Program.{Program}
use Rattle.obs_show.proofs.WeightLaws.{out_all, out_more, out_named}
use Rattle.obs_show.proofs.weights.outputs_weight.Goals as goal

pub output_weight-requires : goal.output_weight-requires
output_weight-requires c =
    let same : c.as_slice-out-items.result.now ≡ c.args.checked.now.outs = c.as_slice-out-items.ensures ∙ ap (λ (p : Program). p.outs) c.program.ensures.program in
    out_named c.args.checked.now c.args.ft.now c.args.pt.now c.as_slice-out-items.result.now c.loop-out.out-index c.out-item.result c.program.ensures.well_formed c.requires.future c.requires.past same c.loop-out-test.true c.out-item.is

pub loop-out-preserved : goal.loop-out-preserved
loop-out-preserved c =
    let same : c.as_slice-out-items.result.now ≡ c.args.checked.now.outs = c.as_slice-out-items.ensures ∙ ap (λ (p : Program). p.outs) c.program.ensures.program in
    out_more c.args.checked.now c.args.ft.now c.args.pt.now c.as_slice-out-items.result.now c.loop-out.out-index c.loop-out.total c.both-total.result c.output_weight.result c.out-item.result c.requires.future c.requires.past c.loop-out-test.true c.out-item.is
    (out_named c.args.checked.now c.args.ft.now c.args.pt.now c.as_slice-out-items.result.now c.loop-out.out-index c.out-item.result c.program.ensures.well_formed c.requires.future c.requires.past same c.loop-out-test.true c.out-item.is)
    c.output_weight.ensures c.both-total.ensures c.loop-out.invariant

pub returns : goal.returns
returns c =
    let same : c.as_slice-out-items.result.now ≡ c.args.checked.now.outs = c.as_slice-out-items.ensures ∙ ap (λ (p : Program). p.outs) c.program.ensures.program in
    out_all c.args.checked.now c.as_slice-out-items.result.now c.loop-out.out-index c.loop-out.total same c.loop-out-test.false c.loop-out.invariant
