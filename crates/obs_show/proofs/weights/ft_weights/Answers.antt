use Rattle.std.proofs.Common.{ap, length, List, map, slice_index_or, subst, sym, ◌≡◌, ◌<◌, ◌∙◌}
use Rattle.mltl_base.specs.declared.operators.FtOp.{FtOp}
use Rattle.mltl_base.specs.declared.operators.FtOp.TheVariants.{True}
use Rattle.mltl_base.specs.declared.program.Program.{Program}
use Rattle.mltl_base.specs.Programs.{atoms, expressions, formulas}
use Rattle.obs_show.specs.Weighing.{ft_weight}
use Rattle.obs_show.proofs.WeightLaws.{ft_after, ft_all, ft_loads, ft_more, ft_order, loads_within, told, told_core}
use Rattle.obs_show.proofs.weights.ft_weights.Goals as goal

pub ft_weight-weight-requires-clause-after : goal.ft_weight-weight-requires-clause-after
ft_weight-weight-requires-clause-after c =
    let same : c.as_slice-op-items.result.now ≡ c.args.checked.now.ft = c.as_slice-op-items.ensures ∙ ap (λ (p : Program). p.ft) c.program.ensures.program in
    ft_after c.args.checked.now c.program.ensures.layout c.program.ensures.well_formed c.as_slice-op-items.result.now c.loop-op.op-index c.loop-op.weights.items c.deref.result.now same c.loop-op.invariant c.loop-op-test.true c.deref.ensures.value

pub ft_weight-weight-requires-clause-loads : goal.ft_weight-weight-requires-clause-loads
ft_weight-weight-requires-clause-loads c = λ k is.
    let same : c.as_slice-op-items.result.now ≡ c.args.checked.now.ft = c.as_slice-op-items.ensures ∙ ap (λ (p : Program). p.ft) c.program.ensures.program in
    subst (λ ws. k < length ws) (sym c.requires)
    (loads_within (expressions c.args.checked.now.bz) k (ft_loads c.args.checked.now c.program.ensures.layout c.program.ensures.well_formed c.as_slice-op-items.result.now c.loop-op.op-index same c.loop-op-test.true k is))

pub loop-op-preserved : goal.loop-op-preserved
loop-op-preserved c =
    let items : List FtOp = c.as_slice-op-items.result.now in
    let op : FtOp = slice_index_or items c.loop-op.op-index True in
    let same : items ≡ c.args.checked.now.ft = c.as_slice-op-items.ensures ∙ ap (λ (p : Program). p.ft) c.program.ensures.program in
    ft_more (expressions c.args.checked.now.bz) items c.loop-op.op-index c.loop-op.weights.items c.push.new.self.items True c.ft_weight-weight.result c.loop-op.invariant c.loop-op-test.true
    (ft_order c.args.checked.now c.program.ensures.layout c.program.ensures.well_formed items c.loop-op.op-index same c.loop-op-test.true)
    (ft_loads c.args.checked.now c.program.ensures.layout c.program.ensures.well_formed items c.loop-op.op-index same c.loop-op-test.true)
    (c.ft_weight-weight.ensures ∙ ap (λ ls. ft_weight ls c.deref.result.now op) c.requires ∙ ap (λ ws. ft_weight (map told (expressions c.args.checked.now.bz)) ws op) c.deref.ensures.value) c.in_ok-push.ensures.items

pub returns : goal.returns
returns c =
    ft_all (expressions c.args.checked.now.bz) c.as_slice-op-items.result.now c.loop-op.op-index c.loop-op.weights.items c.loop-op.invariant c.loop-op-test.false
    ∙ ap (λ ops. map told_core (formulas (atoms c.args.checked.now.bz) ops)) (c.as_slice-op-items.ensures ∙ ap (λ (p : Program). p.ft) c.program.ensures.program)
