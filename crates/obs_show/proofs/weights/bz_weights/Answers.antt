use Rattle.std.proofs.Common.{[], ap, length, List, map, slice_index_or, subst, sym, ◌≡◌, ◌∙◌}
use Rattle.mltl_base.specs.declared.operators.BzOp.{BzOp}
use Rattle.mltl_base.specs.declared.operators.BzOp.TheVariants.{Column}
use Rattle.mltl_base.specs.declared.program.Program.{Program}
use Rattle.mltl_base.specs.Programs.{expressions}
use Rattle.obs_verify.specs.InstructionRanges.{ReadsBefore}
use Rattle.obs_verify.specs.Soundness.{SoundOps}
use Rattle.obs_verify.proofs.SoundOps.{all_sound}
use Rattle.obs_show.specs.Weighing.{bz_weight}
use Rattle.obs_show.proofs.WeightLaws.{BzWeighed, bz_none, bz_reads, bz_more, bz_all, told}
use Rattle.obs_show.proofs.weights.bz_weights.Goals as goal

pub loop-op-init : goal.loop-op-init
loop-op-init c =
    let items : List BzOp = c.as_slice-op-items.result.now in
    let same : c.args.checked.now.bz ≡ items = ap (λ (p : Program). p.bz) (sym c.program.ensures.program) ∙ sym c.as_slice-op-items.ensures in
    subst (BzWeighed c.args.checked.now.width items 0) (sym c.new-weights.ensures.items)
    (bz_none c.args.checked.now.width items (subst (SoundOps c.args.checked.now.width []) same (all_sound c.args.checked.now c.program.ensures.well_formed)))

pub bz_weight-weight-requires : goal.bz_weight-weight-requires
bz_weight-weight-requires c =
    let items : List BzOp = c.as_slice-op-items.result.now in
    subst (λ ws. ReadsBefore (length ws) (slice_index_or items c.loop-op.op-index (Column 0))) (sym c.deref.ensures.value)
    (bz_reads c.args.checked.now.width items c.loop-op.op-index c.loop-op.weights.items (Column 0) c.loop-op.invariant c.loop-op-test.true)

pub loop-op-preserved : goal.loop-op-preserved
loop-op-preserved c =
    let items : List BzOp = c.as_slice-op-items.result.now in
    bz_more c.args.checked.now.width items c.loop-op.op-index c.loop-op.weights.items c.push.new.self.items (Column 0) c.bz_weight-weight.result c.loop-op.invariant c.loop-op-test.true
    (c.bz_weight-weight.ensures ∙ ap (λ ws. bz_weight ws (slice_index_or items c.loop-op.op-index (Column 0))) c.deref.ensures.value) c.in_ok-push.ensures.items

pub returns : goal.returns
returns c =
    let items : List BzOp = c.as_slice-op-items.result.now in
    bz_all c.args.checked.now.width items c.loop-op.op-index c.loop-op.weights.items c.loop-op.invariant c.loop-op-test.false
    ∙ ap (λ ops. map told (expressions ops)) (c.as_slice-op-items.ensures ∙ ap (λ (p : Program). p.bz) c.program.ensures.program)
