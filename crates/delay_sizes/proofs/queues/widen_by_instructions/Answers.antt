use Rattle.std.proofs.Common.{◌≡◌, ◌+◌, List, length, arith, max, slice_index, slice_index_or, map, take, subst, ap, sym, ◌∙◌}
use Rattle.std.proofs.lemmas.List.{take_all}
use Rattle.delay_sizes.proofs.DelayLaws.{after_later}
use Rattle.mltl_base.specs.Queues.{IsAfterOperands, greatest, operands, widest_beside, delay_beside}
use Rattle.mltl_base.specs.declared.operators.FtOp.{FtOp}
use Rattle.mltl_base.specs.declared.operators.FtOp.TheVariants.{True}
use Rattle.delay_sizes.proofs.QueueLaws.{beside_more}
use Rattle.delay_sizes.proofs.queues.widen_by_instructions.Goals as goal

pub loop-op-init : goal.loop-op-init
unfolding greatest
loop-op-init c = λ g inside. omega arith

pub widen_by_instruction-requires-clause-inside : goal.widen_by_instruction-requires-clause-inside
widen_by_instruction-requires-clause-inside c =
    let P : List FtOp → Type 0 = λ ops. IsAfterOperands c.loop-op.op-index (slice_index_or ops c.loop-op.op-index True) in
    after_later c.loop-op.op-index (length c.args.worst.now) (slice_index_or c.as_slice-op-items.result.now c.loop-op.op-index True) (omega (arith, ap length c.as_slice-op-items.ensures))
    (subst P (sym c.as_slice-op-items.ensures) (c.requires.in_order c.loop-op.op-index True (omega (arith, ap length c.as_slice-op-items.ensures))))

pub loop-op-preserved : goal.loop-op-preserved
loop-op-preserved c = λ g inside.
    let items : List FtOp = c.as_slice-op-items.result.now in
    let more : widest_beside c.args.worst.now (map operands (take (c.loop-op.op-index + 1) items)) g ≡ max (widest_beside c.args.worst.now (map operands (take c.loop-op.op-index items)) g) (delay_beside c.args.worst.now g (operands (slice_index_or items c.loop-op.op-index True)))
    = beside_more c.args.worst.now FtOp operands items c.loop-op.op-index g True c.loop-op-test.true in
    omega (arith, more, c.widen_by_instruction.ensures g inside, c.loop-op.invariant g inside)

pub returns : goal.returns
returns c = λ g inside.
    let items : List FtOp = c.as_slice-op-items.result.now in
    let all : take c.loop-op.op-index items ≡ c.args.ft.now = take_all c.loop-op.op-index items c.loop-op-test.false ∙ c.as_slice-op-items.ensures in
    let P : List FtOp → Type 0 = λ ops. slice_index c.loop-op.widths g ≡ max (slice_index c.args.widths.now g) (widest_beside c.args.worst.now (map operands ops) g) in
    subst P all (c.loop-op.invariant g inside)
