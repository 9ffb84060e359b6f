use Rattle.std.proofs.Common.{◌≡◌, ◌+◌, List, arith, max, slice_index, slice_index_or, map, take, subst, ap, sym, ◌∙◌}
use Rattle.std.proofs.lemmas.List.{take_all}
use Rattle.mltl_base.specs.Queues.{greatest, reported, widest_beside, delay_beside}
use Rattle.mltl_base.specs.declared.program.Out.{Out}
use Rattle.delay_sizes.proofs.QueueLaws.{beside_more}
use Rattle.delay_sizes.proofs.queues.widen_by_outputs.Goals as goal

pub loop-out-init : goal.loop-out-init
unfolding greatest
loop-out-init c = λ g inside. omega arith

pub loop-out-preserved : goal.loop-out-preserved
loop-out-preserved c = λ g inside.
    let items : List Out = c.as_slice-out-items.result.now in
    let more : widest_beside c.args.worst.now (map reported (take (c.loop-out.out-index + 1) items)) g ≡ max (widest_beside c.args.worst.now (map reported (take c.loop-out.out-index items)) g) (delay_beside c.args.worst.now g (reported (slice_index_or items c.loop-out.out-index c.out-item.result)))
    = beside_more c.args.worst.now Out reported items c.loop-out.out-index g c.out-item.result c.loop-out-test.true in
    let same : delay_beside c.args.worst.now g (reported (slice_index_or items c.loop-out.out-index c.out-item.result)) ≡ delay_beside c.args.worst.now g (reported c.out-item.result) = ap (λ o. delay_beside c.args.worst.now g (reported o)) (sym c.out-item.is) in
    omega (arith, more, same, c.widen_by_output.ensures g inside, c.loop-out.invariant g inside)

pub returns : goal.returns
returns c = λ g inside.
    let items : List Out = c.as_slice-out-items.result.now in
    let all : take c.loop-out.out-index items ≡ c.args.outs.now = take_all c.loop-out.out-index items c.loop-out-test.false ∙ c.as_slice-out-items.ensures in
    let P : List Out → Type 0 = λ os. slice_index c.loop-out.widths g ≡ max (slice_index c.args.widths.now g) (widest_beside c.args.worst.now (map reported os) g) in
    subst P all (c.loop-out.invariant g inside)
