use Rattle.std.proofs.Common.{arith, ◌≡◌, ◌≤◌, ◌*◌, ap, ◌∙◌, length, sum}
use Rattle.std.proofs.lemmas.List.{length-map}
use Rattle.std.proofs.lemmas.List.FromFn.{length-map-range_with_len}
use Rattle.std.proofs.lemmas.List.Sums.{sum_by-le}
use Rattle.mltl_base.specs.Queues.{boxes_of, queue_length}
use Rattle.delay_sizes.proofs.queues.queue_sizes.Goals as goal

pub slot_count-requires : goal.slot_count-requires
slot_count-requires c =
    let fts : length c.in_ok-ft.ft ≡ length c.args.graph.now.ft = ap length c.in_ok-ft.ensures.queues ∙ length-map-range_with_len (queue_length c.args.graph.now.ft c.args.graph.now.outs) 0 (length c.args.graph.now.ft) in
    let pts : length c.in_ok-pt.pt ≡ length c.args.graph.now.pt = ap length c.in_ok-pt.ensures.counted ∙ length-map c.args.graph.now.pt boxes_of in
    let slots : sum c.in_ok-ft.ft ≤ length c.in_ok-ft.ft * 16777217 = sum_by-le (λ x. x) 16777217 c.in_ok-ft.ft c.in_ok-ft.ensures.small in
    let boxes : sum c.in_ok-pt.pt ≤ length c.in_ok-pt.pt * 1048576 = sum_by-le (λ x. x) 1048576 c.in_ok-pt.pt c.in_ok-pt.ensures.small in
    omega (arith, fts, pts, slots, boxes, c.requires.graph.few_ft, c.requires.graph.few_pt)
