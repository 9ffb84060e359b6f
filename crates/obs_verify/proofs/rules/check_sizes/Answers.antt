use Rattle.std.proofs.Common.{arith, ◌≡◌, ◌≤◌, ◌*◌, ◌+◌, ap, sym, ◌∙◌, length, sum, None, refl}
use Rattle.std.proofs.lemmas.Bool.{le-leb}
use Rattle.std.proofs.lemmas.List.{length-map}
use Rattle.std.proofs.lemmas.List.FromFn.{length-map-range_with_len}
use Rattle.std.proofs.lemmas.List.Sums.{sum_by-le}
use Rattle.std.proofs.lemmas.Result.{err_from_is_err_and}
use Rattle.mltl_base.specs.declared.interval.Part.TheVariants.{Ft, Pt}
use Rattle.mltl_base.specs.Queues.{box_counts, boxes_of, queue_length, queue_lengths, slot_count}
use Rattle.obs_verify.specs.WellFormed.{first_in, earlier_of, size_fault, slots_fault}
use Rattle.obs_verify.proofs.rules.check_sizes.Goals as goal

pub slot_count-requires : goal.slot_count-requires
slot_count-requires c =
    let fts : length c.in_ok-ft.ft ≡ length c.args.program.now.ft = ap length c.in_ok-ft.ensures.queues ∙ length-map-range_with_len (queue_length c.args.program.now.ft c.args.program.now.outs) 0 (length c.args.program.now.ft) in
    let pts : length c.in_ok-pt.pt ≡ length c.args.program.now.pt = ap length c.in_ok-pt.ensures.counted ∙ length-map c.args.program.now.pt boxes_of in
    let slots : sum c.in_ok-ft.ft ≤ length c.in_ok-ft.ft * 16777217 = sum_by-le (λ x. x) 16777217 c.in_ok-ft.ft c.in_ok-ft.ensures.small in
    let boxes : sum c.in_ok-pt.pt ≤ length c.in_ok-pt.pt * 1048576 = sum_by-le (λ x. x) 1048576 c.in_ok-pt.pt c.in_ok-pt.ensures.small in
    omega (arith, fts, pts, slots, boxes, c.requires.layout.few_ft, c.requires.layout.few_pt)

pub check_stored-requires-clause-same : goal.check_stored-requires-clause-same
check_stored-requires-clause-same c = ap length c.as_slice.ensures ∙ c.requires.layout.ft_sizes
    ∙ sym (ap length (c.as_slice-2.ensures ∙ c.in_ok-ft.ensures.queues) ∙ length-map-range_with_len (queue_length c.args.program.now.ft c.args.program.now.outs) 0 (length c.args.program.now.ft))

pub returns-in_err-check_stored : goal.returns-in_err-check_stored
returns-in_err-check_stored c =
    let p = err_from_is_err_and c.from_residual-in_err-check_stored.result c.from_residual-in_err-check_stored.ensures.1 in
    let total : sum c.in_ok-ft.ft + sum c.in_ok-pt.pt ≡ slot_count c.args.program.now.ft c.args.program.now.pt c.args.program.now.outs = ap (λ fs. sum fs + sum c.in_ok-pt.pt) c.in_ok-ft.ensures.queues ∙ ap (λ ps. sum (queue_lengths c.args.program.now.ft c.args.program.now.outs) + sum ps) c.in_ok-pt.ensures.counted in
    let small : slot_count c.args.program.now.ft c.args.program.now.pt c.args.program.now.outs ≤ 16777216 = omega (arith, total, c.slot_count.ensures, c.if-slot_count-from.false, c.from.ensures) in
    let slots : slots_fault c.args.program.now ≡ None = rw (le-leb _ _ small) refl in
    let found = c.in_err-check_stored.ensures in
    rw (p.1, p.2) (λ other.
    ap (λ o. earlier_of o (earlier_of (first_in (size_fault Ft (queue_lengths c.args.program.now.ft c.args.program.now.outs)) 0 c.args.program.now.sizes.ft) (first_in (size_fault Pt (box_counts c.args.program.now.pt)) 0 c.args.program.now.sizes.pt))) slots
    ∙ ap (λ o. earlier_of o (first_in (size_fault Pt (box_counts c.args.program.now.pt)) 0 c.args.program.now.sizes.pt))
    (ap (first_in (size_fault Ft (queue_lengths c.args.program.now.ft c.args.program.now.outs)) 0) (sym c.as_slice.ensures)
    ∙ ap (λ needed. first_in (size_fault Ft needed) 0 c.as_slice.result.now) (sym (c.as_slice-2.ensures ∙ c.in_ok-ft.ensures.queues)) ∙ found other))
