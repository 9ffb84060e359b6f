use Rattle.std.proofs.Common.{arith, All, ◌≡◌, ◌<◌, ◌≤◌, ap, ◌∙◌, [], length, zero-add, slice_index, sym, subst, ℕ, List}
use Rattle.mltl_base.specs.Queues.{best_of, worst_of, ReportsInstructions, readers, widest, best_delays}
use Rattle.delay_sizes.proofs.DelayLaws.{length-numbered_after}
use Rattle.delay_sizes.proofs.QueueLaws.{AreWidths, widths_known, lengths_are}
use Rattle.delay_sizes.proofs.queues.queue_lengths.Goals as goal

pub widths_of-requires-clause-each : goal.widths_of-requires-clause-each
widths_of-requires-clause-each c = ap length (c.as_slice.ensures ∙ c.requires.delays.worst) ∙ length-numbered_after worst_of [] c.args.ft.now ∙ zero-add (length c.args.ft.now)

pub widths_of-requires-clause-reported : goal.widths_of-requires-clause-reported
widths_of-requires-clause-reported c =
    let P : ℕ → Type 0 = λ n. All (ReportsInstructions n) c.args.outs.now in
    subst P (sym (ap length (c.as_slice.ensures ∙ c.requires.delays.worst) ∙ length-numbered_after worst_of [] c.args.ft.now ∙ zero-add (length c.args.ft.now))) c.requires.reported

pub lengths_of-requires : goal.lengths_of-requires
lengths_of-requires c =
    let known : AreWidths c.args.ft.now c.args.outs.now c.as_slice-2.result.now = widths_known c.args.ft.now c.args.outs.now c.as_slice.result.now c.as_slice-2.result.now (c.as_slice.ensures ∙ c.requires.delays.worst) c.requires.bounded
    (let P : List ℕ → Type 0 = All (λ d. d ≤ 16777216) in subst P (sym c.as_slice.ensures) c.requires.delays.in_time) (c.as_slice-2.ensures.len ∙ c.in_ok-widths.ensures.len)
    (let P : List ℕ → Type 0 = λ ws. (g : ℕ) → g < length c.as_slice.result.now → slice_index ws g ≡ widest c.as_slice.result.now (readers c.args.ft.now c.args.outs.now) g in subst P (sym c.as_slice-2.ensures.value) c.in_ok-widths.ensures.widest) in
    let best : c.as_slice-3.result.now ≡ best_delays c.args.ft.now = c.as_slice-3.ensures ∙ c.requires.delays.best in
    let long : length c.as_slice-3.result.now ≡ length c.args.ft.now = ap length best ∙ length-numbered_after best_of [] c.args.ft.now ∙ zero-add (length c.args.ft.now) in
    record {
      same = known.long ∙ sym long;
      covers = λ g inside. omega (arith, ap (λ bs. slice_index bs g) best, known.covers g (omega arith));
      small = known.small;
    }

pub returns-clause-queues : goal.returns-clause-queues
returns-clause-queues c =
    let known : AreWidths c.args.ft.now c.args.outs.now c.as_slice-2.result.now = widths_known c.args.ft.now c.args.outs.now c.as_slice.result.now c.as_slice-2.result.now (c.as_slice.ensures ∙ c.requires.delays.worst) c.requires.bounded
    (let P : List ℕ → Type 0 = All (λ d. d ≤ 16777216) in subst P (sym c.as_slice.ensures) c.requires.delays.in_time) (c.as_slice-2.ensures.len ∙ c.in_ok-widths.ensures.len)
    (let P : List ℕ → Type 0 = λ ws. (g : ℕ) → g < length c.as_slice.result.now → slice_index ws g ≡ widest c.as_slice.result.now (readers c.args.ft.now c.args.outs.now) g in subst P (sym c.as_slice-2.ensures.value) c.in_ok-widths.ensures.widest) in
    lengths_are c.args.ft.now c.args.outs.now c.as_slice-2.result.now c.as_slice-3.result.now c.lengths_of.result known (c.as_slice-3.ensures ∙ c.requires.delays.best) c.lengths_of.ensures.len c.lengths_of.ensures.each
