use Rattle.std.proofs.Common.{◌≡◌, ◌∙◌, ◌++◌, ◌∷◌, [], ap, arith, sym, ℕ, None, map, slice_index_or}
use Rattle.std.proofs.lemmas.List.{map_more, take_all}
use Rattle.mltl_base.specs.declared.operators.BzOp.{BzOp}
use Rattle.mltl_base.specs.declared.operators.BzOp.TheVariants.{Column}
use Rattle.obs_verify.specs.SignalNumbers.{signal_in, signal_read}
use Rattle.obs_verify.proofs.signal_numbers.signal_numbers_of.Goals as goal

pub loop-op-init : goal.loop-op-init
loop-op-init c = c.new-signal_numbers.ensures

pub loop-op-preserved : goal.loop-op-preserved
loop-op-preserved c =
    let signals = c.args.program.now.signals in
    let items = c.as_slice-op-items.result.now in
    let i : ℕ = c.loop-op.op-index in
    let op : BzOp = slice_index_or items i (Column 0) in
    let read : c.signal_number.result ≡ signal_read signals op = c.signal_number.ensures signals (λ n below.
    ap (λ ns. slice_index_or ns n None) c.deref.ensures.value
    ∙ c.in_ok-numbers.ensures.told n (omega (arith, below, c.deref.ensures.len, c.in_ok-numbers.ensures.long))
    ∙ ap (λ ss. signal_in ss n) c.as_slice.ensures) in
    c.in_ok-push.ensures.pushed ∙ ap (λ r. c.loop-op.signal_numbers ++ r ∷ []) read ∙ ap (λ rs. rs ++ signal_read signals op ∷ []) c.loop-op.invariant
    ∙ sym (map_more (signal_read signals) items i (Column 0) c.loop-op-test.true)

pub returns : goal.returns
returns c = c.loop-op.invariant ∙ ap (map (signal_read c.args.program.now.signals)) (take_all c.loop-op.op-index c.as_slice-op-items.result.now c.loop-op-test.false ∙ c.as_slice-op-items.ensures)
