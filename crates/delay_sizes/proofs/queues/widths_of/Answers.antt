use Rattle.std.proofs.Common.{arith, ◌≡◌, ◌++◌, ap, drop, length, slice_index, take, ◌∙◌}
use Rattle.std.proofs.lemmas.List.{take_at}
use Rattle.delay_sizes.proofs.queues.widths_of.Goals as goal

pub returns-clause-widest : goal.returns-clause-widest
returns-clause-widest c = λ g inside.
    let back : take c.in_ok-widths.widths.len (c.widen_by_readers.new.widths ++ drop (length c.widen_by_readers.new.widths) c.in_ok-widths.widths.items) ≡ c.widen_by_readers.new.widths
    = take_at c.widen_by_readers.new.widths _ c.in_ok-widths.widths.len (c.widen_by_readers.auto.widths ∙ c.deref_mut.ensures.len) in
    omega (arith, ap (λ xs. slice_index xs g) back, c.widen_by_readers.ensures g inside, ap (λ xs. slice_index xs g) (c.deref_mut.ensures.value ∙ c.in_ok-widths.ensures.items))
