use Rattle.std.proofs.Common.{Some, ap, ◌∙◌}
use Rattle.c2po_types.proofs.Knowing.{known_ahead, known_behind}
use Rattle.c2po_types.proofs.fact.Fact.windowed.Goals as goal

pub returns-in-F : goal.returns-in-F
returns-in-F c = λ i o h.
    ap Some (known_ahead c.args.op i c.args.a.now o _ _ _ c.in-F.is c.fault_of-fault.ensures
    (c.and_future.ensures.past ∙ c.tenses_of-tenses.ensures.past) c.and_future.ensures.future h)

pub returns-in-O : goal.returns-in-O
returns-in-O c = λ i o h.
    ap Some (known_behind c.args.op i c.args.a.now o _ _ _ c.in-O.is c.fault_of-fault.ensures
    c.and_past.ensures.past (c.and_past.ensures.future ∙ c.tenses_of-tenses.ensures.future) h)
