use Rattle.std.proofs.Common.{Some, ap}
use Rattle.c2po_types.proofs.Knowing.{known_formula}
use Rattle.c2po_types.proofs.fact.Fact.formula.Goals as goal

pub returns : goal.returns
returns c = λ o h.
    ap Some (known_formula c.args.a.now o _ _ _ c.fault_of-fault.ensures c.tenses_of-tenses.ensures.past c.tenses_of-tenses.ensures.future h)
