use Rattle.std.proofs.Common.{false, arith}
use Rattle.c2po_types.proofs.summary.Summary.none.Goals as goal

pub returns-clause-joined : goal.returns-clause-joined
returns-clause-joined c = λ op. record { weight = omega arith; fact = c.truth-fact.ensures.truth false }

pub returns-clause-counted : goal.returns-clause-counted
returns-clause-counted c = λ op m. record { weight = omega arith; fact = c.truth-fact.ensures.truth false }
