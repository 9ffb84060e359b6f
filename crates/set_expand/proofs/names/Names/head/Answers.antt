use Rattle.set_expand.proofs.names.Names.head.Goals as goal

pub returns-clause-below : goal.returns-clause-below
returns-clause-below c = λ n h. c.head_of.ensures.below n (c.in_ok-found.ensures.below n h)

pub returns-clause-kept : goal.returns-clause-kept
returns-clause-kept c = λ nodes h. c.head_of.ensures.kept nodes (c.in_ok-found.ensures.kept nodes h)
