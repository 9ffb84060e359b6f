use Rattle.c2po_cli.proofs.compiled.program_of.Goals as goal

pub returns-then-simplify-clause-image : goal.returns-then-simplify-clause-image
returns-then-simplify-clause-image c = rw c.if-simplify.true c.back_simple.ensures.image

pub returns-else-simplify-clause-image : goal.returns-else-simplify-clause-image
returns-else-simplify-clause-image c = rw c.if-simplify.false c.back.ensures.image
