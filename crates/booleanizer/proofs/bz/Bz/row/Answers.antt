use Rattle.std.proofs.Common.{[], sym, ◌∙◌, ap, subst, List}
use Rattle.mltl_base.specs.declared.operators.BzOp.{BzOp}
use Rattle.mltl_base.specs.declared.program.Program.{Program}
use Rattle.booleanizer.specs.Evaluation.{AllCompute}
use Rattle.booleanizer.proofs.Sound.{fit-computes}
use Rattle.booleanizer.proofs.bz.Bz.row.Goals as goal

pub evaluate-requires-clause-can : goal.evaluate-requires-clause-can
evaluate-requires-clause-can g c =
    subst (λ (ops : List BzOp). AllCompute c.args.fields.now [] ops) (ap (λ (p : Program). p.bz) (sym c.program.ensures.program) ∙ sym c.as_slice.ensures)
    (fit-computes c.args.checked.now c.args.fields.now c.program.ensures.well_formed c.requires.fit)
