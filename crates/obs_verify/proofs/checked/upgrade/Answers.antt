use Rattle.std.proofs.Common.{sym, subst, All, List}
use Rattle.mltl_base.specs.declared.operators.BzOp.{BzOp}
use Rattle.mltl_base.specs.declared.program.Program.{Program}
use Rattle.obs_verify.specs.Reading.{ReadsWithin}
use Rattle.obs_verify.proofs.WellRaised.{all_within}
use Rattle.obs_verify.proofs.checked.upgrade.Goals as goal

pub read_signals-requires-clause-within : goal.read_signals-requires-clause-within
read_signals-requires-clause-within c =
    subst (λ (ops : List BzOp). All (ReadsWithin c.program-program.result.now.width) ops) (sym c.as_slice.ensures)
    (subst (λ (p : Program). All (ReadsWithin p.width) p.bz) (sym c.program-program.ensures.program) (all_within c.args.checked c.program-program.ensures.well_formed))
