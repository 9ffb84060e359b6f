-- What is spelled is opened again.
use Rattle.std.proofs.Common.{◌≡◌, Ok, ap, ◌∙◌}
use Rattle.mltl_base.specs.declared.program.Program.{Program}
use Rattle.obs_binary.specs.Layout.{IsEncodable, spelling}
use Rattle.obs_binary.proofs.Whole.{program-again}
use Rattle.obs_verify.specs.WellFormed.{IsWellFormed}
use Rattle.obs_binary.specs.Faults.{opened, unless_found, verified}

pub found_again : (program : Program) → IsEncodable program → IsWellFormed program → opened (spelling program) ≡ Ok program
found_again program fits well = ap verified (program-again program fits) ∙ ap (unless_found program) well
