-- Bytes that spell a program are opened as it.

use Rattle.std.proofs.Common.{◌≡◌, ◌∙◌, ℕ, List, Option, Some, None, Ok, refl, sym, ap}
use Rattle.mltl_base.specs.declared.program.Program.{Program}
use Rattle.obs_binary.specs.Layout.{IsEncodable, spelling}
use Rattle.obs_binary.proofs.Whole.{program-again}
use Rattle.obs_verify.specs.declared.fault.VerifyFault.{VerifyFault}
use Rattle.obs_verify.specs.WellFormed.{IsWellFormed, first_fault}
use Rattle.obs_binary.specs.Faults.{opened, unless_found, verified}

-- a program without a fault is opened as itself
unless_same : (p program : Program) (fault : Option VerifyFault) → unless_found p fault ≡ Ok program → (fault ≡ None) × (p ≡ program)
unless_same p program None is = (refl, (let same : p ≡ program = cc in same))
unless_same p program (Some fault) is = absurd (cc)

-- so is one that bytes spell
pub opened_spelled : (p program : Program) (file : List ℕ) → IsEncodable p → file ≡ spelling p → opened file ≡ Ok program → IsWellFormed p × (p ≡ program)
opened_spelled p program file fits is opens =
    unless_same p program (first_fault p) (sym (ap verified (program-again p fits)) ∙ sym (ap opened is) ∙ opens)
