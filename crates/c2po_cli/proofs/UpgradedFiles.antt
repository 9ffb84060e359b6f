-- What is written of a program that is upgraded.

use Rattle.std.proofs.Common.{◌≡◌, ◌∙◌, ℕ, Bool, true, false, None, Result, Ok, Err, List, Vec, IfOk, OnOk, [], refl, sym, ap, subst}
use Rattle.std.specs.Prelude.{◌==◌, if◌then◌else◌}
use Rattle.std.specs.declared.alloc.Global.{Global}
use Rattle.mltl_base.specs.declared.program.Program.{Program}
use Rattle.mltl_base.specs.Programs.{outputs, output_names}
use Rattle.tool_io.specs.Log.{Event}
use Rattle.obs_binary.specs.Layout.{IsEncodable}
use Rattle.obs_binary.specs.Faults.{opened}
use Rattle.obs_binary.proofs.Opening.{found_again}
use Rattle.obs_verify.specs.Upgrade.{clash_of, first_clash, raised, up}
use Rattle.obs_verify.specs.WellFormed.{IsWellFormed}
use Rattle.obs_verify.proofs.WellRaised.{names_raised, outputs_raised, well_raised}
use Rattle.tool_words.specs.declared.status.Status as status
use Rattle.c2po_cli.specs.Asking.{Ask, make}
use Rattle.c2po_cli.specs.Images.{GivesFile}
use Rattle.c2po_cli.specs.Made.{written_as}
use Rattle.c2po_cli.specs.Run.{file_in, seen, MakeOutcome, OutcomeOf}
use Rattle.c2po_cli.specs.Upgrading.{IsRaisedFrom, IsUpgraded}
use Rattle.c2po_cli.specs.Written.{UpgradesProgram}

-- in version 2 a program is well-formed still
up_formed : (program : Program) → IsWellFormed program → clash_of program ≡ None → IsWellFormed (up program)
up_formed program formed one = go (program.version == 2) one
  where
    go : (b : Bool) → (if b then None else first_clash [] program.bz) ≡ None → IsWellFormed (if b then program else raised program)
    go true h = formed
    go false h = well_raised program h formed

pub raised_from : (file : List ℕ) (old : Program) (result : Result Program status.Status) → opened file ≡ Ok old → IsWellFormed old → IfOk result (λ new. new ≡ up old) → OnOk result (clash_of old ≡ None) → IfOk result (IsRaisedFrom file)
raised_from file old (Ok new) opens formed is one = record { old = old; opens = opens; raised = is; well_formed = subst IsWellFormed (sym is) (up_formed old formed one) }
raised_from file old (Err answer) opens formed is one = tt

-- its bytes are a file of it, which tells the same
pub upgraded_written : (file : List ℕ) (new : Program) (result : Result (Vec ℕ Global) status.Status) → IsRaisedFrom file new → new.version ≡ 2 → IfOk result (λ bytes. bytes.items ≡ written_as false new) → OnOk result (false ≡ false → IsEncodable new)
    → IfOk result (λ bytes. IsUpgraded file bytes.items)
upgraded_written file new (Ok bytes) from second is fits = record {
  old = from.old;
  new = new;
  opens = from.opens;
  new_opens = ap opened is ∙ found_again new (fits refl) from.well_formed;
  version = second;
  formulas = ap outputs from.raised ∙ outputs_raised from.old;
  names = ap output_names from.raised ∙ names_raised from.old;
}
upgraded_written file new (Err answer) from second is fits = tt

-- so does a whole run
pub upgrades_program : (asked : Ask) (answer : status.Status) (events : List Event) → OutcomeOf answer asked events → UpgradesProgram asked answer events
upgrades_program (make asked) answer events outcome = λ product done.
    let is = subst (λ s. MakeOutcome s asked (seen asked events)) done outcome in
    subst (λ what. GivesFile what asked.header (file_in asked events) (seen asked events).header (seen asked events).out) product is.bytes.gives
upgrades_program asked answer events outcome = tt
