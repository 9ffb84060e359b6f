-- The program file that is written for a program that is upgraded.

use Rattle.std.specs.Prelude.{◌≡◌, ℕ, Ok, List}
use Rattle.mltl_base.specs.declared.program.Program.{Program}
use Rattle.mltl_base.specs.Programs.{outputs, output_names}
use Rattle.obs_binary.specs.Faults.{opened}
use Rattle.obs_verify.specs.Upgrade.{up}
use Rattle.obs_verify.specs.WellFormed.{IsWellFormed}

-- the new program is well-formed, and is the program of a file in version 2
pub record IsRaisedFrom (file : List ℕ) (new : Program) : Type 0 where
  pub old : Program
  pub opens : opened file ≡ Ok old
  pub raised : new ≡ up old
  pub well_formed : IsWellFormed new

-- The output for a program file is a program file of version 2, whose outputs have the formulas of the old program's
-- outputs, under the same names.
pub record IsUpgraded (file written : List ℕ) : Type 0 where
  pub old : Program
  pub new : Program
  pub opens : opened file ≡ Ok old
  pub new_opens : opened written ≡ Ok new
  pub version : new.version ≡ 2
  pub formulas : outputs new ≡ outputs old
  pub names : output_names new ≡ output_names old
