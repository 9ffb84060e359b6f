-- The contents of a checked program.

use Rattle.std.specs.Prelude.{ℕ, ◌≡◌, ◌≤◌, List, All, Option}
use Rattle.mltl_base.specs.declared.limits.TheConstants.{MAX_DELAY}
use Rattle.mltl_base.specs.declared.program.Program.{Program}
use Rattle.mltl_base.specs.Queues.{best_delays, worst_delays}
use Rattle.obs_verify.specs.Layout.{HasLayout}
use Rattle.obs_verify.specs.SignalNumbers.{signals_read}
use Rattle.obs_verify.specs.WellFormed.{IsWellFormed}

-- the program is well-formed, and has these delays and these numbers of the signals that its instructions read
pub record IsKept (program : Program) (bests worsts : List ℕ) (signal_numbers : List (Option ℕ)) : Type 0 where
  pub layout : HasLayout program
  pub well_formed : IsWellFormed program
  pub best : bests ≡ best_delays program.ft
  pub worst : worsts ≡ worst_delays program.ft
  pub in_time : All (λ rows. rows ≤ MAX_DELAY) worsts
  pub read_by : signal_numbers ≡ signals_read program
