-- The layout that program files give every program, well-formed or not.

use Rattle.std.specs.Prelude.{◌≡◌, ◌⊎◌, ◌<◌, ◌^◌, [], length}
use Rattle.mltl_base.specs.declared.program.Program.{Program}

-- the program has version 1 and no signals, or version 2
abbrev pub HasVersion : Program → Type 0
HasVersion program = ((program.version ≡ 1) × (program.signals ≡ [])) ⊎ (program.version ≡ 2)

-- the program has a size for each instruction of the engines, lists of fewer than 2 ^ 32 members, and a known version
pub record HasLayout (program : Program) : Type 0 where
  pub ft_sizes : length program.sizes.ft ≡ length program.ft
  pub pt_sizes : length program.sizes.pt ≡ length program.pt
  pub few_bz : length program.bz < 2 ^ 32
  pub few_ft : length program.ft < 2 ^ 32
  pub few_pt : length program.pt < 2 ^ 32
  pub few_outs : length program.outs < 2 ^ 32
  pub few_signals : length program.signals < 2 ^ 32
  pub version : HasVersion program
