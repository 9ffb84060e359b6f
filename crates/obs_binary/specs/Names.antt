-- Names that can be written.

use Rattle.std.specs.Prelude.{◌<◌, ◌^◌, IsTrue, length}
use Rattle.std.specs.List.{list_all}
use Rattle.mltl_base.specs.declared.program.Program.{Program}
use Rattle.mltl_base.specs.Letters.{is_in_word}
use Rattle.obs_binary.specs.Layout.{out_names, signal_names}

-- the names of outputs, and the names of signals, are letters, digits and `_`, fewer than 2 ^ 32 together
pub record NamesFit (p : Program) : Type 0 where
  pub out_letters : IsTrue (list_all is_in_word (out_names p))
  pub out_bytes : length (out_names p) < 2 ^ 32
  pub signal_letters : IsTrue (list_all is_in_word (signal_names p))
  pub signal_bytes : length (signal_names p) < 2 ^ 32
