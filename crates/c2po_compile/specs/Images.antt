-- The program of a specification over columns.

use Rattle.std.specs.Prelude.{◌≡◌, ℕ, List, map, zip}
use Rattle.mltl_base.specs.declared.program.Columns.{Columns}
use Rattle.mltl_base.specs.declared.program.Program.{Program}
use Rattle.mltl_base.specs.declared.program.StoredSignal.{StoredSignal}
use Rattle.mltl_base.specs.Queues.{queue_lengths, box_counts}
use Rattle.mltl_base.specs.Subformulas.{Asked, HasListsOf}
use Rattle.c2po_ast.specs.Outputs.{asked_over}
use Rattle.mltl_base.specs.declared.signal.Signal.{Signal}

-- a signal with its column
abbrev pub stored : Signal × ℕ → StoredSignal
stored pair = record { name = pair.0.name; truth = pair.0.truth; column = pair.1 }

-- the stored signals: names, kinds and columns, in the order of declaration
abbrev pub stored_signals : List Signal → List ℕ → List StoredSignal
stored_signals signals columns = map stored (zip signals columns)

-- the program is the image of outputs over signals by their numbers: it has version 2, the width of the columns, the
-- instructions of the distinct subformulas and expressions over columns, the outputs, the sizes that these need, and the
-- signals
pub record IsImageOf (signals : List Signal) (columns : Columns) (outs : List Asked) (program : Program) : Type 0 where
  pub version : program.version ≡ 2
  pub width : program.width ≡ columns.width
  pub lists : HasListsOf (map (asked_over columns.of_signal) outs) program
  pub queues : program.sizes.ft ≡ queue_lengths program.ft program.outs
  pub boxes : program.sizes.pt ≡ box_counts program.pt
  pub inputs : program.signals ≡ stored_signals signals columns.of_signal
