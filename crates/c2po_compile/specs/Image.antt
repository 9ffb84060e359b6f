-- The program of a specification over columns.

use Rattle.std.specs.Prelude.{◌≡◌, ◌≤◌, ◌<◌, ℕ, List, map, length, All}
use Rattle.mltl_base.specs.declared.limits.TheConstants.{MAX_SIGNALS}
use Rattle.mltl_base.specs.declared.program.Columns.{Columns}
use Rattle.mltl_base.specs.declared.program.Program.{Program}
use Rattle.mltl_base.specs.Reports.{Output}
use Rattle.mltl_base.specs.Queues.{queue_lengths, box_counts}
use Rattle.mltl_base.specs.Subformulas.{Asked, bz_list, ft_list, pt_list, out_list}
use Rattle.c2po_ast.specs.Outputs.{asked_over}
use Rattle.mltl_base.specs.declared.signal.Signal.{Signal}
use Rattle.obs_verify.specs.Bound.{AreDifferent}
use Rattle.c2po_compile.specs.Images.{stored_signals}

-- the columns serve this many signals: each has one column, below the width and distinct, and the width is within the limit
pub record AreColumnsFor (signals : ℕ) (columns : Columns) : Type 0 where
  pub one_each : length columns.of_signal ≡ signals
  pub below : All (λ column. column < columns.width) columns.of_signal
  pub different : AreDifferent columns.of_signal
  pub narrow : columns.width ≤ MAX_SIGNALS

-- the outputs over the columns of the signals
abbrev pub over_columns : Columns → List Asked → List Asked
over_columns columns outs = map (asked_over columns.of_signal) outs

-- the plain formulas of the outputs over columns
abbrev pub plain_outputs : Columns → List Asked → List Output
plain_outputs columns outs = map (λ asked. asked.output) (over_columns columns outs)

-- the program with the instructions and the sizes that the outputs need, and with these signals
abbrev pub assembled_program : Columns → List Signal → List Asked → Program
assembled_program columns signals outs = record {
  version = 2;
  width = columns.width;
  bz = bz_list outs;
  ft = ft_list outs;
  pt = pt_list outs;
  outs = out_list outs;
  sizes = record { ft = queue_lengths (ft_list outs) (out_list outs); pt = box_counts (pt_list outs) };
  signals = stored_signals signals columns.of_signal;
}

-- the image of outputs over signals by their numbers: their program over the columns, in version 2
unfoldable pub image : Columns → List Signal → List Asked → Program
image columns signals outs = assembled_program columns signals (over_columns columns outs)
