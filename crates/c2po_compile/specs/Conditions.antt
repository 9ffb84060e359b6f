-- The conditions that checking and unfolding ensure: outputs without faults over signals of their kinds, and signals with
-- distinct names and columns.

use Rattle.std.specs.Prelude.{◌≡◌, ◌<◌, ◌≤◌, List, length, All}
use Rattle.mltl_base.specs.declared.limits.TheConstants.{MAX_SIGNALS}
use Rattle.mltl_base.specs.declared.program.Columns.{Columns}
use Rattle.c2po_ast.specs.Faults.{HasRanges}
use Rattle.c2po_ast.specs.declared.nodes.Expanded.{Expanded}
use Rattle.c2po_ast.specs.Outputs.{IsSound, asked}
use Rattle.mltl_base.specs.declared.signal.Signal.{Signal}
use Rattle.obs_verify.specs.Bound.{AreDifferent}
use Rattle.mltl_base.specs.Kinds.{HaveOwnNames, ReadsSignals, kinds_of}

-- the unfolded specification can be built over the columns: it is sound and without faults, and its signals have distinct
-- names and columns
pub record IsBuildable (spec : Expanded) (signals : List Signal) (columns : Columns) : Type 0 where
  pub sound : IsSound spec (length signals)
  pub faultless : All HasRanges (asked spec)
  pub kinds : All (ReadsSignals (kinds_of signals)) (asked spec)
  pub named : HaveOwnNames signals
  pub one_each : length columns.of_signal ≡ length signals
  pub below : All (λ column. column < columns.width) columns.of_signal
  pub different : AreDifferent columns.of_signal
  pub narrow : columns.width ≤ MAX_SIGNALS
