-- Unfolded specifications that can be built.

use Rattle.std.specs.Prelude.{List, length, All}
use Rattle.mltl_base.specs.declared.signal.Signal.{Signal}
use Rattle.mltl_base.specs.Kinds.{ReadsSignals, kinds_of}
use Rattle.c2po_ast.specs.declared.nodes.Expanded.{Expanded}
use Rattle.c2po_ast.specs.Faults.{HasRanges}
use Rattle.c2po_ast.specs.Outputs.{IsSound, asked}
use Rattle.c2po_types.specs.Outputs.{HasPlainName}

-- the unfolded specification is sound, and its outputs read existing signals by their kinds, have ranges, and have names of
-- letters, digits and `_`
pub record IsUnfolded (signals : List Signal) (spec : Expanded) : Type 0 where
  pub sound : IsSound spec (length signals)
  pub ranged : All HasRanges (asked spec)
  pub kinds : All (ReadsSignals (kinds_of signals)) (asked spec)
  pub named : All HasPlainName (asked spec)
