-- Specifications without a fault.

use Rattle.std.specs.Prelude.{◌≡◌, List, None}
use Rattle.c2po_ast.specs.ItemShape.{ItemShape}
use Rattle.c2po_ast.specs.Names.{ArePlainItems}
use Rattle.mltl_base.specs.declared.signal.Signal.{Signal}
use Rattle.c2po_types.specs.FirstFault.{first_fault}
use Rattle.c2po_types.specs.Signals.{signals_of}

-- the specification has no fault, its names consist of letters, digits and `_`, and its signals are these
pub record IsFaultless (items : List ItemShape) (signals : List Signal) : Type 0 where
  pub faultless : first_fault items ≡ None
  pub plain : ArePlainItems items
  pub signals_are : signals ≡ signals_of items
