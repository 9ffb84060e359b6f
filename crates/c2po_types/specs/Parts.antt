-- The faults of stored parts.

use Rattle.std.specs.Prelude.{Option, None, List, [], ◌∷◌}
use Rattle.mltl_base.specs.Ranges.{NoRange}
use Rattle.c2po_ast.specs.Faults.{or_later}
use Rattle.c2po_types.specs.Facts.{told_fault}
use Rattle.c2po_types.specs.declared.values.Stored.{Stored}

-- the first fault among stored values
abbrev pub stored_fault : List Stored → Option NoRange
stored_fault [] = None
stored_fault (s ∷ ss) = or_later (told_fault s.fault) (stored_fault ss)
