use Rattle.std.proofs.Common.{take}
use Rattle.c2po_types.specs.Fields.{ArePlaces}
use Rattle.c2po_types.proofs.fields.Fields.of.Given as goal

abbrev pub invariant-loop-i : goal.invariant-loop-i
invariant-loop-i l = ArePlaces l.places (take l.i l.fn.names)
