use Rattle.std.proofs.Common.{◌≡◌, drop}
use Rattle.c2po_types.specs.Kinds.{fit}
use Rattle.c2po_types.proofs.operand.fits.Given as goal

-- those before fit
abbrev pub invariant-loop-i : goal.invariant-loop-i
invariant-loop-i l = fit (drop l.i l.fields) (drop l.i l.operands) ≡ fit l.fields l.operands
