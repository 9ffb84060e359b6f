-- The truths of the rows that the loop has passed.
use Rattle.std.proofs.Common.{◌≡◌, map, take}
use Rattle.mltl_base.specs.Atoms.{holds}
use Rattle.mltl_oracle.specs.Shapes.{as_atom}
use Rattle.mltl_oracle.proofs.verdict.truths.Given as goal

abbrev pub invariant-loop-row : goal.invariant-loop-row
invariant-loop-row l = l.known ≡ map (holds (as_atom l.a)) (take l.row-index l.rows)
