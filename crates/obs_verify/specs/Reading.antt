-- Columns that instructions read and that lie in a row.

use Rattle.std.specs.Prelude.{ℕ, ◌<◌, ⊤}
use Rattle.mltl_base.specs.declared.operators.BzOp as bz

-- the column that an instruction reads, if it reads one, is below the width
abbrev pub ReadsWithin : ℕ → bz.BzOp → Type 0
ReadsWithin width (bz.TheVariants.Column c) = c < width
ReadsWithin width (bz.TheVariants.IsTrue c) = c < width
ReadsWithin width op = ⊤
