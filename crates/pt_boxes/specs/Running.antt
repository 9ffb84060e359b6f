-- The cost of a row.

use Rattle.std.specs.Prelude.{ℕ, ◌+◌, sum_by}
use Rattle.mltl_base.specs.declared.program.Program.{Program}

-- the most steps of one row: for each instruction its boxes, and two
abbrev pub row_work : Program → ℕ
row_work program = sum_by (λ size. size + 2) program.sizes.pt
