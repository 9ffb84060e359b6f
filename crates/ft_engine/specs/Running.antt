-- The cost of a row.
use Rattle.std.specs.Prelude.{ℕ, length, slice_index}
use Rattle.mltl_base.specs.declared.program.Program.{Program}
use Rattle.ft_engine.specs.Queues.{work_before}

-- the most steps of one row: for each instruction 4 * (the greatest size of an operand + its own size + 2)
abbrev pub row_work : Program → ℕ
row_work program = work_before program.ft (slice_index program.sizes.ft) (length program.ft)
