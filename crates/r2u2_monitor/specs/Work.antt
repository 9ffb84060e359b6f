-- The most steps of one row, by the program alone: from the check of the row to the last of its reports.

use Rattle.std.specs.Prelude.{ℕ, ◌+◌, ◌*◌, length}
use Rattle.mltl_base.specs.declared.program.Program.{Program}
use Rattle.ft_engine.specs.Running as future
use Rattle.pt_boxes.specs.Running as past
use Rattle.r2u2_monitor.specs.Bursts.{most_reports}

-- the engines take a row: a step for each instruction of the Booleanizer, and the steps of both engines
abbrev pub running_work : Program → ℕ
running_work program = length program.bz + future.row_work program + past.row_work program

-- The row is checked and taken: a step for each output, which may have a report left, for each instruction of the
-- Booleanizer, which may read a column, and for each column; then the engines take the row.
abbrev pub taking_work : Program → ℕ
taking_work program = length program.outs + length program.bz + program.width + running_work program + 1

-- this number of reports, and the end after them, are searched for: a step for each output, and two for each search
abbrev pub telling_work : Program → ℕ → ℕ
telling_work program reports = length program.outs + 2 * (reports + 1)

-- the row is taken, and its reports are searched for
abbrev pub row_work : Program → ℕ
row_work program = taking_work program + telling_work program (most_reports program)
