-- The engines of a monitor, after some rows.

use Rattle.std.specs.Prelude.{◌≡◌, ℕ, ◌+◌, ◌-◌, ◌<◌, ◌≤◌, Option, None, Some, List, [], ◌∷◌, ◌++◌}
use Rattle.std.specs.Prelude.{All, IfSome, IsNone, drop, length, slice_set}
use Rattle.mltl_base.specs.declared.report.Report.{Report}
use Rattle.mltl_base.specs.declared.report.Style.{Style}
use Rattle.mltl_base.specs.Atoms.{Row}
use Rattle.mltl_base.specs.Programs.{IsFit, outputs}
use Rattle.mltl_base.specs.Reports.{of_row}
use Rattle.obs_verify.specs.Layout.{HasLayout}
use Rattle.obs_verify.specs.WellFormed.{IsWellFormed}
use Rattle.booleanizer.specs.Evaluation.{numbers_on}
use Rattle.contract_status.specs.declared.cursor.Cursor.{Cursor}
use Rattle.contract_status.specs.Cursors.{FitsCursor}
use Rattle.contract_status.specs.Open as status
use Rattle.contract_status.specs.Standing.{StandFor}
use Rattle.r2u2_monitor.specs.declared.running.Running.{Running}

-- these rows were taken, each of which fits the well-formed program: both engines represent them, and each output has its
-- next time
pub record HasTaken (running : Running) (rows : List Row) : Type 0 where
  pub layout : HasLayout running.checked
  pub formed : IsWellFormed running.checked
  pub fit : All (IsFit running.checked) rows
  pub stand : StandFor running.checked rows running.taken running.ft running.pt running.outs

-- the reports that are open after these rows
abbrev pub open_by : Style → Running → List Row → List Report
open_by style running rows = status.open_of style running.checked rows running.outs

-- no report is open, in either style
abbrev pub IsDrained : Running → Type 0
IsDrained running = (style : Style) (rows : List Row) → HasTaken running rows → open_by style running rows ≡ []

-- the most times of outputs that are left
abbrev pub left_to_tell : Running → ℕ
left_to_tell running = status.times_left running.taken running.outs

-- the engines after a report was returned: the next time of its output is the time after the report's
abbrev pub after_report : Report → Running → Running
after_report report running = record running { outs = slice_set running.outs report.out (report.time + 1) }

-- A report was returned: it is of an existing output, at a time that was taken. Only the next time of this output moved, so
-- fewer times are left.
pub record Yields (report : Report) (before after : Running) : Type 0 where
  pub exists : report.out < length before.checked.outs
  pub taken : report.time < before.taken
  pub moved : after ≡ after_report report before
  pub fewer : left_to_tell after < left_to_tell before

-- the search for open reports may go on at this cursor
abbrev pub ResumesAt : Running → Cursor → Type 0
ResumesAt running cursor = FitsCursor running.checked running.taken running.ft running.pt running.outs cursor

-- the result is the first of the reports that were open, and the other reports are still open
abbrev pub YieldsFirst : Style → Option Report → Running → Running → List Row → Type 0
YieldsFirst style None before after rows = open_by style before rows ≡ []
YieldsFirst style (Some report) before after rows = open_by style before rows ≡ report ∷ open_by style after rows

-- The first report that was open in a style was returned, and the other reports are still open; if none was open, nothing
-- changed. The same rows were taken.
pub record YieldsNext (style : Style) (result : Option Report) (before after : Running) : Type 0 where
  pub first : (rows : List Row) → HasTaken before rows → YieldsFirst style result before after rows
  pub stands : (rows : List Row) → HasTaken before rows → HasTaken after rows
  pub none : IsNone result → after ≡ before
  pub given : IfSome result (λ report. Yields report before after)

-- One more row was taken, whose numbers the Booleanizer has, and all reports that it brings are open. No next time has
-- moved.
pub record EnginesTakeRow (row : Row) (before after : Running) : Type 0 where
  pub program : after.checked ≡ before.checked
  pub taken : after.taken ≡ before.taken + 1
  pub stands : (rows : List Row) → HasTaken before rows → HasTaken after (rows ++ row ∷ [])
  pub opens : (style : Style) (rows : List Row) → HasTaken before rows
      → open_by style after (rows ++ row ∷ []) ≡ of_row style 0 (outputs before.checked) rows row
  pub told : after.outs ≡ before.outs
  pub seen : after.bz ≡ numbers_on row before.checked.bz

-- the most outputs that a search from the cursor on may still look at
abbrev pub outs_left : Running → Cursor → ℕ
outs_left running cursor = length running.checked.outs - cursor.out

-- These reports were returned, the first of the open reports, and the others are still open. Only next times moved.
pub record YieldsMany (style : Style) (told : List Report) (before after : Running) : Type 0 where
  pub first : (rows : List Row) → HasTaken before rows
      → open_by style before rows ≡ told ++ open_by style after rows
  pub stands : (rows : List Row) → HasTaken before rows → HasTaken after rows
  pub moved : after ≡ record before { outs = after.outs }

-- `count` reports were written to the front of a list, which has room for them, and the rest of it stayed
pub record WritesFront (count : ℕ) (before after : List Report) : Type 0 where
  pub within : count ≤ length before
  pub rest : drop count after ≡ drop count before
