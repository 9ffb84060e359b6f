-- The rows that a monitor represents.

use Rattle.std.specs.Prelude.{◌≡◌, ◌↔◌, ℕ, ◌+◌, ◌<◌, ◌≤◌, Option, List, [], ◌∷◌, ◌++◌, length, map, IfNone, IfSome}
use Rattle.std.specs.Prelude.{IsNone, Some, slice_get, slice_index}
use Rattle.std.specs.List.{range_with_len}
use Rattle.mltl_base.specs.declared.limits.TheConstants.{MAX_MISSION}
use Rattle.mltl_base.specs.declared.program.Program.{Program}
use Rattle.mltl_base.specs.declared.report.Report.{Report}
use Rattle.mltl_base.specs.declared.report.Style.{Style}
use Rattle.mltl_base.specs.declared.report.Word.{Word}
use Rattle.mltl_base.specs.Atoms.{Row}
use Rattle.mltl_base.specs.Programs.{outputs}
use Rattle.mltl_base.specs.Reports.{Output, of_row, words}
use Rattle.mltl_base.specs.Settled.{IsPrefix}
use Rattle.booleanizer.specs.Evaluation.{numbers_on}
use Rattle.ft_engine.specs.Standing.{instruction_count, slot_total, slots_at}
use Rattle.pt_boxes.specs.Standing.{room_total}
use Rattle.r2u2_monitor.specs.declared.state.State.{State}
use Rattle.r2u2_monitor.specs.Running as running

-- the program that the monitor was loaded with
abbrev pub program_of : State → Program
program_of monitor = monitor.running.checked

-- the number of rows that the monitor has taken
abbrev pub taken_by : State → ℕ
taken_by monitor = monitor.running.taken

-- the next time of each output
abbrev pub places_of : State → List ℕ
places_of monitor = monitor.running.outs

-- the slots of each future-time instruction
abbrev pub slots_of : State → List ℕ
slots_of monitor = map (slots_at monitor.running.ft) (range_with_len 0 (instruction_count monitor.running.ft))

-- the slots of all future-time instructions together
abbrev pub slot_total_of : State → ℕ
slot_total_of monitor = slot_total monitor.running.ft

-- the room for boxes of all past-time instructions together
abbrev pub room_total_of : State → ℕ
room_total_of monitor = room_total monitor.running.pt

-- the last row that the monitor has taken
abbrev pub last_of : State → Row
last_of monitor = monitor.last

-- the row that the monitor has read, to be taken next
abbrev pub read_of : State → Row
read_of monitor = monitor.read

-- the monitor has taken these rows, and its last row is the last of them
pub record Stands (monitor : State) (rows : List Row) : Type 0 where
  pub taken : running.HasTaken monitor.running rows
  pub last : (before : List Row) (row : Row) → rows ≡ before ++ row ∷ [] → last_of monitor ≡ row

-- the reports that a monitor of these rows hasn't returned yet
abbrev pub open_in : Style → State → List Row → List Report
open_in style monitor rows = running.open_by style monitor.running rows

-- the monitor has no report to return, in either style
abbrev pub IsDrained : State → Type 0
IsDrained monitor = running.IsDrained monitor.running

-- the most times of outputs that are left to report
abbrev pub left_to_tell : State → ℕ
left_to_tell monitor = running.left_to_tell monitor.running

-- the result is the first of the reports that were open, and the other reports are still open
abbrev pub ReturnsFirst : Style → Option Report → State → State → List Row → Type 0
ReturnsFirst style result before after rows = running.YieldsFirst style result before.running after.running rows

-- the report was returned, and nothing else changed
pub record HasGiven (report : Report) (before after : State) : Type 0 where
  pub moved : after.running ≡ running.after_report report before.running
  pub last : last_of after ≡ last_of before
  pub read : read_of after ≡ read_of before

-- A report was returned: it is of an existing output, at a time that was taken, below MAX_MISSION. Nothing else changed, and
-- fewer times are left to report.
pub record IsReturned (report : Report) (before after : State) : Type 0 where
  pub moved : HasGiven report before after
  pub exists : report.out < length (program_of before).outs
  pub taken : report.time < taken_by before
  pub early : report.time < MAX_MISSION
  pub fewer : left_to_tell after < left_to_tell before

-- The first report that was open in a style was returned, and the other reports are still open; if none was open, nothing
-- changed. The monitor represents the same rows.
pub record ReturnsNext (style : Style) (result : Option Report) (before after : State) : Type 0 where
  pub first : (rows : List Row) → Stands before rows → ReturnsFirst style result before after rows
  pub stands : (rows : List Row) → Stands before rows → Stands after rows
  pub none : IsNone result ↔ IsDrained before
  pub same : IfNone result (after ≡ before)
  pub drained : IfNone result (IsDrained after)
  pub given : IfSome result (λ report. IsReturned report before after)
  pub program : program_of after ≡ program_of before
  pub as_many : taken_by after ≡ taken_by before

-- the monitor represents the same as before
pub record IsSame (before after : State) : Type 0 where
  pub running : after.running ≡ before.running
  pub last : last_of after ≡ last_of before

-- the monitor has taken one more row, and has returned no report of it; no next time has moved
pub record TakesRow (row : Row) (before after : State) : Type 0 where
  pub program : program_of after ≡ program_of before
  pub taken : taken_by after ≡ taken_by before + 1
  pub last : last_of after ≡ row
  pub stands : (rows : List Row) → Stands before rows → Stands after (rows ++ row ∷ [])
  pub opens : (style : Style) (rows : List Row) → Stands before rows
      → open_in style after (rows ++ row ∷ []) ≡ of_row style 0 (outputs (program_of before)) rows row
  pub told : places_of after ≡ places_of before

-- the words that were known are a prefix of the words that are known now, and the next time of their output is the first
-- past them
pub record GoesOnPast (known now : List Word) (next_time : ℕ) : Type 0 where
  pub begins : IsPrefix known now
  pub next : next_time ≡ length known

-- after the row, each output goes on past the words that were known before
abbrev pub KeepsKnown : Row → State → State → Type 0
KeepsKnown row before after =
    (rows : List Row) (k : ℕ) (o : Output) → Stands before rows
    → slice_get (outputs (program_of after)) k ≡ Some o
    → GoesOnPast (words rows o) (words (rows ++ row ∷ []) o) (slice_index (places_of after) k)

-- each monitor represents some rows, at most MAX_MISSION of them, its Booleanizer has the numbers of the last one, and it
-- has room for a row
pub record MonitorIsSound (monitor : State) : Type 0 where
  pub some : (rows : List Row) × Stands monitor rows
  pub early : taken_by monitor ≤ MAX_MISSION
  pub numbers : length monitor.running.bz ≡ length (program_of monitor).bz
  pub seen : 0 < taken_by monitor → monitor.running.bz ≡ numbers_on (last_of monitor) (program_of monitor).bz
  pub read_wide : length (read_of monitor) ≡ (program_of monitor).width
