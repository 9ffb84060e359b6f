-- Results of the calls of C that do the work of several calls.

use Rattle.std.specs.Prelude.{ℕ, zero, suc, ◌≡◌, ◌⊎◌, ◌-◌, ◌*◌, ◌<◌, ◌≤◌, max}
use Rattle.std.specs.Prelude.{Option, Some, None, List, [], ◌∷◌, ◌++◌, drop, length, take}
use Rattle.mltl_base.specs.declared.report.Style.{Style}
use Rattle.mltl_base.specs.Atoms.{Row}
use Rattle.r2u2_monitor.specs.declared.state.State.{State}
use Rattle.r2u2_monitor.specs.Bursts.{OpensFew, most_reports}
use Rattle.r2u2_monitor.specs.Monitoring.{IsDrained, TakesRow, program_of}
use Rattle.r2u2_monitor.specs.RowFaults.{IsReady}
use Rattle.r2u2_c.specs.declared.batches.Batch.{Batch}
use Rattle.r2u2_c.specs.declared.report.Told.{Told}
use Rattle.r2u2_c.specs.Exports.{TellsFirst}

-- the reports are the reports that single calls return, one after another
abbrev pub TellsEach : Style → List Told → State → State → Type 0
TellsEach style [] before after = after ≡ before
TellsEach style (read ∷ more) before after =
    (next : State) × TellsFirst style read before next × TellsEach style more next after

-- the open monitor has returned these reports
abbrev pub TellsMany : Style → List Told → Option State → Option State → Type 0
TellsMany style told (Some before) (Some after) = TellsEach style told before after
TellsMany style told (Some before) None = ⊥
TellsMany style told None after = ⊥

-- only the first `count` members of a list were written
pub record WritesFront (count : ℕ) (before after : List Told) : Type 0 where
  pub within : count ≤ length before
  pub rest : drop count after ≡ drop count before

-- the number of numbers in a row of the monitor: its width, or one if it has no columns, so that no row of an array is empty
abbrev pub row_size : State → ℕ
row_size monitor = max (program_of monitor).width 1

-- the first `count` rows of an array, each of `size` numbers
abbrev pub rows_in : ℕ → ℕ → Row → List Row
rows_in size zero numbers = []
rows_in size (suc count) numbers = take size numbers ∷ rows_in size count (drop size numbers)

-- the first row of an array
abbrev pub first_row : Option State → Row → Row
first_row (Some monitor) numbers = take (row_size monitor) numbers
first_row None numbers = []

-- the monitor took a row, and then returned these reports
pub record TakesOne (style : Style) (row : Row) (told : List Told) (before after : State) : Type 0 where
  pub ready : IsReady before row
  pub taken : State
  pub takes : TakesRow row before taken
  pub few : OpensFew row before taken
  pub each : TellsEach style told taken after

-- the monitor took these rows in turn, and returned the reports of each after it
abbrev pub TakesEach : Style → List Row → List Told → State → State → Type 0
TakesEach style [] told before after = (told ≡ []) × (after ≡ before)
TakesEach style (row ∷ more) told before after =
    (here : List Told) × (rest : List Told) × (next : State) × (told ≡ here ++ rest)
    × TakesOne style row here before next × TakesEach style more rest next after

-- no further row was taken: no number is left, a row's reports might not fit into the room, or the row can't be taken
abbrev pub EndsBefore : ℕ → ℕ → Row → ℕ → State → Type 0
EndsBefore size most numbers room monitor =
    (numbers ≡ []) ⊎ (room < most) ⊎ ¬ IsReady monitor (take size numbers)

-- The first rows of the numbers were taken, and a list begins with their reports; the next row wasn't taken. If there was
-- room for more reports, none is left.
pub record TakesRows (style : Style) (size most : ℕ) (numbers : Row) (batch : Batch) (old new : List Told)
    (before after : State) : Type 0 where
  pub each : TakesEach style (rows_in size batch.rows numbers) (take batch.reports new) before after
  pub front : WritesFront batch.reports old new
  pub drained : 0 < batch.rows → batch.reports < length old → IsDrained after
  pub ends : EndsBefore size most (drop (batch.rows * size) numbers) (length old - batch.reports) after

-- the open monitor has taken the first rows of these numbers
abbrev pub TakesMany : Style → Row → Batch → List Told → List Told → Option State → Option State → Type 0
TakesMany style numbers batch old new (Some before) (Some after) =
    TakesRows style (row_size before) (most_reports (program_of before)) numbers batch old new before after
TakesMany style numbers batch old new (Some before) None = ⊥
TakesMany style numbers batch old new None after = ⊥
