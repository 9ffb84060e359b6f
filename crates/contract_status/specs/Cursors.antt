-- The place from which the search for open reports goes on, after the same rows.

use Rattle.std.specs.Prelude.{ℕ, ◌≡◌, ◌+◌, ◌-◌, ◌<◌, ◌≤◌, Option, IsSome, Some, None, List, length, slice_get}
use Rattle.mltl_base.specs.declared.program.Out.{Out}
use Rattle.mltl_base.specs.declared.program.Program.{Program}
use Rattle.mltl_base.specs.declared.report.Report.{Report}
use Rattle.mltl_base.specs.Atoms.{Row}
use Rattle.ft_engine.specs.declared.Ft.{Ft}
use Rattle.ft_engine.specs.Standing as future
use Rattle.pt_boxes.specs.declared.Pt.{Pt}
use Rattle.pt_boxes.specs.Standing as past
use Rattle.contract_status.specs.declared.cursor.Cursor.{Cursor}
use Rattle.contract_status.specs.declared.engines.Engines.{Engines}
use Rattle.contract_status.specs.declared.engines.Stretch.{Stretch}
use Rattle.contract_status.specs.Open.{AreKnown}
use Rattle.contract_status.specs.Stretches.{AreTold, HaveTaken, IsFirstOpen, known_words}

-- all outputs before the cursor's were reported, and the stretch that it keeps is the first that is open
pub record IsCursor (program : Program) (rows : List Row) (next_times : List ℕ) (cursor : Cursor) : Type 0 where
  pub told : AreTold program rows next_times cursor.out
  pub kept : (stretch : Stretch) → cursor.stretch ≡ Some stretch
      → IsFirstOpen program rows next_times cursor.out stretch

-- the cursor fits outputs at these next times, over engines that have taken n rows
abbrev pub FitsCursor : Program → ℕ → Ft → Pt → List ℕ → Cursor → Type 0
FitsCursor program n ft pt next_times cursor =
    (rows : List Row) → future.FtHasTaken program rows ft → past.PtHasTaken program rows pt → length rows ≡ n
    → AreKnown program rows next_times → IsCursor program rows next_times cursor

-- the cursor fits outputs at these next times, over both engines at once
abbrev pub FitsEngines : Program → Engines → List ℕ → Cursor → Type 0
FitsEngines program engines next_times cursor =
    (rows : List Row) → HaveTaken program rows engines → AreKnown program rows next_times
    → IsCursor program rows next_times cursor

-- After a report, with n rows taken, the search goes on at the report's output, or at the next output if no later time was
-- taken. If the stretch of the cursor goes on past the report's time, it stays.
pub record MovesPast (n : ℕ) (report : Report) (before after : Cursor) : Type 0 where
  pub here : report.time + 1 < n → after.out ≡ report.out
  pub next : report.time + 1 ≡ n → after.out ≡ report.out + 1
  pub keeps : (stretch : Stretch) → before.stretch ≡ Some stretch → report.time < stretch.last → report.time + 1 < n
      → after.stretch ≡ Some stretch

-- After a search, with n rows taken, the next search goes on past the report that was returned, or past all outputs if there
-- was none.
abbrev pub MovesOn : ℕ → ℕ → Option Report → Cursor → Cursor → Type 0
MovesOn n outs (Some report) before after = MovesPast n report before after
MovesOn n outs None before after = after.out ≡ outs

-- if the word of a report is known at the next time of its output too, the cursor has a stretch
abbrev pub KeepsStretch : Program → List Row → Report → Cursor → Type 0
KeepsStretch program rows report after =
    (output : Out) → slice_get program.outs report.out ≡ Some output
    → slice_get (known_words program rows output) (report.time + 1) ≡ Some report.word → IsSome after.stretch

-- the most outputs that a search from the cursor on may still look at
abbrev pub outs_after : List ℕ → Cursor → ℕ
outs_after next_times cursor = length next_times - cursor.out

-- a search among `outs` outputs, from `first` on, takes at most a step for each output up to the one that it finds
abbrev pub LooksOnward : ℕ → ℕ → Option (ℕ × Stretch) → ℕ → ℕ → Type 0
LooksOnward outs first (Some (k, stretch)) before after = after + (outs - k) ≤ before + (outs - first) + 1
LooksOnward outs first None before after = after ≤ before + (outs - first)
