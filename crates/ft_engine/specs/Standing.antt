-- The state of the engine after some rows.
use Rattle.std.specs.Prelude.{◌≡◌, ℕ, ◌+◌, ◌-◌, ◌≤◌, ◌<◌, Bool, List, length, slice_get, slice_index, sum, Some, ⊤}
use Rattle.mltl_base.specs.declared.interval.Engine.TheVariants.{Ft as future}
use Rattle.mltl_base.specs.declared.operators.FtOp.{FtOp}
use Rattle.mltl_base.specs.declared.operators.FtOp.TheVariants.{True, Load, Not, And, Until}
use Rattle.mltl_base.specs.declared.program.Program.{Program}
use Rattle.mltl_base.specs.Atoms.{Row}
use Rattle.mltl_base.specs.Formula.{plain, bpd, core_wpd}
use Rattle.mltl_base.specs.Programs.{atoms, formula_at}
use Rattle.mltl_base.specs.Queues.{readers, worst_delays, widest}
use Rattle.mltl_base.specs.Verdicts.{verdicts}
use Rattle.scq_ring.specs.declared.Seen.{Seen}
use Rattle.scq_ring.specs.declared.Seen.TheVariants.{Run, Nothing}
use Rattle.scq_ring.specs.Runs.{IsLongestRun, frontier_of, low_of, verdict_at}
use Rattle.mltl_base.specs.Seats.{part}
use Rattle.ft_engine.specs.declared.engine.Ft.{Ft}
use Rattle.ft_engine.specs.Plans.{IsPaced, plan_of}
use Rattle.ft_engine.specs.Queues.{ReadsAhead, op_at, queue_at, reads_from}
use Rattle.ft_engine.specs.Tables.{HaveVerdicts, known_table}

-- the number of instructions
unfoldable pub instruction_count : Ft → ℕ
instruction_count ft = length ft.queues

-- the first time at which instruction i has no verdict yet
unfoldable pub frontier_at : Ft → ℕ → ℕ
frontier_at ft i = frontier_of (queue_at ft.queues i).ring

-- the first time whose verdict instruction i keeps
unfoldable pub lowest_at : Ft → ℕ → ℕ
lowest_at ft i = low_of (queue_at ft.queues i).ring

-- the verdict of instruction i at a time that it keeps
unfoldable pub kept_verdict : Ft → ℕ → ℕ → Bool
kept_verdict ft i t =
    verdict_at (queue_at ft.queues i).ring (part ft.slab (queue_at ft.queues i).seat) t

-- the number of slots of instruction i
unfoldable pub slots_at : Ft → ℕ → ℕ
slots_at ft i = (queue_at ft.queues i).seat.size

-- the number of slots of all instructions
unfoldable pub slot_total : Ft → ℕ
slot_total ft = length ft.slab

-- the longest run of the verdicts of instruction i from time `from` on; nothing exactly at or past its frontier
abbrev pub ShowsFrom : Ft → ℕ → ℕ → Seen → Type 0
ShowsFrom ft i from (Run end v) = IsLongestRun (frontier_at ft i) (kept_verdict ft i) from end v
ShowsFrom ft i from Nothing = frontier_at ft i ≤ from

-- the time at which instruction i of these reads its operands next
unfoldable pub next_read : List FtOp → Ft → ℕ → ℕ
next_read ops ft i = reads_from (op_at ops i) (queue_at ft.queues i)

-- the reading time is at or past the early time of each operand
abbrev pub ReadsFrom : FtOp → (ℕ → ℕ) → ℕ → Type 0
ReadsFrom True early reads_at = ⊤
ReadsFrom (Load k) early reads_at = ⊤
ReadsFrom (Not g) early reads_at = early g ≤ reads_at
ReadsFrom (And l r) early reads_at = (early l ≤ reads_at) × (early r ≤ reads_at)
ReadsFrom (Until l r window) early reads_at = (early l ≤ reads_at) × (early r ≤ reads_at)

-- the known verdicts of an instruction's formula after the rows
abbrev pub known_of : Program → List Row → ℕ → List Bool
known_of program rows i = verdicts rows (plain (formula_at program future i))

-- the greatest worst delay among instruction i and all operands of all its readers
abbrev pub queue_width : Program → ℕ → ℕ
queue_width program i = widest (worst_delays program.ft) (readers program.ft program.outs) i

-- the engine has taken the rows of this program
pub record FtHasTaken (program : Program) (rows : List Row) (ft : Ft) : Type 0 where
  pub paced : IsPaced (plan_of program.ft program.outs) program.ft ft.queues ft.slab (length rows)
  pub table : HaveVerdicts program.ft (known_table rows (atoms program.bz) program.ft) ft.queues ft.slab
  -- the frontier is the number of known verdicts, and each verdict from the low time on is kept
  pub count : instruction_count ft ≡ length program.ft
  pub frontiers : (i : ℕ) → i < length program.ft → frontier_at ft i ≡ length (known_of program rows i)
  pub verdicts : (i t : ℕ) → i < length program.ft → lowest_at ft i ≤ t → t < frontier_at ft i
      → slice_get (known_of program rows i) t ≡ Some (kept_verdict ft i t)
  -- the frontier lies between n less the worst and n less the best delay
  pub at_least : (i : ℕ) → i < length program.ft
      → length rows ≤ frontier_at ft i + core_wpd (formula_at program future i)
  pub at_most : (i : ℕ) → i < length program.ft → frontier_at ft i ≤ length rows - bpd (formula_at program future i)
  -- an instruction reads on from the least frontier of its operands, at least, and so from n less the width of each
  pub ahead : (i : ℕ) → i < length program.ft
      → ReadsAhead (op_at program.ft i) (frontier_at ft) (next_read program.ft ft i)
  pub reads : (i : ℕ) → i < length program.ft
      → ReadsFrom (op_at program.ft i) (λ g. length rows - queue_width program g) (next_read program.ft ft i)
  -- the low time is 0 or at most n - 1 less the width, and the slots are as many as the program's sizes
  pub lows : (i : ℕ) → i < length program.ft → lowest_at ft i ≤ length rows - 1 - queue_width program i
  pub sizes : (i : ℕ) → i < length program.ft → slots_at ft i ≡ slice_index program.sizes.ft i
  -- the slots of all instructions are as many as the program's, and none is left over
  pub total : slot_total ft ≡ sum program.sizes.ft
