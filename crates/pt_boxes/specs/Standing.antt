-- The state of the engine after some rows.

use Rattle.std.specs.Prelude.{◌≡◌, ℕ, ◌-◌, ◌≤◌, ◌<◌, Bool, List, length, sum}
use Rattle.mltl_base.specs.declared.interval.Engine.TheVariants.{Pt as past}
use Rattle.mltl_base.specs.declared.interval.Interval.{Interval}
use Rattle.mltl_base.specs.declared.operators.PtOp.TheVariants.{Since}
use Rattle.mltl_base.specs.declared.program.Program.{Program}
use Rattle.mltl_base.specs.Atoms.{Row}
use Rattle.mltl_base.specs.Formula.{plain}
use Rattle.mltl_base.specs.Meaning.{sat}
use Rattle.mltl_base.specs.Programs.{formula_at}
use Rattle.mltl_base.specs.Queues.{boxes_of}
use Rattle.pt_boxes.specs.declared.boxes.Span.{Span}
use Rattle.pt_boxes.specs.declared.engine.Pt.{Pt}
use Rattle.pt_boxes.specs.Nodes.{AreKept, boxes_in, node_at, op_at}
use Rattle.pt_boxes.specs.Spans.{SpansLieApart, SpanSince}

-- the number of instructions
unfoldable pub instruction_count : Pt → ℕ
instruction_count pt = length pt.nodes

-- the number of rows taken
unfoldable pub row_count : Pt → ℕ
row_count pt = pt.rows

-- the truth of instruction i at the last row
unfoldable pub now_at : Pt → ℕ → Bool
now_at pt i = (node_at pt.nodes i).truth

-- the boxes of instruction i, oldest first: none unless it is a Since
unfoldable pub boxes_at : Pt → ℕ → List Span
boxes_at pt i = boxes_in pt.slab (node_at pt.nodes i)

-- the number of boxes that instruction i has room for
unfoldable pub room_at : Pt → ℕ → ℕ
room_at pt i = (node_at pt.nodes i).seat.size

-- the number of boxes that all instructions have room for
unfoldable pub room_total : Pt → ℕ
room_total pt = length pt.slab

-- the formula of instruction i on the rows, by time
abbrev pub formula_meaning : Program → List Row → ℕ → ℕ → Bool
formula_meaning program rows i t = sat rows (plain (formula_at program past i)) t

-- the engine has taken the rows of this program
pub record PtHasTaken (program : Program) (rows : List Row) (pt : Pt) : Type 0 where
  pub seated : AreKept program.pt (length rows) pt.nodes pt.slab
  pub taken : row_count pt ≡ length rows
  -- each instruction holds at the last row exactly if its formula does
  pub count : instruction_count pt ≡ length program.pt
  pub now : (i : ℕ) → i < length program.pt → 0 < length rows
      → now_at pt i ≡ formula_meaning program rows i (length rows - 1)
  -- the room for boxes is fixed, and no instruction has more
  pub rooms : (i : ℕ) → i < length program.pt → room_at pt i ≡ boxes_of (op_at program.pt i)
  pub few : (i : ℕ) → i < length program.pt → length (boxes_at pt i) ≤ boxes_of (op_at program.pt i)
  -- all instructions have as much room as the program states
  pub total : room_total pt ≡ sum program.sizes.pt
  -- the boxes of a Since are long enough, lie apart, end from n - 1 to n - 1 + hi, and cover the times at which it holds
  pub apart : (i l r : ℕ) (window : Interval) → i < length program.pt → op_at program.pt i ≡ Since l r window
      → SpansLieApart window (length rows) 0 (boxes_at pt i)
  pub told : (i l r : ℕ) (window : Interval) → i < length program.pt → op_at program.pt i ≡ Since l r window
      → SpanSince window (formula_meaning program rows l) (formula_meaning program rows r) (length rows) (boxes_at pt i)
