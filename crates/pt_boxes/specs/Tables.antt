-- The truths of past-time instructions by time, and the nodes that hold them.

use Rattle.std.specs.Prelude.{◌≡◌, ℕ, ◌+◌, ◌-◌, ◌<◌, Bool, true, not, ◌&&◌, List, length, ℤ, ⊤}
use Rattle.mltl_base.specs.declared.operators.PtOp.{PtOp}
use Rattle.mltl_base.specs.declared.operators.PtOp.TheVariants.{True, Load, Not, And, Since}
use Rattle.mltl_base.specs.Meaning.{since_at}
use Rattle.booleanizer.specs.Evaluation.{IsTruthIn}
use Rattle.pt_boxes.specs.declared.boxes.Span.{Span}
use Rattle.pt_boxes.specs.declared.rows.Node.{Node}
use Rattle.pt_boxes.specs.Nodes.{op_at, node_at, boxes_in}
use Rattle.pt_boxes.specs.Spans.{SpanSince}

-- truths by number and time
abbrev pub TruthTable : Type 0
TruthTable = ℕ → ℕ → Bool

-- the value of an instruction at a time, over the values of loaded Booleans and of instructions
abbrev pub op_truth : PtOp → TruthTable → TruthTable → ℕ → Bool
op_truth True loaded table t = true
op_truth (Load k) loaded table t = loaded k t
op_truth (Not g) loaded table t = not (table g t)
op_truth (And l r) loaded table t = table l t && table r t
op_truth (Since l r i) loaded table t = since_at i (table l) (table r) t

-- the table has the values of these instructions at the first n times
abbrev pub IsTruthTable : List PtOp → TruthTable → ℕ → TruthTable → Type 0
IsTruthTable ops loaded n table = (i t : ℕ) → i < length ops → t < n → table i t ≡ op_truth (op_at ops i) loaded table t

-- the boxes of a Since represent its values in the table after n rows
abbrev pub BoxesRepresent : PtOp → TruthTable → ℕ → List Span → Type 0
BoxesRepresent (Since l r i) table n boxes = SpanSince i (table l) (table r) n boxes
BoxesRepresent op table n boxes = ⊤

-- after n rows the nodes hold the values of the last row, and boxes that represent the table
pub record HasTable (ops : List PtOp) (table : TruthTable) (n : ℕ) (nodes : List Node) (slab : List Span) : Type 0 where
  pub told : (i : ℕ) → i < length ops → BoxesRepresent (op_at ops i) table n (boxes_in slab (node_at nodes i))
  pub truths : (i : ℕ) → i < length ops → 0 < n → (node_at nodes i).truth ≡ table i (n - 1)

-- the Booleans that instructions load are the values of the loaded table at time t
abbrev pub LoadsMatchTable : List PtOp → List ℤ → TruthTable → ℕ → Type 0
LoadsMatchTable ops numbers loaded t =
    (i k : ℕ) (v : Bool) → i < length ops → op_at ops i ≡ Load k → IsTruthIn numbers k v → v ≡ loaded k t

-- an instruction can take the row at time `now`: the nodes before it hold their values at that time, its boxes represent the
-- earlier rows, and the table's next value is the instruction's
pub record IsTurn (op : PtOp) (numbers : List ℤ) (loaded table : TruthTable) (now : ℕ) (before : List Node)
    (boxes : List Span) : Type 0 where
  pub operands : (g : ℕ) → g < length before → (node_at before g).truth ≡ table g now
  pub told : BoxesRepresent op table now boxes
  pub here : table (length before) now ≡ op_truth op loaded table now
  pub loads : (k : ℕ) (v : Bool) → op ≡ Load k → IsTruthIn numbers k v → v ≡ loaded k now

-- an instruction has taken the row at time `now`: its value is the table's, and its boxes represent this row too
pub record TookTurn (op : PtOp) (table : TruthTable) (now : ℕ) (before : List Node) (value : Bool)
    (boxes : List Span) : Type 0 where
  pub told : BoxesRepresent op table (now + 1) boxes
  pub truth : value ≡ table (length before) now
