-- Past-time instructions, their truths and their parts of the slab of boxes.

use Rattle.std.specs.Prelude.{◌≡◌, ℕ, ◌<◌, false, List, length, slice_index_or, ⊤}
use Rattle.mltl_base.specs.declared.interval.Interval.{Interval}
use Rattle.mltl_base.specs.declared.operators.PtOp.{PtOp}
use Rattle.mltl_base.specs.declared.operators.PtOp.TheVariants.{True, Since}
use Rattle.mltl_base.specs.Queues.{boxes as box_count, boxes_of}
use Rattle.mltl_base.specs.Seats.{AreSeated, no_seat, part}
use Rattle.pt_boxes.specs.declared.boxes.Boxes.{Boxes}
use Rattle.pt_boxes.specs.declared.boxes.Span.{Span}
use Rattle.pt_boxes.specs.declared.rows.Node.{Node}
use Rattle.pt_boxes.specs.Boxes.{SpansOf, kept, no_boxes}
use Rattle.pt_boxes.specs.Spans.{SpansLieApart}

-- instruction i, True past the last one
abbrev pub op_at : List PtOp → ℕ → PtOp
op_at ops i = slice_index_or ops i True

-- a node without boxes: the node past the end of a list of nodes
abbrev pub no_node : Node
no_node = record { boxes = no_boxes; truth = false; seat = no_seat }

-- node i; past the last one, a node without boxes
abbrev pub node_at : List Node → ℕ → Node
node_at nodes i = slice_index_or nodes i no_node

-- the boxes of a node, oldest first
abbrev pub boxes_in : List Span → Node → List Span
boxes_in slab node = kept node.boxes (part slab node.seat)

-- the parts of the slab follow one another and end within it
abbrev pub SpansAreLaid : List Node → List Span → Type 0
SpansAreLaid nodes slab = AreSeated no_node (λ node. node.seat) nodes (length slab) (length nodes)

-- the boxes of a Since lie apart after n rows; another instruction has no such condition
abbrev pub HasBoxes : PtOp → ℕ → List Span → Type 0
HasBoxes (Since l r i) n boxes = SpansLieApart i n 0 boxes
HasBoxes op n boxes = ⊤

-- after n rows, the boxes of a Since with this interval have their room, and lie apart
pub record KeepsSince (i : Interval) (n : ℕ) (boxes : Boxes) (own : List Span) : Type 0 where
  pub room : length own ≡ box_count i
  pub belongs : SpansOf boxes own
  pub apart : SpansLieApart i n 0 (kept boxes own)

-- after n rows, the boxes of an instruction have their room, and lie apart
pub record KeepsRoom (op : PtOp) (n : ℕ) (boxes : Boxes) (own : List Span) : Type 0 where
  pub room : length own ≡ boxes_of op
  pub belongs : SpansOf boxes own
  pub apart : HasBoxes op n (kept boxes own)

-- after n rows, the boxes of all instructions have their room and lie apart, each in its part of the slab
pub record AreKept (ops : List PtOp) (n : ℕ) (nodes : List Node) (slab : List Span) : Type 0 where
  pub same_length : length nodes ≡ length ops
  pub laid : SpansAreLaid nodes slab
  pub kept : (i : ℕ) → i < length nodes → KeepsRoom (op_at ops i) n (node_at nodes i).boxes
      (part slab (node_at nodes i).seat)
