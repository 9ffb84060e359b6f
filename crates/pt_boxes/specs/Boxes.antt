-- The boxes that a ring of spans holds.

use Rattle.std.specs.Prelude.{◌<◌, ◌≤◌, List, length}
use Rattle.scq_ring.specs.Runs.{window}
use Rattle.pt_boxes.specs.declared.boxes.Boxes.{Boxes}
use Rattle.pt_boxes.specs.declared.boxes.Span.{Span}

-- the boxes, oldest first
abbrev pub kept : Boxes → List Span → List Span
kept boxes spans = window boxes.oldest boxes.used spans

-- the spans belong to the ring
pub record SpansOf (boxes : Boxes) (spans : List Span) : Type 0 where
  pub oldest_in : 0 < length spans → boxes.oldest < length spans
  pub used_in : boxes.used ≤ length spans

-- no boxes
abbrev pub no_boxes : Boxes
no_boxes = record { oldest = 0; used = 0 }
