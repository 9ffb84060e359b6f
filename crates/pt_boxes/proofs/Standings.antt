-- What nodes that have taken rows, and have their table, say of the engine.
use Rattle.std.proofs.Common.{◌≡◌, ℕ, List, length, sum, arith, refl, subst, sym, ◌∙◌}
use Rattle.mltl_base.specs.declared.interval.Interval.{Interval}
use Rattle.mltl_base.specs.declared.operators.PtOp.{PtOp}
use Rattle.mltl_base.specs.declared.operators.PtOp.TheVariants.{Since}
use Rattle.mltl_base.specs.declared.program.Program.{Program}
use Rattle.mltl_base.specs.Atoms.{Row}
use Rattle.mltl_base.specs.Seats.{part}
use Rattle.mltl_base.proofs.Seats.{length-part}
use Rattle.pt_boxes.specs.declared.boxes.Span.{Span}
use Rattle.pt_boxes.specs.declared.engine.Pt.{Pt}
use Rattle.pt_boxes.specs.Nodes.{AreKept, HasBoxes, boxes_in, node_at, op_at}
use Rattle.pt_boxes.specs.Spans.{SpanSince}
use Rattle.pt_boxes.specs.Standing.{PtHasTaken, boxes_at, instruction_count, formula_meaning, now_at, room_at, room_total, row_count}
use Rattle.pt_boxes.specs.Tables.{HasTable, BoxesRepresent, TruthTable}
use Rattle.pt_boxes.proofs.Rings.{length-kept}

pub stands_with : (program : Program) (rows : List Row) (pt : Pt) → AreKept program.pt (length rows) pt.nodes pt.slab → pt.rows ≡ length rows
    → HasTable program.pt (formula_meaning program rows) (length rows) pt.nodes pt.slab → length pt.slab ≡ sum program.sizes.pt → PtHasTaken program rows pt
unfolding boxes_at instruction_count now_at room_at room_total row_count
stands_with program rows pt kept taken has total =
    let nodes = pt.nodes in
    let slab = pt.slab in
    let same = kept.same_length in
    record {
      seated = kept;
      taken = taken;
      count = same;
      now = λ i h some. has.truths i h some;
      rooms = λ i h. sym (length-part slab (node_at nodes i).seat (kept.laid.within i (omega arith))) ∙ (kept.kept i (omega arith)).room;
      few = λ i h.
          let node = node_at nodes i in
          let k = kept.kept i (omega arith) in
          let used : length (boxes_in slab node) ≡ node.boxes.used = length-kept node.boxes (part slab node.seat) k.belongs in
          omega (arith, k.room, k.belongs.used_in);
      total = total;
      apart = λ i l r window h is. subst (λ (op : PtOp). HasBoxes op (length rows) (boxes_in slab (node_at nodes i))) is (kept.kept i (omega arith)).apart;
      told = λ i l r window h is. subst (λ (op : PtOp). BoxesRepresent op (formula_meaning program rows) (length rows) (boxes_in slab (node_at nodes i))) is (has.told i h);
    }

-- what a Since's boxes tell, those of any instruction tell
told_of : (op : PtOp) (table : TruthTable) (n : ℕ) (boxes : List Span) → ((l r : ℕ) (window : Interval) → op ≡ Since l r window → SpanSince window (table l) (table r) n boxes) → BoxesRepresent op table n boxes
told_of (Since l r window) table n boxes h = h l r window refl
told_of _ table n boxes h = tt

pub table_of : (program : Program) (rows : List Row) (pt : Pt) → PtHasTaken program rows pt → HasTable program.pt (formula_meaning program rows) (length rows) pt.nodes pt.slab
unfolding boxes_at now_at
table_of program rows pt s = record {
  told = λ i h. told_of (op_at program.pt i) (formula_meaning program rows) (length rows) (boxes_in pt.slab (node_at pt.nodes i)) (λ l r window is. s.told i l r window h is);
  truths = λ i h some. s.now i h some;
}

pub total_of : (program : Program) (rows : List Row) (pt : Pt) → PtHasTaken program rows pt → length pt.slab ≡ sum program.sizes.pt
unfolding room_total
total_of program rows pt s = s.total

pub rows_of : (program : Program) (rows : List Row) (pt : Pt) → PtHasTaken program rows pt → pt.rows ≡ length rows
unfolding row_count
rows_of program rows pt s = s.taken
