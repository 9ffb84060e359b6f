-- Nodes that begin again stand for no rows.

use Rattle.std.proofs.Common.{◌≡◌, ◌+◌, ◌<◌, ℕ, List, [], length, set, sum, inl, inr, arith, ap, subst, sym, ◌∙◌}
use Rattle.std.proofs.lemmas.Bool.{cases_eq}
use Rattle.std.proofs.lemmas.List.{get_or-set_other, get_or-set_same}
use Rattle.mltl_base.specs.declared.program.Program.{Program}
use Rattle.mltl_base.specs.Atoms.{Row}
use Rattle.mltl_base.specs.declared.seat.Seat.{Seat}
use Rattle.mltl_base.specs.Seats.{part}
use Rattle.pt_boxes.specs.declared.boxes.Boxes.{Boxes}
use Rattle.pt_boxes.specs.declared.boxes.Span.{Span}
use Rattle.pt_boxes.specs.declared.engine.Pt.{Pt}
use Rattle.pt_boxes.specs.declared.rows.Node.{Node}
use Rattle.pt_boxes.specs.Boxes.{no_boxes}
use Rattle.pt_boxes.specs.Nodes.{boxes_in, no_node, node_at, op_at}
use Rattle.pt_boxes.specs.Standing.{PtHasTaken, formula_meaning, room_total}
use Rattle.pt_boxes.proofs.Making.{first_apart, first_belongs, first_told}
use Rattle.pt_boxes.proofs.Rings.{none_kept}
use Rattle.pt_boxes.proofs.Standings.{stands_with}

-- one more node that begins again
pub seats_more : (old nodes : List Node) (i : ℕ) (new : Node) → i < length nodes → ((j : ℕ) → (node_at nodes j).seat ≡ (node_at old j).seat) → new.seat ≡ (node_at nodes i).seat
    → (j : ℕ) → (node_at (set nodes i new) j).seat ≡ (node_at old j).seat
seats_more old nodes i new inside seats same j = elim (cases_eq j i) [
  | inl here ↦ subst (λ (k : ℕ). (node_at (set nodes i new) k).seat ≡ (node_at old k).seat) (sym here)
      (ap (λ (n : Node). n.seat) (get_or-set_same nodes i new no_node inside) ∙ same ∙ seats i)
  | inr other ↦ ap (λ (n : Node). n.seat) (get_or-set_other nodes i j new no_node other) ∙ seats j
]

pub emptied_more : (nodes : List Node) (i : ℕ) (new : Node) → i < length nodes → ((j : ℕ) → j < i → (node_at nodes j).boxes ≡ no_boxes) → new.boxes ≡ no_boxes
    → (j : ℕ) → j < i + 1 → (node_at (set nodes i new) j).boxes ≡ no_boxes
emptied_more nodes i new inside before latest j below = elim (cases_eq j i) [
  | inl here ↦ subst (λ (k : ℕ). (node_at (set nodes i new) k).boxes ≡ no_boxes) (sym here)
      (ap (λ (n : Node). n.boxes) (get_or-set_same nodes i new no_node inside) ∙ latest)
  | inr other ↦ ap (λ (n : Node). n.boxes) (get_or-set_other nodes i j new no_node other) ∙ before j (omega arith)
]

-- all nodes have begun again, each with its part of the slab
pub record AreRestarted (old new : List Node) : Type 0 where
  pub many : length new ≡ length old
  pub seats : (i : ℕ) → (node_at new i).seat ≡ (node_at old i).seat
  pub emptied : (i : ℕ) → i < length old → (node_at new i).boxes ≡ no_boxes

-- the same by equal lists
pub as_restarted : {old old' new new' : List Node} → old ≡ old' → new ≡ new' → AreRestarted old new → AreRestarted old' new'
as_restarted {old} {old'} {new} {new'} same_old same_new again =
    subst (λ (ns : List Node). AreRestarted ns new') same_old (subst (λ (ns : List Node). AreRestarted old ns) same_new again)

total_of : (program : Program) (rows : List Row) (pt : Pt) → PtHasTaken program rows pt → length pt.slab ≡ sum program.sizes.pt
unfolding room_total
total_of program rows pt stands = stands.total

-- the nodes of an engine that stands for some rows stand for none once they begin again
pub restarted : (program : Program) (rows : List Row) (old new : Pt) → PtHasTaken program rows old → AreRestarted old.nodes new.nodes → new.slab ≡ old.slab → new.rows ≡ 0 → PtHasTaken program [] new
restarted program rows old new stands again slab none =
    let many = again.many in
    let seats = again.seats in
    let emptied = again.emptied in
    let kept = stands.seated in
    let spans : List Span = new.slab in
    let length-slab : length new.slab ≡ length old.slab = ap (λ (xs : List Span). length xs) slab in
    let start : (j : ℕ) → (node_at new.nodes j).seat.start ≡ (node_at old.nodes j).seat.start = λ j. ap (λ (s : Seat). s.start) (seats j) in
    let size : (j : ℕ) → (node_at new.nodes j).seat.size ≡ (node_at old.nodes j).seat.size = λ j. ap (λ (s : Seat). s.size) (seats j) in
    let same_part : (j : ℕ) → part new.slab (node_at new.nodes j).seat ≡ part old.slab (node_at old.nodes j).seat =
    λ j. ap (λ (xs : List Span). part xs (node_at new.nodes j).seat) slab ∙ ap (λ (s : Seat). part old.slab s) (seats j) in
    let nothing : (i : ℕ) → i < length program.pt → boxes_in new.slab (node_at new.nodes i) ≡ [] =
    λ i h. none_kept (node_at new.nodes i).boxes (part new.slab (node_at new.nodes i).seat) (ap (λ (b : Boxes). b.used) (emptied i (omega (arith, kept.same_length)))) in
    stands_with program [] new
    (record {
      same_length = many ∙ kept.same_length;
      laid = record {
        within = λ j h. omega (arith, start j, size j, length-slab, kept.laid.within j (omega (arith, many)));
        apart = λ j k jk h. omega (arith, start j, size j, start k, kept.laid.apart j k jk (omega (arith, many)));
      };
      kept = λ i h.
          record {
            room = ap (λ (xs : List Span). length xs) (same_part i) ∙ (kept.kept i (omega (arith, many))).room;
            belongs = first_belongs (node_at new.nodes i).boxes (part new.slab (node_at new.nodes i).seat) (emptied i (omega (arith, many)));
            apart = first_apart (op_at program.pt i) (boxes_in new.slab (node_at new.nodes i)) (nothing i (omega (arith, many, kept.same_length)));
          };
    })
    none
    (record {
      told = λ i h. first_told (op_at program.pt i) (formula_meaning program []) (boxes_in new.slab (node_at new.nodes i)) (nothing i h);
      truths = λ i h some. absurd (omega arith);
    })
    (length-slab ∙ total_of program rows old stands)
