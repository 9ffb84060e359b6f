-- Nodes that are new.
use Rattle.std.proofs.Common.{◌≡◌, ℕ, ◌+◌, ◌<◌, List, [], ◌∷◌, ◌++◌, subst, length, get_or, sum, arith, ap, sym, ◌∙◌, refl}
use Rattle.std.proofs.lemmas.List.{get_or-map}
use Rattle.mltl_base.specs.declared.operators.PtOp.{PtOp}
use Rattle.mltl_base.specs.declared.operators.PtOp.TheVariants.{True, Since}
use Rattle.mltl_base.specs.declared.program.Program.{Program}
use Rattle.mltl_base.specs.Kleene.{some_below}
use Rattle.mltl_base.specs.Queues.{boxes_of}
use Rattle.mltl_base.specs.Seats.{AreSeated, part}
use Rattle.mltl_base.proofs.Seats.{each_more, length-part, none_seated, seated_more}
use Rattle.pt_boxes.specs.declared.boxes.Boxes.{Boxes}
use Rattle.pt_boxes.specs.declared.boxes.Span.{Span}
use Rattle.pt_boxes.specs.declared.engine.Pt.{Pt}
use Rattle.pt_boxes.specs.declared.rows.Node.{Node}
use Rattle.pt_boxes.specs.Boxes.{SpansOf, no_boxes}
use Rattle.pt_boxes.specs.Nodes.{HasBoxes, boxes_in, no_node, node_at, op_at}
use Rattle.obs_verify.specs.Running.{RunsPast}
use Rattle.pt_boxes.specs.Spans.{SpansLieApart}
use Rattle.pt_boxes.specs.Standing.{PtHasTaken, formula_meaning}
use Rattle.pt_boxes.specs.Tables.{BoxesRepresent, TruthTable}
use Rattle.pt_boxes.proofs.Apart.{none_apart}
use Rattle.pt_boxes.proofs.Rings.{none_kept}
use Rattle.pt_boxes.proofs.Standings.{stands_with}

-- a node without boxes
pub record IsFresh (spans : ℕ) (node : Node) : Type 0 where
  pub boxes : node.boxes ≡ no_boxes
  pub size : node.seat.size ≡ spans

-- the first i nodes, whose parts end at `start`
pub record Started (sizes : List ℕ) (nodes : List Node) (start i : ℕ) : Type 0 where
  pub fresh : (j : ℕ) → j < i → IsFresh (get_or sizes j 0) (node_at nodes j)
  pub seated : AreSeated no_node (λ node. node.seat) nodes start i

pub started_none : (sizes : List ℕ) (nodes : List Node) → Started sizes nodes 0 0
started_none sizes nodes = record { fresh = λ j h. absurd (omega arith); seated = none_seated no_node (λ node. node.seat) nodes }

-- one more node, whose part begins where those before end
pub started_more : (sizes : List ℕ) (nodes : List Node) (start i : ℕ) (new : Node) → length nodes ≡ i
    → Started sizes nodes start i → IsFresh (get_or sizes i 0) new → new.seat.start ≡ start → Started sizes (nodes ++ new ∷ []) (start + get_or sizes i 0) (i + 1)
started_more sizes nodes start i new count s fresh begins = record {
  fresh = each_more no_node nodes i new count (λ j m. IsFresh (get_or sizes j 0) m) s.fresh fresh;
  seated = subst (λ (size : ℕ). AreSeated no_node (λ (node : Node). node.seat) (nodes ++ new ∷ []) (start + size) (i + 1)) fresh.size
      (seated_more no_node nodes i new count (λ node. node.seat) start s.seated begins);
}

-- no boxes are apart, belong to any spans, and tell what no rows tell
pub first_apart : (op : PtOp) (boxes : List Span) → boxes ≡ [] → HasBoxes op 0 boxes
first_apart (Since l r window) boxes e = subst (λ (xs : List Span). SpansLieApart window 0 0 xs) (sym e) (none_apart window 0)
first_apart _ boxes e = tt

pub first_told : (op : PtOp) (table : TruthTable) (boxes : List Span) → boxes ≡ [] → BoxesRepresent op table 0 boxes
unfolding some_below
first_told (Since l r window) table boxes e = subst (λ (xs : List Span). BoxesRepresent (Since l r window) table 0 xs) (sym e) (record { each = λ u h. refl })
first_told _ table boxes e = tt

pub first_belongs : (boxes : Boxes) (spans : List Span) → boxes ≡ no_boxes → SpansOf boxes spans
first_belongs boxes spans e = subst (λ (b : Boxes). SpansOf b spans) (sym e) (record { oldest_in = λ h. h; used_in = omega arith })

-- new nodes stand for no rows
pub made_stands : (program : Program) (pt : Pt) → RunsPast program → length pt.nodes ≡ length program.pt → Started program.sizes.pt pt.nodes (length pt.slab) (length program.pt) → pt.rows ≡ 0
    → length pt.slab ≡ sum program.sizes.pt → PtHasTaken program [] pt
made_stands program pt runs same_length started none total =
    let nodes : List Node = pt.nodes in
    let slab : List Span = pt.slab in
    let nothing : (i : ℕ) → i < length program.pt → boxes_in slab (node_at nodes i) ≡ [] =
    λ i h. none_kept (node_at nodes i).boxes (part slab (node_at nodes i).seat) (ap (λ (b : Boxes). b.used) (started.fresh i h).boxes) in
    stands_with program [] pt
    (record {
      same_length = same_length;
      laid = record { within = λ j h. started.seated.within j (omega arith); apart = λ j k jk h. started.seated.apart j k jk (omega arith) };
      kept = λ i h.
          let i_in : i < length program.pt = omega arith in
          let node : Node = node_at nodes i in
          let fresh = started.fresh i i_in in
          let within = started.seated.within i i_in in
          let long : length (part slab node.seat) ≡ node.seat.size = length-part slab node.seat within in
          let size : get_or program.sizes.pt i 0 ≡ boxes_of (op_at program.pt i) = ap (λ (ns : List ℕ). get_or ns i 0) runs.sizes ∙ get_or-map boxes_of program.pt i True 0 i_in in
          record {
            room = long ∙ fresh.size ∙ size;
            belongs = first_belongs node.boxes (part slab node.seat) fresh.boxes;
            apart = first_apart (op_at program.pt i) (boxes_in slab node) (nothing i i_in);
          };
    })
    none
    (record {
      told = λ i h. first_told (op_at program.pt i) (formula_meaning program []) (boxes_in slab (node_at nodes i)) (nothing i h);
      truths = λ i h some. absurd (omega arith);
    })
    total
