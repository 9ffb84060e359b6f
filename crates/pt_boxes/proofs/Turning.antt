-- The middle of a row: the instructions before one index have taken it, those from there on have not.
use Rattle.std.proofs.Common.{◌≡◌, ◌≢◌, ℕ, ◌+◌, ◌-◌, ◌<◌, ◌≤◌, ℤ, List, ◌++◌, length, take, arith, sym, ap, ◌∙◌}
use Rattle.mltl_base.specs.declared.operators.PtOp.{PtOp}
use Rattle.mltl_base.specs.Seats.{part}
use Rattle.mltl_base.proofs.Seats.{Stepped, each_kept, each_on, here_kept, node_before, other_kept, seated_on, sizes_are}
use Rattle.pt_boxes.specs.declared.boxes.Span.{Span}
use Rattle.pt_boxes.specs.declared.rows.Node.{Node}
use Rattle.pt_boxes.specs.Boxes.{kept}
use Rattle.pt_boxes.specs.Nodes.{AreKept, SpansAreLaid, KeepsRoom, boxes_in, no_node, node_at, op_at}
use Rattle.pt_boxes.specs.Tables.{LoadsMatchTable, HasTable, IsTruthTable, BoxesRepresent, IsTurn, TruthTable}

-- the first i instructions have taken n + 1 rows, the others n
pub record Turned (ops : List PtOp) (n : ℕ) (nodes : List Node) (slab : List Span) (i : ℕ) : Type 0 where
  pub same_length : length nodes ≡ length ops
  pub laid : SpansAreLaid nodes slab
  pub done : (j : ℕ) → j < i → KeepsRoom (op_at ops j) (n + 1) (node_at nodes j).boxes (part slab (node_at nodes j).seat)
  pub todo : (j : ℕ) → i ≤ j → j < length nodes → KeepsRoom (op_at ops j) n (node_at nodes j).boxes (part slab (node_at nodes j).seat)

-- and so it is told
pub record Retold (ops : List PtOp) (table : TruthTable) (n : ℕ) (nodes : List Node) (slab : List Span) (i : ℕ) : Type 0 where
  pub done : (j : ℕ) → j < i → BoxesRepresent (op_at ops j) table (n + 1) (boxes_in slab (node_at nodes j))
  pub truths : (j : ℕ) → j < i → (node_at nodes j).truth ≡ table j n
  pub todo : (j : ℕ) → i ≤ j → j < length nodes → BoxesRepresent (op_at ops j) table n (boxes_in slab (node_at nodes j))

module _ (nodes : List Node) (slab : List Span) (i : ℕ) (new : Node) (own : List Span) (nodes' : List Node) (slab' : List Span)
    (st : Stepped no_node (λ node. node.seat) nodes slab i new own nodes' slab') where
  -- one more instruction has taken the row
  pub turned_on : (ops : List PtOp) (n : ℕ) → Turned ops n nodes slab i → i < length nodes → KeepsRoom (op_at ops i) (n + 1) new.boxes own → Turned ops n nodes' slab' (i + 1)
  turned_on ops n t i_in here = record {
    same_length = st.same_length ∙ t.same_length;
    laid = seated_on st t.laid;
    done = λ j h. each_kept st (λ k m xs. KeepsRoom (op_at ops k) (n + 1) m.boxes xs) j (omega arith) (λ other. t.done j (omega arith)) here;
    todo = λ j from h. let other : j ≢ i = omega arith in other_kept st (λ m xs. KeepsRoom (op_at ops j) n m.boxes xs) j other (omega (arith, st.same_length)) (t.todo j (omega arith) (omega (arith, st.same_length)));
  }

  -- one more instruction is told
  pub retold_on : (ops : List PtOp) (table : TruthTable) (n : ℕ) → Retold ops table n nodes slab i → i < length nodes
      → BoxesRepresent (op_at ops i) table (n + 1) (kept new.boxes own) → new.truth ≡ table i n → Retold ops table n nodes' slab' (i + 1)
  retold_on ops table n t i_in here truth = record {
    done = λ j h. each_kept st (λ k m xs. BoxesRepresent (op_at ops k) table (n + 1) (kept m.boxes xs)) j (omega arith) (λ other. t.done j (omega arith)) here;
    truths = λ j h. each_on st (λ k m. m.truth ≡ table k n) j (λ other. t.truths j (omega arith)) truth;
    todo = λ j from h. let other : j ≢ i = omega arith in other_kept st (λ m xs. BoxesRepresent (op_at ops j) table n (kept m.boxes xs)) j other (omega (arith, st.same_length)) (t.todo j (omega arith) (omega (arith, st.same_length)));
  }

module _ (ops : List PtOp) (n : ℕ) (nodes : List Node) (slab : List Span) (before rest : List Node) (low high : List Span) (node : Node)
    (nodes_are : nodes ≡ before ++ rest) (slab_is : slab ≡ low ++ high) (some : 0 < length rest) (node_is : node ≡ node_at nodes (length before)) (low_is : length low ≡ node.seat.start)
    (turned : Turned ops n nodes slab (length before)) where
  -- what the instruction is told
  pub turn_here : (numbers : List ℤ) (loaded table : TruthTable) → length before < length ops → IsTruthTable ops loaded (n + 1) table → LoadsMatchTable ops numbers loaded n → Retold ops table n nodes slab (length before)
      → IsTurn (op_at ops (length before)) numbers loaded table n before (kept node.boxes (take node.seat.size high))
  turn_here numbers loaded table in_ops is_table agree retold = record {
    operands = λ g h. ap (λ (m : Node). m.truth) (sym (node_before before rest low high node turned.laid nodes_are slab_is some node_is low_is g h)) ∙ retold.truths g h;
    told = here_kept before rest low high node turned.laid nodes_are slab_is some node_is low_is (λ m xs. BoxesRepresent (op_at ops (length before)) table n (kept m.boxes xs)) (retold.todo (length before) (omega arith) (omega (arith, sizes_are before rest low high node turned.laid nodes_are slab_is some node_is low_is)));
    here = is_table (length before) n in_ops (omega arith);
    loads = λ k v is gives. agree (length before) k v in_ops is gives;
  }

-- a row begins with no instruction, and ends with all
pub turned_from : (ops : List PtOp) (n : ℕ) (nodes : List Node) (slab : List Span) → AreKept ops n nodes slab → Turned ops n nodes slab 0
turned_from ops n nodes slab k = record { same_length = k.same_length; laid = k.laid; done = λ j h. absurd (omega arith); todo = λ j from h. k.kept j h }

pub retold_from : (ops : List PtOp) (table : TruthTable) (n : ℕ) (nodes : List Node) (slab : List Span) → length nodes ≡ length ops → HasTable ops table n nodes slab → Retold ops table n nodes slab 0
retold_from ops table n nodes slab same has = record { done = λ j h. absurd (omega arith); truths = λ j h. absurd (omega arith); todo = λ j from h. has.told j (omega arith) }

pub retold_to : (ops : List PtOp) (table : TruthTable) (n : ℕ) (nodes : List Node) (slab : List Span) → Retold ops table n nodes slab (length ops) → HasTable ops table (n + 1) nodes slab
retold_to ops table n nodes slab t = record {
  told = λ i h. t.done i h;
  truths = λ i h some. let last : n + 1 - 1 ≡ n = omega arith in t.truths i h ∙ ap (λ (m : ℕ). table i m) (sym last);
}
