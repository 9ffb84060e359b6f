use Rattle.std.proofs.Common.{◌≡◌, ℕ, ◌+◌, ◌<◌, List, ◌++◌, length, get_or, take, drop, set, arith, refl, subst, sym, ap, ◌∙◌}
use Rattle.std.proofs.lemmas.Grind.{common_steps}
use Rattle.mltl_base.specs.declared.operators.PtOp.{PtOp}
use Rattle.mltl_base.proofs.Pieces.{first_after}
use Rattle.mltl_base.proofs.Seats.{Stepped, stepped}
use Rattle.pt_boxes.specs.declared.boxes.Span.{Span}
use Rattle.pt_boxes.specs.declared.rows.Node.{Node}
use Rattle.pt_boxes.specs.Boxes.{kept}
use Rattle.pt_boxes.specs.Nodes.{KeepsRoom, no_node, node_at, op_at}
use Rattle.pt_boxes.specs.Tables.{BoxesRepresent, IsTurn, TookTurn}
use Rattle.pt_boxes.proofs.Turning.{Retold, Turned, retold_from, retold_on, retold_to, turn_here, turned_from, turned_on}
use Rattle.pt_boxes.proofs.rows.row_of.Goals as goal

pub loop-i-init : goal.loop-i-init
loop-i-init g c = record {
  turned = turned_from c.args.ops.now c.args.now c.args.nodes.now c.args.slab.now c.requires.kept;
  told = λ loaded table is_table agree has. retold_from c.args.ops.now table c.args.now c.args.nodes.now c.args.slab.now c.requires.kept.same_length has;
  counted = omega arith;
}

pub loop-i-preserved : goal.loop-i-preserved
loop-i-preserved g c =
    let ops : List PtOp = c.args.ops.now in
    let n : ℕ = c.args.now in
    let nodes = c.loop-i.nodes in
    let slab = c.loop-i.slab in
    let before = c.split_at_mut-before.result.0.now in
    let rest = c.split_at_mut-before.result.1.now in
    let low = c.split_at_mut-high.result.0.now in
    let high = c.split_at_mut-high.result.1.now in
    let before_count : length before ≡ c.loop-i.i = c.split_at_mut-before.ensures.front_len in
    let node : Node = get_or rest 0 no_node in
    let i = c.loop-i.invariant in
    let turned : Turned ops n nodes slab (length before) = subst (λ (k : ℕ). Turned ops n nodes slab k) (sym before_count) i.turned in
    let back : length rest + c.loop-i.i ≡ length nodes = c.split_at_mut-before.ensures.back_len in
    let some : 0 < length rest = omega (arith, turned.same_length) in
    let node_is : node ≡ node_at nodes (length before) = first_after before rest no_node no_node some ∙ ap (λ (ns : List Node). get_or ns (length before) no_node) (sym c.split_at_mut-before.ensures.value) in
    let low_is : length low ≡ node.seat.start = c.split_at_mut-high.ensures.front_len in
    let new : Node = record { boxes = c.step-node.new.boxes; truth = c.step-node.result; seat = node.seat } in
    let own : List Span = c.step-node.new.own in
    let nodes' : List Node = before ++ set rest 0 new in
    let slab' : List Span = low ++ (own ++ drop node.seat.size high) in
    let in_ops : length before < length ops = omega arith in
    let op_same : op_at ops (length before) ≡ op_at ops c.loop-i.i = ap (λ (k : ℕ). op_at ops k) before_count in
    let st : Stepped no_node (λ (m : Node). m.seat) nodes slab (length before) new own nodes' slab' =
    stepped before rest low high node turned.laid c.split_at_mut-before.ensures.value c.split_at_mut-high.ensures.value some node_is low_is new own refl c.step-node.auto.own in
    record {
      turned =
          subst (λ (k : ℕ). Turned ops n nodes' slab' (k + 1)) before_count
          (turned_on nodes slab (length before) new own nodes' slab' st ops n turned (omega arith)
          (subst (λ (op : PtOp). KeepsRoom op (n + 1) new.boxes own) (sym op_same) c.step-node.ensures.kept));
      told = λ loaded table is_table agree has.
          let r : Retold ops table n nodes slab (length before) = subst (λ (k : ℕ). Retold ops table n nodes slab k) (sym before_count) (i.told loaded table is_table agree has) in
          let turn : IsTurn (op_at ops c.loop-i.i) c.args.bz.now loaded table n before (kept node.boxes (take node.seat.size high)) =
          subst (λ (op : PtOp). IsTurn op c.args.bz.now loaded table n before (kept node.boxes (take node.seat.size high))) op_same
          (turn_here ops n nodes slab before rest low high node c.split_at_mut-before.ensures.value c.split_at_mut-high.ensures.value some node_is low_is turned c.args.bz.now loaded table in_ops is_table agree r) in
          let took : TookTurn (op_at ops c.loop-i.i) table n before new.truth (kept new.boxes own) = c.step-node.ensures.told loaded table turn in
          subst (λ (k : ℕ). Retold ops table n nodes' slab' (k + 1)) before_count
          (retold_on nodes slab (length before) new own nodes' slab' st ops table n r (omega arith)
          (subst (λ (op : PtOp). BoxesRepresent op table (n + 1) (kept new.boxes own)) (sym op_same) took.told)
          took.truth);
      counted = grind (arith, common_steps, i.counted, c.step-node.ensures.counted);
    }

pub returns-clause-table : goal.returns-clause-table
returns-clause-table g c = λ loaded table is_table agree has.
    let end : c.loop-i.i ≡ length c.args.ops.now = omega arith in
    retold_to c.args.ops.now table c.args.now c.loop-i.nodes c.loop-i.slab
    (subst (λ (k : ℕ). Retold c.args.ops.now table c.args.now c.loop-i.nodes c.loop-i.slab k) end (c.loop-i.invariant.told loaded table is_table agree has))
