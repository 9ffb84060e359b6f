use Rattle.std.proofs.Common.{◌<◌, List, length, false, refl, arith, ◌∙◌, length-set}
use Rattle.pt_boxes.specs.declared.rows.Node.{Node}
use Rattle.pt_boxes.specs.Nodes.{node_at}
use Rattle.pt_boxes.proofs.Restarting.{emptied_more, seats_more}
use Rattle.pt_boxes.proofs.restart.restart.Goals as goal

pub loop-i-preserved : goal.loop-i-preserved
loop-i-preserved c =
    let nodes : List Node = c.loop-i.nodes in
    let new : Node = record { boxes = c.none.result; truth = false; seat = (node_at nodes c.loop-i.i).seat } in
    let inside : c.loop-i.i < length nodes = omega (arith, c.loop-i-test.true, c.loop-i.invariant.many) in
    record {
      many = length-set nodes c.loop-i.i new ∙ c.loop-i.invariant.many;
      seats = seats_more c.args.nodes.now nodes c.loop-i.i new inside c.loop-i.invariant.seats refl;
      emptied = emptied_more nodes c.loop-i.i new inside c.loop-i.invariant.emptied c.none.ensures;
    }
