-- One more node is read.
use Rattle.std.proofs.Common.{◌≡◌, Some, false, get_or, slice_get, take, subst, sym}
use Rattle.std.proofs.lemmas.Option.{slice_get-get_or}
use Rattle.c2po_ast.specs.declared.nodes.Plain.{Plain}
use Rattle.c2po_ast.specs.declared.nodes.Plain.TheVariants.{Truth}
use Rattle.core_graph.specs.Reading.{AreRead}
use Rattle.core_graph.proofs.NodesRead.{one_read}
use Rattle.core_graph.proofs.node_vertices.read.Goals as goal

pub read_node-requires : goal.read_node-requires
read_node-requires c =
    let nodes = c.args.nodes.now in
    let i = c.loop-node.node-index in
    record {
      before = take i nodes;
      read = subst (AreRead c.args.columns.now c.loop-node.forest (take i nodes)) (sym c.deref.ensures.value) c.loop-node.invariant;
      formed = c.requires.sound.formed i (get_or nodes i (Truth false)) (slice_get-get_or nodes i (Truth false) c.loop-node-test.true);
    }

pub loop-node-preserved : goal.loop-node-preserved
loop-node-preserved c =
    let nodes = c.args.nodes.now in
    let i = c.loop-node.node-index in
    let node : Plain = get_or nodes i (Truth false) in
    let there : slice_get nodes i ≡ Some node = slice_get-get_or nodes i (Truth false) c.loop-node-test.true in
    let before = subst (AreRead c.args.columns.now c.loop-node.forest (take i nodes)) (sym c.deref.ensures.value) c.loop-node.invariant in
    one_read c.args.columns.now c.loop-node.forest c.read_node.new.forest nodes i node c.loop-node.ids.items c.push.new.self.items c.in_ok-id.id
    there c.loop-node.invariant c.in_ok-id.ensures.grows
    (c.in_ok-id.ensures.stands (take i nodes) before (c.requires.sound.formed i node there)) c.in_ok-push.ensures.items
