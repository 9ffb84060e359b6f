-- The nodes stand in the forest, and they ask for what the outputs ask for.
use Rattle.std.proofs.Common.{◌<◌, All, List, ℕ, length, subst, sym}
use Rattle.core_graph.specs.Listings.{NamesNodes}
use Rattle.core_graph.specs.Reading.{AreRead}
use Rattle.core_graph.proofs.Outputs.{ids_within, outs_named}
use Rattle.core_graph.proofs.graph.graph_of.Goals as goal

pub graph_in-requires-clause-there : goal.graph_in-requires-clause-there
graph_in-requires-clause-there c =
    subst (λ (ns : List ℕ). All (λ n. n < length c.read.new.forest) ns) (sym c.deref.ensures.value)
    (ids_within c.args.columns.now c.read.new.forest c.args.nodes.now c.in_ok-ids.ids.items c.in_ok-ids.ensures.read)

pub graph_in-requires-clause-named : goal.graph_in-requires-clause-named
graph_in-requires-clause-named c =
    subst (λ (ns : List ℕ). All (NamesNodes (length ns)) c.args.outs.now) (sym c.deref.ensures.value)
    (outs_named c.args.columns.now c.read.new.forest c.args.nodes.now c.in_ok-ids.ids.items c.in_ok-ids.ensures.read c.args.outs.now c.requires.outs)

pub returns : goal.returns
returns c =
    let columns = c.args.columns.now in
    let nodes = c.args.nodes.now in
    let read = subst (AreRead columns c.read.new.forest nodes) (sym c.deref.ensures.value) c.in_ok-ids.ensures.read in
    record {
      graph = c.graph_in.ensures.graph columns nodes read c.requires.outs;
      few = c.graph_in.ensures.few columns nodes read c.requires.outs;
      too_many = c.graph_in.ensures.too_many columns nodes read c.requires.outs;
    }
