-- The test on the vertex is the test on its tree.
use Rattle.std.proofs.Common.{sym, ◌∙◌}
use Rattle.core_graph.specs.Vertices.{tree_at, trees}
use Rattle.core_graph.specs.Listings.{is_in}
use Rattle.core_graph.proofs.Lists.{vertex_part, kept_yes, kept_no}
use Rattle.core_graph.proofs.listing.keep.Goals as goal

pub returns-then-not-is_in : goal.returns-then-not-is_in
returns-then-not-is_in c =
    kept_no (is_in c.args.part (tree_at (trees c.args.forest.now) c.args.id)) c.args.id c.args.ids.now.items
    (sym (vertex_part c.args.part c.args.forest.now c.args.id c.get.result c.requires.forest c.get.ensures) ∙ (sym c.is_in.ensures ∙ c.if-not-is_in.true))

pub returns : goal.returns
returns c =
    kept_yes (is_in c.args.part (tree_at (trees c.args.forest.now) c.args.id)) c.args.id c.args.ids.now.items c.push.new.self.items
    (sym (vertex_part c.args.part c.args.forest.now c.args.id c.get.result c.requires.forest c.get.ensures) ∙ (sym c.is_in.ensures ∙ c.if-not-is_in.false)) c.in_ok-push.ensures.items
