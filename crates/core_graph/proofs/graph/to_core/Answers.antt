-- The slices are the lists of the specification.
use Rattle.std.proofs.Common.{List, ℕ, subst}
use Rattle.c2po_ast.specs.declared.nodes.Plain.{Plain}
use Rattle.c2po_ast.specs.declared.nodes.PlainOut.{PlainOut}
use Rattle.core_graph.specs.Limits.{AreMany}
use Rattle.core_graph.specs.Listings.{asked_of_nodes}
use Rattle.core_graph.proofs.graph.to_core.Goals as goal

pub returns-clause-too_many : goal.returns-clause-too_many
returns-clause-too_many c = λ e.
    subst (λ (columns : List ℕ). AreMany (asked_of_nodes columns c.args.spec.now.nodes c.args.spec.now.outs)) c.as_slice.ensures
    (subst (λ (nodes : List Plain). AreMany (asked_of_nodes c.as_slice.result.now nodes c.args.spec.now.outs)) c.as_slice-nodes.ensures
    (subst (λ (outs : List PlainOut). AreMany (asked_of_nodes c.as_slice.result.now c.as_slice-nodes.result.now outs)) c.as_slice-outs.ensures
    (c.graph_of.ensures.too_many e)))
