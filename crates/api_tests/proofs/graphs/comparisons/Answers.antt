use Rattle.std.proofs.Common.{All, map, subst, sym}
use Rattle.std.proofs.lemmas.List.Elements.{All-map}
use Rattle.mltl_base.specs.Subformulas.{IsTensed}
use Rattle.c2po_ast.specs.Nodes.{trees}
use Rattle.c2po_ast.specs.Outputs.{asked_by}
use Rattle.api_tests.proofs.Comparing.{comparing-signal, comparing-next}
use Rattle.api_tests.proofs.graphs.comparisons.Goals as goal

pub loop-n-init : goal.loop-n-init
loop-n-init c = comparing-signal _ _ _ _ c.new-nodes.ensures c.new-outs.ensures c.in_ok-signal.ensures.place c.in_ok-signal.ensures.pushed

pub loop-n-preserved : goal.loop-n-preserved
loop-n-preserved c = comparing-next _ _ _ _ _ _ _ _ _ _ _ _ c.loop-n.invariant
    c.in_ok-equal.ensures.pushed c.in_ok-equal.ensures.place c.in_ok-push.ensures.pushed c.in_ok-other.ensures.pushed c.in_ok-other.ensures.place

pub returns-clause-tensed : goal.returns-clause-tensed
returns-clause-tensed c =
    subst (λ nodes. All IsTensed (map (asked_by (trees nodes)) c.loop-n.outs)) (sym c.into_list.ensures.nodes)
    (All-map IsTensed (asked_by (trees c.loop-n.nodes)) c.loop-n.outs c.loop-n.invariant.tensed)
