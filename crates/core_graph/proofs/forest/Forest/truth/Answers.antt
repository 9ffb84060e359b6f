-- One vertex, or two.
use Rattle.std.proofs.Common.{Bool, subst, sym}
use Rattle.std.specs.Prelude.{IfOk}
use Rattle.std.proofs.lemmas.Result.{on_ok_weaker, IfOk-weaker}
use Rattle.mltl_base.specs.Formula.{core}
use Rattle.c2po_ast.specs.Nodes.{constant_formula}
use Rattle.core_graph.specs.Trees.{not_sign, sign, one}
use Rattle.core_graph.specs.Vertices.{Has}
use Rattle.core_graph.specs.Images.{of_core}
use Rattle.core_graph.proofs.Forests.{grows_then}
use Rattle.core_graph.proofs.forest.Forest.truth.Goals as goal

pub returns-then-value-clause-has : goal.returns-then-value-clause-has
unfolding core
returns-then-value-clause-has c =
    subst (λ (v : Bool). Has c.share.new.self c.in_ok-n.n (of_core (core (constant_formula v)))) (sym c.if-value.true) c.in_ok-n.ensures.has

pub returns-else-value-clause-grows : goal.returns-else-value-clause-grows
returns-else-value-clause-grows c = on_ok_weaker _ (grows_then c.args.self.now c.share.new.self c.share-else-value.new.self c.in_ok-n.ensures.grows) c.share-else-value.ensures.grows

pub returns-else-value-clause-has : goal.returns-else-value-clause-has
unfolding core
returns-else-value-clause-has c =
    subst (λ (v : Bool). IfOk c.share-else-value.result (λ n. Has c.share-else-value.new.self n (of_core (core (constant_formula v))))) (sym c.if-value.false)
    (IfOk-weaker c.share-else-value.result _ _ (λ n h. subst (λ t. Has c.share-else-value.new.self n (one (sign not_sign) t)) c.in_ok-n.ensures.has.is h) c.share-else-value.ensures.has)
