-- Each operator is rewritten by its equation.
use Rattle.std.proofs.Common.{subst, sym}
use Rattle.std.specs.Prelude.{IfOk}
use Rattle.std.proofs.lemmas.Result.{on_ok_weaker}
use Rattle.mltl_base.specs.declared.operators.BetweenOp.{BetweenOp}
use Rattle.mltl_base.specs.Formula.{core, cuntil, neg}
use Rattle.c2po_ast.specs.Nodes.{ranged}
use Rattle.core_graph.specs.Vertices.{Has}
use Rattle.core_graph.specs.Images.{of_core}
use Rattle.core_graph.specs.Reading.{IsCoreAt}
use Rattle.core_graph.proofs.Forests.{core_here, core_kept, grows_then}
use Rattle.core_graph.proofs.forest.Forest.between.Goals as goal

pub negation-requires-in-R-clause-there : goal.negation-requires-in-R-clause-there
negation-requires-in-R-clause-there c = core_kept c.args.self.now c.negation.new.self c.args.b c.in_ok-not_a-in-R.ensures.grows c.requires.right

pub until-requires-in-R-clause-left : goal.until-requires-in-R-clause-left
until-requires-in-R-clause-left c =
    core_kept c.negation.new.self c.negation-in-R.new.self c.in_ok-not_a-in-R.not_a c.in_ok-not_b-in-R.ensures.grows
    (core_here c.negation.new.self c.in_ok-not_a-in-R.not_a (neg c.requires.left.formula) (c.in_ok-not_a-in-R.ensures.has c.requires.left.formula c.requires.left.has))

pub until-requires-in-R-clause-right : goal.until-requires-in-R-clause-right
until-requires-in-R-clause-right c =
    let right : IsCoreAt c.negation.new.self c.args.b = core_kept c.args.self.now c.negation.new.self c.args.b c.in_ok-not_a-in-R.ensures.grows c.requires.right in
    core_here c.negation-in-R.new.self c.in_ok-not_b-in-R.not_b (neg right.formula) (c.in_ok-not_b-in-R.ensures.has right.formula right.has)

pub negation-requires-in-R-2-clause-there : goal.negation-requires-in-R-2-clause-there
negation-requires-in-R-2-clause-there c =
    let left : IsCoreAt c.negation-in-R.new.self c.in_ok-not_a-in-R.not_a = core_kept c.negation.new.self c.negation-in-R.new.self c.in_ok-not_a-in-R.not_a c.in_ok-not_b-in-R.ensures.grows
    (core_here c.negation.new.self c.in_ok-not_a-in-R.not_a (neg c.requires.left.formula) (c.in_ok-not_a-in-R.ensures.has c.requires.left.formula c.requires.left.has)) in
    let kept : IsCoreAt c.negation.new.self c.args.b = core_kept c.args.self.now c.negation.new.self c.args.b c.in_ok-not_a-in-R.ensures.grows c.requires.right in
    core_here c.until-in-R.new.self c.in_ok-until-in-R.until (cuntil c.args.i left.formula (neg kept.formula))
    (c.in_ok-until-in-R.ensures.has left.formula (neg kept.formula) left.has (c.in_ok-not_b-in-R.ensures.has kept.formula kept.has))

pub returns-in-U-clause-has : goal.returns-in-U-clause-has
unfolding core
returns-in-U-clause-has c = λ p q h g.
    subst (λ (op : BetweenOp). IfOk c.until.result (λ n. Has c.until.new.self n (of_core (core (ranged op c.args.i p q))))) (sym c.in-U.is)
    (c.until.ensures.has (core p) (core q) h g)

pub returns-in-S-clause-has : goal.returns-in-S-clause-has
unfolding core
returns-in-S-clause-has c = λ p q h g.
    subst (λ (op : BetweenOp). IfOk c.since.result (λ n. Has c.since.new.self n (of_core (core (ranged op c.args.i p q))))) (sym c.in-S.is)
    (c.since.ensures.has (core p) (core q) h g)

pub returns-in_ok-until-in-R-clause-grows : goal.returns-in_ok-until-in-R-clause-grows
returns-in_ok-until-in-R-clause-grows c =
    on_ok_weaker _ (grows_then c.args.self.now c.until-in-R.new.self c.negation-in-R-2.new.self
    (grows_then c.args.self.now c.negation-in-R.new.self c.until-in-R.new.self
    (grows_then c.args.self.now c.negation.new.self c.negation-in-R.new.self c.in_ok-not_a-in-R.ensures.grows c.in_ok-not_b-in-R.ensures.grows)
    c.in_ok-until-in-R.ensures.grows)) c.negation-in-R-2.ensures.grows

pub returns-in_ok-until-in-R-clause-has : goal.returns-in_ok-until-in-R-clause-has
unfolding core
returns-in_ok-until-in-R-clause-has c = λ p q h g.
    subst (λ (op : BetweenOp). IfOk c.negation-in-R-2.result (λ n. Has c.negation-in-R-2.new.self n (of_core (core (ranged op c.args.i p q))))) (sym c.in-R.is)
    (c.negation-in-R-2.ensures.has (cuntil c.args.i (neg (core p)) (neg (core q)))
    (c.in_ok-until-in-R.ensures.has (neg (core p)) (neg (core q))
    (c.in_ok-not_b-in-R.ensures.grows.kept c.in_ok-not_a-in-R.not_a (of_core (neg (core p))) (c.in_ok-not_a-in-R.ensures.has (core p) h))
    (c.in_ok-not_b-in-R.ensures.has (core q) (c.in_ok-not_a-in-R.ensures.grows.kept c.args.b (of_core (core q)) g))))
