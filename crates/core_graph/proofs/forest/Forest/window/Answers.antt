-- Each operator is rewritten by its equation.
use Rattle.std.proofs.Common.{subst, sym}
use Rattle.std.specs.Prelude.{IfOk}
use Rattle.std.proofs.lemmas.Result.{on_ok_weaker}
use Rattle.mltl_base.specs.declared.operators.WindowOp.{WindowOp}
use Rattle.mltl_base.specs.Formula.{core, ctrue, cuntil, csince, neg}
use Rattle.c2po_ast.specs.Nodes.{windowed}
use Rattle.core_graph.specs.Vertices.{Has}
use Rattle.core_graph.specs.Images.{of_core}
use Rattle.core_graph.specs.Reading.{IsCoreAt}
use Rattle.core_graph.proofs.Forests.{core_here, core_kept, grows_then}
use Rattle.core_graph.proofs.forest.Forest.window.Goals as goal

pub until-requires-clause-right : goal.until-requires-clause-right
until-requires-clause-right c = core_kept c.args.self.now c.share.new.self c.args.a c.in_ok-always.ensures.grows c.requires.there

pub since-requires-clause-right : goal.since-requires-clause-right
since-requires-clause-right c = core_kept c.args.self.now c.share.new.self c.args.a c.in_ok-always.ensures.grows c.requires.there

pub returns-in-F-clause-grows : goal.returns-in-F-clause-grows
returns-in-F-clause-grows c = on_ok_weaker _ (grows_then c.args.self.now c.share.new.self c.until.new.self c.in_ok-always.ensures.grows) c.until.ensures.grows

pub returns-in-F-clause-has : goal.returns-in-F-clause-has
unfolding core
returns-in-F-clause-has c = λ p h.
    subst (λ (op : WindowOp). IfOk c.until.result (λ n. Has c.until.new.self n (of_core (core (windowed op c.args.i p))))) (sym c.in-F.is)
    (c.until.ensures.has ctrue (core p) c.in_ok-always.ensures.has (c.in_ok-always.ensures.grows.kept c.args.a (of_core (core p)) h))

pub returns-in-O-clause-grows : goal.returns-in-O-clause-grows
returns-in-O-clause-grows c = on_ok_weaker _ (grows_then c.args.self.now c.share.new.self c.since.new.self c.in_ok-always.ensures.grows) c.since.ensures.grows

pub returns-in-O-clause-has : goal.returns-in-O-clause-has
unfolding core
returns-in-O-clause-has c = λ p h.
    subst (λ (op : WindowOp). IfOk c.since.result (λ n. Has c.since.new.self n (of_core (core (windowed op c.args.i p))))) (sym c.in-O.is)
    (c.since.ensures.has ctrue (core p) c.in_ok-always.ensures.has (c.in_ok-always.ensures.grows.kept c.args.a (of_core (core p)) h))

pub negation-requires-clause-there : goal.negation-requires-clause-there
negation-requires-clause-there c = core_kept c.args.self.now c.share.new.self c.args.a c.in_ok-always.ensures.grows c.requires.there

pub until-requires-in-G-clause-left : goal.until-requires-in-G-clause-left
until-requires-in-G-clause-left c =
    core_here c.negation.new.self c.in_ok-always.always ctrue (c.in_ok-not_a-in-G.ensures.grows.kept c.in_ok-always.always (of_core ctrue) c.in_ok-always.ensures.has)

pub until-requires-in-G-clause-right : goal.until-requires-in-G-clause-right
until-requires-in-G-clause-right c =
    let there : IsCoreAt c.share.new.self c.args.a = core_kept c.args.self.now c.share.new.self c.args.a c.in_ok-always.ensures.grows c.requires.there in
    core_here c.negation.new.self c.in_ok-not_a-in-G.not_a (neg there.formula) (c.in_ok-not_a-in-G.ensures.has there.formula there.has)

pub negation-requires-in-G-clause-there : goal.negation-requires-in-G-clause-there
negation-requires-in-G-clause-there c =
    let there : IsCoreAt c.share.new.self c.args.a = core_kept c.args.self.now c.share.new.self c.args.a c.in_ok-always.ensures.grows c.requires.there in
    core_here c.until-in-G.new.self c.in_ok-until-in-G.until (cuntil c.args.i ctrue (neg there.formula))
    (c.in_ok-until-in-G.ensures.has ctrue (neg there.formula) (c.in_ok-not_a-in-G.ensures.grows.kept c.in_ok-always.always (of_core ctrue) c.in_ok-always.ensures.has)
    (c.in_ok-not_a-in-G.ensures.has there.formula there.has))

pub returns-in_ok-until-in-G-clause-grows : goal.returns-in_ok-until-in-G-clause-grows
returns-in_ok-until-in-G-clause-grows c =
    on_ok_weaker _ (grows_then c.args.self.now c.until-in-G.new.self c.negation-in-G.new.self
    (grows_then c.args.self.now c.negation.new.self c.until-in-G.new.self
    (grows_then c.args.self.now c.share.new.self c.negation.new.self c.in_ok-always.ensures.grows c.in_ok-not_a-in-G.ensures.grows)
    c.in_ok-until-in-G.ensures.grows)) c.negation-in-G.ensures.grows

pub returns-in_ok-until-in-G-clause-has : goal.returns-in_ok-until-in-G-clause-has
unfolding core
returns-in_ok-until-in-G-clause-has c = λ p h.
    subst (λ (op : WindowOp). IfOk c.negation-in-G.result (λ n. Has c.negation-in-G.new.self n (of_core (core (windowed op c.args.i p))))) (sym c.in-G.is)
    (c.negation-in-G.ensures.has (cuntil c.args.i ctrue (neg (core p)))
    (c.in_ok-until-in-G.ensures.has ctrue (neg (core p))
    (c.in_ok-not_a-in-G.ensures.grows.kept c.in_ok-always.always (of_core ctrue) c.in_ok-always.ensures.has)
    (c.in_ok-not_a-in-G.ensures.has (core p) (c.in_ok-always.ensures.grows.kept c.args.a (of_core (core p)) h))))

pub negation-requires-in-H-clause-there : goal.negation-requires-in-H-clause-there
negation-requires-in-H-clause-there c = core_kept c.args.self.now c.share.new.self c.args.a c.in_ok-always.ensures.grows c.requires.there

pub since-requires-in-H-clause-left : goal.since-requires-in-H-clause-left
since-requires-in-H-clause-left c =
    core_here c.negation-in-H.new.self c.in_ok-always.always ctrue (c.in_ok-not_a-in-H.ensures.grows.kept c.in_ok-always.always (of_core ctrue) c.in_ok-always.ensures.has)

pub since-requires-in-H-clause-right : goal.since-requires-in-H-clause-right
since-requires-in-H-clause-right c =
    let there : IsCoreAt c.share.new.self c.args.a = core_kept c.args.self.now c.share.new.self c.args.a c.in_ok-always.ensures.grows c.requires.there in
    core_here c.negation-in-H.new.self c.in_ok-not_a-in-H.not_a (neg there.formula) (c.in_ok-not_a-in-H.ensures.has there.formula there.has)

pub negation-requires-in-H-2-clause-there : goal.negation-requires-in-H-2-clause-there
negation-requires-in-H-2-clause-there c =
    let there : IsCoreAt c.share.new.self c.args.a = core_kept c.args.self.now c.share.new.self c.args.a c.in_ok-always.ensures.grows c.requires.there in
    core_here c.since-in-H.new.self c.in_ok-since-in-H.since (csince c.args.i ctrue (neg there.formula))
    (c.in_ok-since-in-H.ensures.has ctrue (neg there.formula) (c.in_ok-not_a-in-H.ensures.grows.kept c.in_ok-always.always (of_core ctrue) c.in_ok-always.ensures.has)
    (c.in_ok-not_a-in-H.ensures.has there.formula there.has))

pub returns-in_ok-since-in-H-clause-grows : goal.returns-in_ok-since-in-H-clause-grows
returns-in_ok-since-in-H-clause-grows c =
    on_ok_weaker _ (grows_then c.args.self.now c.since-in-H.new.self c.negation-in-H-2.new.self
    (grows_then c.args.self.now c.negation-in-H.new.self c.since-in-H.new.self
    (grows_then c.args.self.now c.share.new.self c.negation-in-H.new.self c.in_ok-always.ensures.grows c.in_ok-not_a-in-H.ensures.grows)
    c.in_ok-since-in-H.ensures.grows)) c.negation-in-H-2.ensures.grows

pub returns-in_ok-since-in-H-clause-has : goal.returns-in_ok-since-in-H-clause-has
unfolding core
returns-in_ok-since-in-H-clause-has c = λ p h.
    subst (λ (op : WindowOp). IfOk c.negation-in-H-2.result (λ n. Has c.negation-in-H-2.new.self n (of_core (core (windowed op c.args.i p))))) (sym c.in-H.is)
    (c.negation-in-H-2.ensures.has (csince c.args.i ctrue (neg (core p)))
    (c.in_ok-since-in-H.ensures.has ctrue (neg (core p))
    (c.in_ok-not_a-in-H.ensures.grows.kept c.in_ok-always.always (of_core ctrue) c.in_ok-always.ensures.has)
    (c.in_ok-not_a-in-H.ensures.has (core p) (c.in_ok-always.ensures.grows.kept c.args.a (of_core (core p)) h))))
