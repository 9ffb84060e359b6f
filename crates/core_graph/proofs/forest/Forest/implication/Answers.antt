-- Operands stay core formulas while vertices are added.
use Rattle.std.proofs.lemmas.Result.{on_ok_weaker}
use Rattle.mltl_base.specs.Formula.{cand, neg}
use Rattle.core_graph.specs.Reading.{IsCoreAt}
use Rattle.core_graph.proofs.Forests.{core_here, core_kept, grows_then}
use Rattle.core_graph.proofs.forest.Forest.implication.Goals as goal

pub conjunction-requires-clause-left : goal.conjunction-requires-clause-left
conjunction-requires-clause-left c = core_kept c.args.self.now c.negation.new.self c.args.a c.in_ok-not_b.ensures.grows c.requires.left

pub negation-requires-2-clause-there : goal.negation-requires-2-clause-there
negation-requires-2-clause-there c =
    let kept : IsCoreAt c.negation.new.self c.args.a = core_kept c.args.self.now c.negation.new.self c.args.a c.in_ok-not_b.ensures.grows c.requires.left in
    core_here c.conjunction.new.self c.in_ok-both.both (cand kept.formula (neg c.requires.right.formula))
    (c.in_ok-both.ensures.has kept.formula (neg c.requires.right.formula) kept.has (c.in_ok-not_b.ensures.has c.requires.right.formula c.requires.right.has))

pub returns-clause-grows : goal.returns-clause-grows
returns-clause-grows c =
    on_ok_weaker _ (grows_then c.args.self.now c.conjunction.new.self c.negation-2.new.self
    (grows_then c.args.self.now c.negation.new.self c.conjunction.new.self c.in_ok-not_b.ensures.grows c.in_ok-both.ensures.grows)) c.negation-2.ensures.grows
