-- Operands stay core formulas while vertices are added.
use Rattle.std.proofs.lemmas.Result.{on_ok_weaker}
use Rattle.mltl_base.specs.Formula.{Core, cand, neg}
use Rattle.core_graph.specs.Reading.{IsCoreAt}
use Rattle.core_graph.proofs.Forests.{core_here, core_kept, grows_then}
use Rattle.core_graph.proofs.forest.Forest.equivalence.Goals as goal

pub implication-requires-2-clause-left : goal.implication-requires-2-clause-left
implication-requires-2-clause-left c = core_kept c.args.self.now c.implication.new.self c.args.b c.in_ok-forward.ensures.grows c.requires.right

pub implication-requires-2-clause-right : goal.implication-requires-2-clause-right
implication-requires-2-clause-right c = core_kept c.args.self.now c.implication.new.self c.args.a c.in_ok-forward.ensures.grows c.requires.left

pub conjunction-requires-clause-left : goal.conjunction-requires-clause-left
conjunction-requires-clause-left c =
    let p : Core = c.requires.left.formula in
    let q : Core = c.requires.right.formula in
    core_kept c.implication.new.self c.implication-2.new.self c.in_ok-forward.forward c.in_ok-backward.ensures.grows
    (core_here c.implication.new.self c.in_ok-forward.forward (neg (cand p (neg q))) (c.in_ok-forward.ensures.has p q c.requires.left.has c.requires.right.has))

pub conjunction-requires-clause-right : goal.conjunction-requires-clause-right
conjunction-requires-clause-right c =
    let left : IsCoreAt c.implication.new.self c.args.a = core_kept c.args.self.now c.implication.new.self c.args.a c.in_ok-forward.ensures.grows c.requires.left in
    let right : IsCoreAt c.implication.new.self c.args.b = core_kept c.args.self.now c.implication.new.self c.args.b c.in_ok-forward.ensures.grows c.requires.right in
    core_here c.implication-2.new.self c.in_ok-backward.backward (neg (cand right.formula (neg left.formula))) (c.in_ok-backward.ensures.has right.formula left.formula right.has left.has)

pub returns-clause-grows : goal.returns-clause-grows
returns-clause-grows c =
    on_ok_weaker _ (grows_then c.args.self.now c.implication-2.new.self c.conjunction.new.self
    (grows_then c.args.self.now c.implication.new.self c.implication-2.new.self c.in_ok-forward.ensures.grows c.in_ok-backward.ensures.grows)) c.conjunction.ensures.grows
