-- The right operand stays while the left one is negated.
use Rattle.std.proofs.lemmas.Result.{on_ok_weaker}
use Rattle.core_graph.proofs.Forests.{core_kept, grows_then}
use Rattle.core_graph.proofs.forest.Forest.disjunction.Goals as goal

pub implication-requires-clause-right : goal.implication-requires-clause-right
implication-requires-clause-right c = core_kept c.args.self.now c.negation.new.self c.args.b c.in_ok-not_a.ensures.grows c.requires.right

pub returns-clause-grows : goal.returns-clause-grows
returns-clause-grows c =
    on_ok_weaker _ (grows_then c.args.self.now c.negation.new.self c.implication.new.self c.in_ok-not_a.ensures.grows) c.implication.ensures.grows
