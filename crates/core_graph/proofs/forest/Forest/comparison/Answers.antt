-- Two vertices more, or three.
use Rattle.std.proofs.lemmas.Result.{on_ok_weaker}
use Rattle.core_graph.proofs.Forests.{grows_then}
use Rattle.core_graph.proofs.forest.Forest.comparison.Goals as goal

pub returns-then-eq-clause-grows : goal.returns-then-eq-clause-grows
returns-then-eq-clause-grows c =
    on_ok_weaker _ (grows_then c.args.self.now c.share-2.new.self c.share-then-eq.new.self
    (grows_then c.args.self.now c.share.new.self c.share-2.new.self c.in_ok-atom.ensures.grows c.in_ok-load.ensures.grows)) c.share-then-eq.ensures.grows

pub returns-else-eq-clause-grows : goal.returns-else-eq-clause-grows
returns-else-eq-clause-grows c =
    grows_then c.args.self.now c.share.new.self c.share-2.new.self c.in_ok-atom.ensures.grows c.in_ok-load.ensures.grows
