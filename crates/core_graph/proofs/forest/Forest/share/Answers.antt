use Rattle.std.proofs.lemmas.Result.{on_ok_weaker}
use Rattle.core_graph.proofs.Forests.{grows_added, shared_has}
use Rattle.core_graph.proofs.forest.Forest.share.Goals as goal

pub returns-clause-grows : goal.returns-clause-grows
returns-clause-grows c =
    on_ok_weaker c.insert.result (grows_added c.args.self.now c.insert.new.self c.args.vertex c.requires.forest c.requires.below) c.insert.ensures.added

pub returns-clause-has : goal.returns-clause-has
returns-clause-has c =
    shared_has c.insert.result c.args.self.now c.insert.new.self c.args.vertex c.requires.forest c.requires.below c.insert.ensures.added c.insert.ensures.index
