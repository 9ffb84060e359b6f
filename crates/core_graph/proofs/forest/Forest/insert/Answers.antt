use Rattle.std.proofs.Common.{List, subst}
use Rattle.core_graph.specs.declared.vertex.Vertex.{Vertex}
use Rattle.core_graph.specs.contracts.vertex.VertexEq.TheImpl.Laws.{laws-law}
use Rattle.core_graph.specs.Vertices.{IsAdded}
use Rattle.core_graph.proofs.Forests.{inserted}
use Rattle.core_graph.proofs.forest.Forest.insert.Goals as goal

pub returns-clause-added : goal.returns-clause-added
returns-clause-added c =
    subst (λ (old : List Vertex). IsAdded old c.insert_full.new.self.keys c.args.vertex) c.self.view_is
    (inserted laws-law c.self.inside.vertices.keys c.insert_full.new.self.keys c.args.vertex c.in_ok-number.ensures.keys)
