use Rattle.set_expand.proofs.Gates.{SplicedSoFar}
use Rattle.set_expand.proofs.names.Names.splice.Given as goal

abbrev pub invariant-loop-gate : goal.invariant-loop-gate
invariant-loop-gate l = SplicedSoFar l.self l.fn.nodes l.nodes l.gates l.bodies l.places.items l.gate-index
