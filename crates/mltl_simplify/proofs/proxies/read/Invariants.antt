use Rattle.mltl_simplify.specs.Nodes.{AreSimplified}
use Rattle.mltl_simplify.proofs.proxies.read.Given as goal

abbrev pub invariant-loop-i : goal.invariant-loop-i
invariant-loop-i l = AreSimplified l.nodes l.i l.simple l.proxies.items
