use Rattle.api_tests.proofs.Comparing.{AreComparing}
use Rattle.api_tests.proofs.graphs.comparisons.Given as goal

abbrev pub invariant-loop-n : goal.invariant-loop-n
invariant-loop-n l = AreComparing l.signal l.other l.nodes l.outs
