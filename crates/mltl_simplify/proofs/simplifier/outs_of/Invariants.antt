use Rattle.std.proofs.Common.{◌≡◌, map, take}
use Rattle.mltl_simplify.specs.Nodes.{out_over}
use Rattle.mltl_simplify.proofs.simplifier.outs_of.Given as goal

abbrev pub invariant-loop-out : goal.invariant-loop-out
invariant-loop-out l = l.list ≡ map (out_over l.proxies) (take l.out-index l.outs)
