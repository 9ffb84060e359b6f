use Rattle.std.proofs.Common.{◌≡◌, drop}
use Rattle.obs_verify.specs.WellFormed.{first_in}
use Rattle.obs_verify.proofs.checks.check_all.Given as goal

abbrev pub invariant-loop-i : goal.invariant-loop-i
invariant-loop-i g l = first_in (g.T.Ruled.fault_of l.program) l.i (drop l.i l.members) ≡ first_in (g.T.Ruled.fault_of l.program) 0 l.members
