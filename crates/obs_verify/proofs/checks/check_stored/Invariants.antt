use Rattle.std.proofs.Common.{◌≡◌, drop}
use Rattle.obs_verify.specs.WellFormed.{first_in, size_fault}
use Rattle.obs_verify.proofs.checks.check_stored.Given as goal

abbrev pub invariant-loop-i : goal.invariant-loop-i
invariant-loop-i l = first_in (size_fault l.part l.needed) l.i (drop l.i l.stored) ≡ first_in (size_fault l.part l.needed) 0 l.stored
