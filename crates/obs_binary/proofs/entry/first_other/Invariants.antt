use Rattle.std.proofs.Common.{◌≡◌, ◌+◌, drop}
use Rattle.obs_binary.specs.Reading.{first_other}
use Rattle.obs_binary.proofs.entry.first_other.Given as goal

abbrev pub invariant-loop-i : goal.invariant-loop-i
invariant-loop-i l = first_other (l.offset + l.i) (drop l.i l.musts) (drop l.i l.bytes) ≡ first_other l.offset l.musts l.bytes
