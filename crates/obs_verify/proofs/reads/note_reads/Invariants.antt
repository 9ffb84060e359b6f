use Rattle.std.proofs.Common.{◌≡◌, [], drop, take}
use Rattle.obs_verify.specs.Kinds.{AreKinds}
use Rattle.obs_verify.specs.Upgrade.{first_clash, reads}
use Rattle.obs_verify.proofs.reads.note_reads.Given as goal

abbrev pub invariant-loop-i : goal.invariant-loop-i
invariant-loop-i l = record {
  passed : first_clash (take l.i l.ops) (drop l.i l.ops) ≡ first_clash [] l.ops;
  kinds : AreKinds (reads (take l.i l.ops)) l.kinds;
}
