use Rattle.std.proofs.Common.{◌≡◌, drop, take}
use Rattle.obs_verify.specs.Kinds.{AreKinds, AreNames}
use Rattle.obs_verify.specs.WellFormed.{first_in, signal_fault}
use Rattle.obs_verify.proofs.signals.note_signals.Given as goal

abbrev pub invariant-loop-k : goal.invariant-loop-k
invariant-loop-k l = record {
  passed : first_in (signal_fault l.program) l.k (drop l.k l.signal-items) ≡ first_in (signal_fault l.program) 0 l.signal-items;
  kinds : AreKinds (take l.k l.signal-items) l.kinds;
  names : AreNames (take l.k l.signal-items) l.names;
}
