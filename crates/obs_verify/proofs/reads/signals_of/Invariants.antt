use Rattle.std.proofs.Common.{◌≡◌, List}
use Rattle.mltl_base.specs.declared.program.StoredSignal.{StoredSignal}
use Rattle.obs_verify.specs.Kinds.{AreKinds}
use Rattle.obs_verify.specs.Upgrade.{signals_below}
use Rattle.obs_verify.proofs.reads.signals_of.Given as goal

abbrev pub invariant-loop-c : goal.invariant-loop-c
invariant-loop-c l = (earlier : List StoredSignal) → AreKinds earlier l.kinds → l.signals ≡ signals_below l.c earlier
