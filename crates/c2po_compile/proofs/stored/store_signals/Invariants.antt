use Rattle.std.proofs.Common.{◌≡◌, take}
use Rattle.c2po_compile.specs.Images.{stored_signals}
use Rattle.c2po_compile.proofs.stored.store_signals.Given as goal

abbrev pub invariant-loop-k : goal.invariant-loop-k
invariant-loop-k l = l.list ≡ stored_signals (take l.k l.signals) (take l.k l.columns)
