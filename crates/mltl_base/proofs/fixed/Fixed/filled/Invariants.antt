use Rattle.std.proofs.Common.{◌≡◌, replicate}
use Rattle.mltl_base.proofs.fixed.Fixed.filled.Given as goal

abbrev pub invariant-loop : goal.invariant-loop
invariant-loop g l = record {
  capacity : l.items.cap ≡ l.count;
  len : l.items.len ≡ l.counter;
  items : l.items.items ≡ replicate l.counter l.value;
}
