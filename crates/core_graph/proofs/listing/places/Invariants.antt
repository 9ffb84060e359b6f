use Rattle.std.proofs.Common.{◌≡◌, ℕ, Some, length, take, slice_get, slice_index}
use Rattle.core_graph.proofs.listing.places.Given as goal

abbrev pub invariant-loop-i : goal.invariant-loop-i
invariant-loop-i l = record {
  count : length l.places.items ≡ l.count;
  placed : (k n : ℕ) → slice_get (take l.i l.ids) k ≡ Some n → slice_index l.places.items n ≡ k;
}
