use Rattle.std.proofs.Common.{◌≡◌, ◌+◌, ◌≤◌, length}
use Rattle.c2po_parse.specs.Forms.{promise_at}
use Rattle.c2po_parse.proofs.section.promise_place.Given as goal

abbrev pub invariant-loop-rest : goal.invariant-loop-rest
invariant-loop-rest l = record {
  first : promise_at l.count l.depth l.rest ≡ promise_at 0 0 l.tokens;
  left : l.count + length l.rest ≡ length l.tokens;
  low : l.depth ≤ l.count;
}

abbrev pub decreases-loop-rest : goal.decreases-loop-rest
decreases-loop-rest l = length l.rest
