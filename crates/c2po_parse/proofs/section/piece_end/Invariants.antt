use Rattle.std.proofs.Common.{◌≡◌, ◌+◌, ◌≤◌, length}
use Rattle.c2po_parse.specs.Sections.{piece_len}
use Rattle.c2po_parse.proofs.section.piece_end.Given as goal

abbrev pub invariant-loop-rest : goal.invariant-loop-rest
invariant-loop-rest l = record {
  before : l.count + piece_len l.section l.depth l.rest ≡ piece_len l.section 0 l.tokens;
  left : l.count + length l.rest ≡ length l.tokens;
  low : l.depth ≤ l.count;
}

abbrev pub decreases-loop-rest : goal.decreases-loop-rest
decreases-loop-rest l = length l.rest
