use Rattle.std.proofs.Common.{◌≡◌, ◌+◌, ◌++◌, pos, length, take}
use Rattle.std.specs.Prelude.{replicate}
use Rattle.trace_feed.proofs.unread_fields.clear.Given as goal

-- so many columns hold 0
abbrev pub invariant-loop-i : goal.invariant-loop-i
invariant-loop-i l = record {
  wide : length l.fields ≡ length l.initial.fields;
  zeros : take (l.from + l.i) l.fields ≡ take l.from l.initial.fields ++ replicate l.i (pos 0);
}
