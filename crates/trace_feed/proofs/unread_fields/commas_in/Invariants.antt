use Rattle.std.proofs.Common.{◌≡◌, ◌≤◌, take}
use Rattle.std.specs.Prelude.{count_by}
use Rattle.trace_feed.specs.Rows.{is_comma}
use Rattle.trace_feed.proofs.unread_fields.commas_in.Given as goal

abbrev pub invariant-loop-i : goal.invariant-loop-i
invariant-loop-i l = record {
  few : l.count ≤ l.i;
  count : l.count ≡ count_by is_comma (take l.i l.block);
}
