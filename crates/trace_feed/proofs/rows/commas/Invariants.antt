use Rattle.std.proofs.Common.{◌≡◌, take}
use Rattle.std.specs.Prelude.{count_by}
use Rattle.trace_feed.specs.Rows.{is_comma}
use Rattle.trace_feed.proofs.rows.commas.Given as goal

abbrev pub invariant-loop-i : goal.invariant-loop-i
invariant-loop-i l = l.count ≡ count_by is_comma (take l.i l.line)
