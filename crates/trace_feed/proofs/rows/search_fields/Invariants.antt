use Rattle.std.proofs.Common.{◌≡◌, ◌≤◌, ◌+◌, ◌-◌, length, take}
use Rattle.trace_feed.specs.Readings.{fields_meaning}
use Rattle.trace_feed.specs.Rows.{fields_of, reading_of}
use Rattle.trace_feed.proofs.RowLaws.{Says}
use Rattle.trace_feed.proofs.rows.search_fields.Given as goal

-- what the numbers so far and the fields that are left say is what the line says
abbrev pub invariant-columns : goal.invariant-columns
invariant-columns l = record {
  within : l.at ≤ length l.line + 1;
  wide : length l.fields ≡ l.width;
  told : Says (reading_of l.ops) l.c (l.width - l.c) (take l.c l.fields) l.line l.at (fields_meaning (reading_of l.ops) 0 l.width (fields_of l.line));
}
