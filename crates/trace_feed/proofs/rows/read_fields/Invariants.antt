use Rattle.std.proofs.Common.{◌≡◌, ◌≤◌, ◌+◌, ◌-◌, ℕ, length, take}
use Rattle.trace_feed.specs.Readings.{AreReadings, fields_meaning}
use Rattle.trace_feed.specs.Rows.{fields_of}
use Rattle.trace_feed.specs.declared.fields.Reading.{Reading}
use Rattle.trace_feed.proofs.RowLaws.{Says}
use Rattle.trace_feed.proofs.rows.read_fields.Given as goal

-- what the numbers so far and the fields that are left say is what the line says
abbrev pub invariant-columns : goal.invariant-columns
invariant-columns l = record {
  column : l.spot.column ≤ l.width;
  within : l.spot.at ≤ length l.line + 1;
  wide : length l.fields ≡ l.width;
  told : (reading : ℕ → Reading) → AreReadings reading l.readings
      → Says reading l.spot.column (l.width - l.spot.column) (take l.spot.column l.fields) l.line l.spot.at (fields_meaning reading 0 l.width (fields_of l.line));
}

abbrev pub decreases-columns : goal.decreases-columns
decreases-columns l = l.width - l.spot.column
