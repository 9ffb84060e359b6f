use Rattle.std.proofs.Common.{◌≡◌, length, take}
use Rattle.trace_feed.specs.Readings.{AreReadings}
use Rattle.trace_feed.specs.Rows.{reading_of}
use Rattle.trace_feed.proofs.readings.note_all.Given as goal

-- the readings are those of the instructions so far
abbrev pub invariant-loop-op : goal.invariant-loop-op
invariant-loop-op l = record {
  many : length l.readings ≡ length l.fn.readings;
  noted : AreReadings (reading_of (take l.op-index l.ops)) l.readings;
}
