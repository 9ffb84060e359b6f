use Rattle.std.proofs.Common.{◌≡◌, ℕ, ◌+◌, ◌<◌}
use Rattle.trace_feed.specs.declared.fields.Reading.{Reading}
use Rattle.trace_feed.specs.Readings.{AreReadings}
use Rattle.r2u2_monitor.specs.RowFaults.{FitsColumn}
use Rattle.r2u2_monitor.proofs.unfit.first_unfit.Given as goal

-- each column so far can hold its number
abbrev pub invariant-loop-c : goal.invariant-loop-c
invariant-loop-c g l = record {
  first : (reading : ℕ → Reading) → AreReadings reading l.readings → (k : ℕ) → k < l.c → FitsColumn reading l.row k;
  counted : l.steps ≡ l.initial.steps + l.c;
}
