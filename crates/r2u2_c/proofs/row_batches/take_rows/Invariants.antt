use Rattle.std.proofs.Common.{◌≡◌, ◌+◌, ◌*◌, ◌<◌, ◌≤◌, drop, length, take}
use Rattle.r2u2_monitor.specs.Monitoring.{IsDrained}
use Rattle.r2u2_c.specs.Batches.{TakesEach, rows_in}
use Rattle.r2u2_c.specs.Reports.{style_of}
use Rattle.r2u2_c.proofs.row_batches.take_rows.Given as goal

-- so many rows were taken, with so many reports
abbrev pub invariant-rows : goal.invariant-rows
invariant-rows l = record {
  each : TakesEach (style_of l.runs) (rows_in l.size l.batch.rows l.fn.numbers) (take l.batch.reports l.reports) l.initial.monitor l.monitor;
  left : l.rest ≡ drop (l.batch.rows * l.size) l.fn.numbers;
  some : 0 < l.size;
  few : l.batch.rows + length l.rest ≤ length l.fn.numbers;
  within : l.batch.reports ≤ length l.reports;
  front : drop l.batch.reports l.reports ≡ drop l.batch.reports l.initial.reports;
  drained : 0 < l.batch.rows → l.batch.reports < length l.reports → IsDrained l.monitor;
  none : l.batch.rows ≡ 0 → l.batch.reports ≡ 0;
}

abbrev pub decreases-rows : goal.decreases-rows
decreases-rows l = length l.rest
