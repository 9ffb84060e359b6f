-- The invariant of the fields of a monitor.

use Rattle.std.specs.Prelude.{◌≡◌}
use Rattle.trace_feed.specs.Readings.{readings_of}
use Rattle.r2u2_monitor.specs.declared.monitor.Monitor.TheInside.{Inside as MonitorFields}
use Rattle.r2u2_monitor.specs.declared.state.State.{State}
use Rattle.r2u2_monitor.specs.Monitoring.{MonitorIsSound}
use Rattle.r2u2_monitor.specs.Running.{ResumesAt}

-- the state that contracts see of the fields
abbrev pub state_of : MonitorFields → State
state_of monitor = record { running = monitor.running; last = monitor.last.numbers; read = monitor.read }

-- the monitor is sound, its search may go on at its cursor, and its readings are the readings of its program's columns
pub record IsKept (monitor : MonitorFields) : Type 0 where
  pub sound : MonitorIsSound (state_of monitor)
  pub resumes : ResumesAt monitor.running monitor.cursor
  pub readings : monitor.readings ≡ readings_of monitor.running.checked
