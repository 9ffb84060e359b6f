-- The bytes in the fields of the types whose values contracts see. Each field is named, so that a type with a further field
-- doesn't compile. The laws `fields_hold_*` say that the fields hold just the bytes that `Bytes` counts.

use Rattle.std.specs.Prelude.{ℕ, ◌+◌, ◌*◌, Option, None, Some, length}
use Rattle.mltl_base.specs.Room.{room}
use Rattle.delay_sizes.specs.declared.delay_lists.Delays.{Delays}
use Rattle.obs_verify.specs.declared.Checked.TheInside.{Inside as CheckedFields}
use Rattle.booleanizer.specs.declared.Bz.TheInside.{Inside as BzFields}
use Rattle.contract_status.specs.declared.Outs.TheInside.{Inside as OutsFields}
use Rattle.contract_status.specs.declared.cursor.Cursor.{Cursor}
use Rattle.contract_status.specs.declared.engines.Stretch.{Stretch}
use Rattle.trace_feed.specs.declared.Readings.TheInside.{Inside as ReadingsFields}
use Rattle.r2u2_monitor.specs.declared.bytes.TheConstants.{NUMBER_BYTES, READER_BYTES, READING_BYTES}
use Rattle.r2u2_monitor.specs.declared.bytes.TheConstants.{SIZE_BYTES, TIME_BYTES}
use Rattle.r2u2_monitor.specs.declared.last_row.LastRow.{LastRow}
use Rattle.r2u2_monitor.specs.declared.monitor.Monitor.TheInside.{Inside as MonitorFields}
use Rattle.r2u2_monitor.specs.Bytes.{bytes_of_program, bytes_of_running}

-- the bytes of the best and the worst delays
abbrev pub bytes_in_delays : Delays → ℕ
bytes_in_delays delays =
    let record { best = best; worst = worst } = delays in
    SIZE_BYTES * room (length best) + SIZE_BYTES * room (length worst)

-- the bytes of a checked program: its lists, its delays, and the signal that each instruction of the Booleanizer reads
abbrev pub bytes_in_checked : CheckedFields → ℕ
bytes_in_checked checked =
    let record { program = program; delays = delays; signal_numbers = readers } = checked in
    bytes_of_program program + bytes_in_delays delays + READER_BYTES * room (length readers)

-- the bytes of the Booleanizer: its numbers
abbrev pub bytes_in_booleanizer : BzFields → ℕ
bytes_in_booleanizer bz =
    let record { numbers = numbers } = bz in
    NUMBER_BYTES * length numbers

-- the bytes of the outputs: their next times
abbrev pub bytes_in_outputs : OutsFields → ℕ
bytes_in_outputs outs =
    let record { times = next_times } = outs in
    TIME_BYTES * length next_times

-- the bytes of the readings of columns
abbrev pub bytes_in_readings : ReadingsFields → ℕ
bytes_in_readings readings =
    let record { columns = columns } = readings in
    READING_BYTES * length columns

-- the row that was taken last, which is for contracts alone, has no list
abbrev pub bytes_in_last_row : LastRow → ℕ
bytes_in_last_row last =
    let record { numbers = numbers } = last in
    0

-- a stretch, if there is one, has no list
abbrev pub bytes_in_stretch : Option Stretch → ℕ
bytes_in_stretch None = 0
bytes_in_stretch (Some stretch) =
    let record { last = last; word = word } = stretch in
    0

-- the cursor has no list
abbrev pub bytes_in_cursor : Cursor → ℕ
bytes_in_cursor cursor =
    let record { out = out; stretch = stretch } = cursor in
    bytes_in_stretch stretch

-- the bytes of a monitor
abbrev pub bytes_in_monitor : MonitorFields → ℕ
bytes_in_monitor monitor =
    let record { running = running; last = last; read = read; readings = readings; cursor = cursor } = monitor in
    bytes_of_running running
    + bytes_in_last_row last
    + NUMBER_BYTES * length read
    + READING_BYTES * length readings
    + bytes_in_cursor cursor
