-- The bytes that a monitor allocates, by its program alone, and the bytes that it holds. A list of a program has room for
-- `room` of its members; each list of the engines has just its members in its block. A list without members has no block.
-- The monitor itself, of MONITOR_BYTES wherever its caller puts it, isn't counted.

use Rattle.std.specs.Prelude.{ℕ, ◌+◌, ◌*◌, length, sum}
use Rattle.mltl_base.specs.declared.program.Program.{Program}
use Rattle.mltl_base.specs.declared.program.Sizes.{Sizes}
use Rattle.mltl_base.specs.Queues.{best_delays, worst_delays}
use Rattle.mltl_base.specs.Room.{room}
use Rattle.obs_verify.specs.SignalNumbers.{signals_read}
use Rattle.ft_engine.specs.declared.bytes.TheConstants.{QUEUE_BYTES, SLOT_BYTES}
use Rattle.ft_engine.specs.declared.Ft.{Ft}
use Rattle.pt_boxes.specs.declared.bytes.TheConstants.{NODE_BYTES, SPAN_BYTES}
use Rattle.pt_boxes.specs.declared.Pt.{Pt}
use Rattle.trace_feed.specs.Readings.{readings_of}
use Rattle.r2u2_monitor.specs.declared.bytes.TheConstants.{BZ_OP_BYTES, FT_OP_BYTES, NUMBER_BYTES, OUT_BYTES}
use Rattle.r2u2_monitor.specs.declared.bytes.TheConstants.{PT_OP_BYTES, READER_BYTES, READING_BYTES, SIGNAL_BYTES}
use Rattle.r2u2_monitor.specs.declared.bytes.TheConstants.{SIZE_BYTES, TIME_BYTES}
use Rattle.r2u2_monitor.specs.declared.running.Running.{Running}
use Rattle.r2u2_monitor.specs.declared.state.State.{State}

-- ---- the bytes that it takes

-- the bytes of the seven lists of a program; names are in the outputs and the signals themselves
abbrev pub program_bytes : Program → ℕ
program_bytes program =
    BZ_OP_BYTES * room (length program.bz)
    + FT_OP_BYTES * room (length program.ft)
    + PT_OP_BYTES * room (length program.pt)
    + OUT_BYTES * room (length program.outs)
    + SIZE_BYTES * room (length program.sizes.ft)
    + SIZE_BYTES * room (length program.sizes.pt)
    + SIGNAL_BYTES * room (length program.signals)

-- the bytes of a checked program: also the best and the worst delay of each future-time instruction, and for each
-- instruction of the Booleanizer the signal that it reads
abbrev pub checked_bytes : Program → ℕ
checked_bytes program =
    program_bytes program
    + SIZE_BYTES * room (length program.ft)
    + SIZE_BYTES * room (length program.ft)
    + READER_BYTES * room (length program.bz)

-- the bytes of the engines: a number for each instruction of the Booleanizer, the queues with their slots, the past-time
-- instructions with their boxes, and a time for each output; and for each column its reading, and its number in a row that
-- is read
abbrev pub running_bytes : Program → ℕ
running_bytes program =
    NUMBER_BYTES * length program.bz
    + QUEUE_BYTES * length program.ft
    + SLOT_BYTES * sum program.sizes.ft
    + NODE_BYTES * length program.pt
    + SPAN_BYTES * sum program.sizes.pt
    + TIME_BYTES * length program.outs
    + READING_BYTES * program.width
    + NUMBER_BYTES * program.width

-- the bytes that a monitor of the program takes
abbrev pub monitor_bytes : Program → ℕ
monitor_bytes program = checked_bytes program + running_bytes program

-- ---- the bytes that it holds: each type by all its fields, so that a type with a further field doesn't compile

-- the bytes of the sizes of a program
abbrev pub bytes_of_sizes : Sizes → ℕ
bytes_of_sizes sizes =
    let record { ft = ft; pt = pt } = sizes in
    SIZE_BYTES * room (length ft) + SIZE_BYTES * room (length pt)

-- the bytes of the lists of a program
abbrev pub bytes_of_program : Program → ℕ
bytes_of_program program =
    let record {
      version = version;
      width = width;
      bz = bz;
      ft = ft;
      pt = pt;
      outs = outs;
      sizes = sizes;
      signals = signals;
    } = program in
    BZ_OP_BYTES * room (length bz)
    + FT_OP_BYTES * room (length ft)
    + PT_OP_BYTES * room (length pt)
    + OUT_BYTES * room (length outs)
    + bytes_of_sizes sizes
    + SIGNAL_BYTES * room (length signals)

-- the bytes of a program that was checked, which contracts see without its delays and the signals that it reads
abbrev pub bytes_of_checked : Program → ℕ
bytes_of_checked checked =
    bytes_of_program checked
    + SIZE_BYTES * room (length (best_delays checked.ft))
    + SIZE_BYTES * room (length (worst_delays checked.ft))
    + READER_BYTES * room (length (signals_read checked))

-- the bytes of the queues and their slots
abbrev pub bytes_of_future : Ft → ℕ
bytes_of_future ft =
    let record { queues = queues; slab = slab; sound = sound } = ft in
    QUEUE_BYTES * length queues + SLOT_BYTES * length slab

-- the bytes of the past-time instructions and their boxes
abbrev pub bytes_of_past : Pt → ℕ
bytes_of_past pt =
    let record { nodes = nodes; slab = slab; rows = rows } = pt in
    NODE_BYTES * length nodes + SPAN_BYTES * length slab

-- the bytes of the engines: contracts see the Booleanizer as its numbers and the outputs as their next times
abbrev pub bytes_of_running : Running → ℕ
bytes_of_running running =
    let record { checked = checked; bz = numbers; ft = ft; pt = pt; outs = next_times; taken = taken } = running in
    bytes_of_checked checked
    + NUMBER_BYTES * length numbers
    + bytes_of_future ft
    + bytes_of_past pt
    + TIME_BYTES * length next_times

-- the bytes of a monitor, which contracts see without the readings of its columns; no bytes hold the row that was taken last
abbrev pub bytes_of : State → ℕ
bytes_of monitor =
    let record { running = running; last = last; read = read } = monitor in
    bytes_of_running running
    + READING_BYTES * length (readings_of running.checked)
    + NUMBER_BYTES * length read
