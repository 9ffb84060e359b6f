-- A monitor holds the bytes that its program takes.

use Rattle.std.proofs.Common.{◌≡◌, Option, None, Some, [], length, refl, arith}
use Rattle.std.proofs.lemmas.List.{length-map}
use Rattle.mltl_base.specs.Queues.{best_delays, best_of, worst_delays, worst_of}
use Rattle.mltl_base.specs.declared.program.Program.{Program}
use Rattle.delay_sizes.proofs.DelayLaws.{length-numbered_after}
use Rattle.obs_verify.specs.SignalNumbers.{signal_read, signals_read}
use Rattle.obs_verify.specs.declared.Checked.TheInside.{Inside as CheckedFields}
use Rattle.obs_verify.specs.declared.Checked.TheView as checked
use Rattle.ft_engine.specs.Standing as future
use Rattle.pt_boxes.specs.Standing as past
use Rattle.trace_feed.proofs.ReadingLaws.{length-readings_of}
use Rattle.r2u2_monitor.specs.Bytes.{bytes_of, bytes_of_checked, monitor_bytes}
use Rattle.contract_status.specs.declared.engines.Stretch.{Stretch}
use Rattle.r2u2_monitor.specs.Holders.{bytes_in_checked, bytes_in_monitor, bytes_in_stretch}
use Rattle.r2u2_monitor.specs.declared.monitor.Monitor.TheInside.{Inside as MonitorFields}
use Rattle.r2u2_monitor.specs.declared.monitor.Monitor.TheView as monitor
use Rattle.r2u2_monitor.specs.declared.state.State.{State}
use Rattle.r2u2_monitor.specs.Monitoring.{MonitorIsSound, program_of}

pub holds_what_it_takes : (monitor : State) → MonitorIsSound monitor → bytes_of monitor ≡ monitor_bytes (program_of monitor)
unfolding future.instruction_count future.slot_total past.instruction_count past.room_total
holds_what_it_takes monitor sound =
    let program : Program = program_of monitor in
    let stand = sound.some.1.taken.stand in
    let best : length (best_delays program.ft) ≡ length program.ft = omega (arith, length-numbered_after best_of [] program.ft) in
    let worst : length (worst_delays program.ft) ≡ length program.ft = omega (arith, length-numbered_after worst_of [] program.ft) in
    let read : length (signals_read program) ≡ length program.bz = length-map program.bz (signal_read program.signals) in
    rw (best, worst, read, length-readings_of program, sound.numbers, stand.future.count, stand.future.total, stand.past.count, stand.past.total, stand.placed.count, sound.read_wide)
    (omega arith)

-- the fields of a checked program hold what is counted of it
pub checked_fields : (fields : CheckedFields) → checked.invariant fields → bytes_in_checked fields ≡ bytes_of_checked (checked.view fields)
checked_fields fields kept = rw (kept.best, kept.worst, kept.read_by) (omega arith)

-- a stretch has no list
no_list : (stretch : Option Stretch) → bytes_in_stretch stretch ≡ 0
no_list None = refl
no_list (Some stretch) = refl

-- and so do those of a monitor
pub monitor_fields : (fields : MonitorFields) → monitor.invariant fields → bytes_in_monitor fields ≡ bytes_of (monitor.view fields)
monitor_fields fields kept = let none = no_list fields.cursor.stretch in rw (kept.readings, none) (omega arith)
