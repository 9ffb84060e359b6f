-- What a handle owns says the same to every thread: nothing, or a box on the heap with a monitor.
use Rattle.std.specs.Prelude.{Option, Some, None}
use mir.Raw.{raw}
use base.Fraction.{full_share}
use base.Shift.{Keyless}
use denote.Memory.{lone}
use denote.RawPtr.{Ptr, block_ptr, null_ptr}
use denote.Param.Send.{IsSend, owning_send, part_keyless, sendable}
use Rattle.std.proofs.Crossing.{frees}
use Rattle.r2u2_monitor.specs.declared.state.State.{State}
use Rattle.r2u2_monitor.specs.contracts.monitor.Monitor.{the_row as R}
use Rattle.r2u2_monitor.proofs.monitor.Monitor.TheSendSync.{the_send as monitor}
use Rattle.r2u2_c.specs.Handles.{heap, handle_owns}
use Rattle.r2u2_c.specs.contracts.handle.Handle.{the_row, the_type}

held_keyless : (p : Ptr) (value : Option State) → Keyless (handle_owns p value)
held_keyless null_ptr None = tt
held_keyless null_ptr (Some m) = tt
held_keyless (block_ptr b o) None = tt
held_keyless (block_ptr b o) (Some m) = (part_keyless R monitor full_share m b o, frees.frees heap (raw (lone R.mir)) (block_ptr b o))

pub send : IsSend the_row
send = owning_send the_type (search sendable, tt) (λ it. held_keyless it.at it.value) (λ k x w. tt)
