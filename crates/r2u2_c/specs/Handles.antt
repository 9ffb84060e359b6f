-- The memory that a handle owns.

use Rattle.std.specs.Prelude.{Option, Some, None}
use base.Fml.{Fml, ftrue, ffalse}
use denote.RawPtr.{Ptr, block_ptr, null_ptr}
use Rattle.std.specs.declared.alloc.Global.{Global}
use Rattle.std.specs.contracts.impls.GlobalAllocator.TheImpl.{ghosts}
use Rattle.std_alloc.specs.Box.Ownership.{box_owns}
use Rattle.r2u2_monitor.specs.declared.state.State.{State}
use Rattle.r2u2_monitor.specs.contracts.monitor.Monitor.{the_row}

-- the C library's heap
abbrev pub heap : Global
heap = record { memory = record { seal = tt } }

-- a handle at null has no monitor and owns nothing; any other handle owns a box on the heap with the monitor
abbrev pub handle_owns : Ptr → Option State → Fml
handle_owns null_ptr None = ftrue
handle_owns null_ptr (Some monitor) = ffalse
handle_owns (block_ptr b o) None = ffalse
handle_owns (block_ptr b o) (Some monitor) = box_owns (ghosts.dealloc_token heap) the_row (block_ptr b o) monitor
