-- A monitor that was taken out of a handle, when a borrow of it ends.

use Rattle.std.specs.Borrow.{Lends, MutBor, Fml}
use Rattle.r2u2_monitor.specs.declared.state.State.{State}
use Rattle.r2u2_monitor.specs.contracts.monitor.Monitor as monitor
use Rattle.r2u2_c.specs.declared.handle.Held.{Held}
use Rattle.r2u2_c.specs.contracts.handle.Held as held

-- the held monitor in this state
abbrev pub with_monitor : Held → State → Held
with_monitor h m = record h { monitor = record h.monitor { value = m } }

-- when the borrow r ends, h has the monitor that was written through r
abbrev pub lends_monitor : MutBor Held → MutBor State → Fml
lends_monitor h r = Lends held.the_row monitor.the_row h r (with_monitor h.now)
