-- Over a clean trace, without a failed read or write, all is done.

use Rattle.std.proofs.Common.{◌≡◌, ℕ, Option, List, refl, sym, ◌∙◌}
use Rattle.mltl_base.specs.declared.report.Style.{Style}
use Rattle.mltl_base.specs.declared.program.Program.{Program}
use Rattle.tool_io.specs.declared.host.Place.{Place}
use Rattle.tool_io.specs.declared.host.Place.TheVariants.{Out, Trace}
use Rattle.tool_io.proofs.HostLaws.{Rose-by_one}
use Rattle.tool_io.specs.Log.{Event, OnLog}
use Rattle.tool_io.specs.Cutting.{Cutting}
use Rattle.tool_io.proofs.LogLaws.{OnLog-map}
use Rattle.r2u2_monitor.specs.declared.state.State.{State}
use Rattle.r2u2_watch.specs.declared.status.Watched as watched
use Rattle.r2u2_watch.specs.Trace.{Bad, Clean, Past, TraceRows}
use Rattle.r2u2_watch.specs.Watch.{EndsDone, IsWatch, NoneRose, WatchCause}

pub ends_done : (answer : watched.Watched) (program : Program) (style : Style) (rows_in : List (List ℕ) → TraceRows) (start cut : Cutting) (monitor : State) (events : List Event) (before now : Place → ℕ)
    → WatchCause answer before now → NoneRose before now → IsWatch program style rows_in start cut monitor answer events → EndsDone answer rows_in start cut events
ends_done watched.TheVariants.Done program style rows_in start cut monitor events before now cause none is clean = refl
ends_done watched.TheVariants.TooLong program style rows_in start cut monitor events before now cause none is clean = absurd (let stop : Clean ≡ Past = sym clean ∙ is.outcome.0 in cc)
ends_done (watched.TheVariants.BadTrace number why) program style rows_in start cut monitor events before now cause none is clean = absurd (let stop : Clean ≡ Bad number why = sym clean ∙ is.outcome.0 in cc)
ends_done watched.TheVariants.ReadFault program style rows_in start cut monitor events before now cause none is clean = absurd (none Trace (Rose-by_one (before Trace) (now Trace) cause.rose))
ends_done watched.TheVariants.WriteFault program style rows_in start cut monitor events before now cause none is clean = absurd (none Out (Rose-by_one (before Out) (now Out) cause.rose))

-- so it is on the log of a call
pub completes_on : (answer : watched.Watched) (program : Program) (style : Style) (rows_in : List (List ℕ) → TraceRows) (start cut : Cutting) (monitor : State) (log_before log_now : Option (List Event)) (before now : Place → ℕ)
    → WatchCause answer before now → OnLog log_before log_now (IsWatch program style rows_in start cut monitor answer) → NoneRose before now → OnLog log_before log_now (EndsDone answer rows_in start cut)
completes_on answer program style rows_in start cut monitor log_before log_now before now cause log none =
    OnLog-map log_before log_now (EndsDone answer rows_in start cut) log (λ events is. ends_done answer program style rows_in start cut monitor events before now cause none is)
