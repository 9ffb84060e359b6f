-- The output of a demo.

use Rattle.std.specs.Prelude.{◌≡◌, ℕ, Option, Some, None, Ok, List, []}
use Rattle.tool_io.specs.declared.host.Place as place
use Rattle.tool_io.specs.Log.{Event, IsProperFront, Writes, WritesFront}
use Rattle.r2u2_monitor.specs.declared.state.State.{State}
use Rattle.r2u2_monitor.specs.Monitoring.{IsDrained, Stands, program_of}
use Rattle.c2po_compile.specs.Compiled.{compile_text}
use Rattle.r2u2_cli.specs.Summary.{demo_rows, demo_summary}
use Rattle.r2u2_cli.specs.Text.{demo_text}
use Rattle.tool_words.specs.declared.status.Status as status
use Rattle.r2u2_cli.specs.Outcome.{Silent}

-- the kept monitor runs the demo's text, has taken the demo's rows, and has reported all of them
pub record KeepsDemo (seed rows : ℕ) (kept : Option State) : Type 0 where
  pub monitor : State
  pub is : kept ≡ Some monitor
  pub program : compile_text demo_text None ≡ Ok (program_of monitor)
  pub stands : Stands monitor (demo_rows seed rows)
  pub drained : IsDrained monitor

-- the summary is out whole, or a proper prefix of it; if out of memory, nothing is out
abbrev pub DemoOutcome : status.Status → ℕ → ℕ → List ℕ → Option State → Type 0
DemoOutcome status.TheVariants.Done seed rows out kept = (out ≡ demo_summary seed rows) × KeepsDemo seed rows kept
DemoOutcome (status.TheVariants.WriteFault place.TheVariants.Out) seed rows out kept =
    IsProperFront out (demo_summary seed rows) × KeepsDemo seed rows kept
DemoOutcome status.TheVariants.Memory seed rows out kept = Silent out kept
DemoOutcome answer seed rows out kept = ⊥

-- the log of a summary that is written
abbrev pub SummaryLog : status.Status → List ℕ → List Event → Type 0
SummaryLog status.TheVariants.Done text events = Writes place.TheVariants.Out text events
SummaryLog (status.TheVariants.WriteFault place.TheVariants.Out) text events =
    WritesFront place.TheVariants.Out text events
SummaryLog answer text events = ⊥

-- the log of a demo
abbrev pub DemoLog : status.Status → ℕ → ℕ → Option State → List Event → Type 0
DemoLog status.TheVariants.Done seed rows kept events =
    Writes place.TheVariants.Out (demo_summary seed rows) events × KeepsDemo seed rows kept
DemoLog (status.TheVariants.WriteFault place.TheVariants.Out) seed rows kept events =
    WritesFront place.TheVariants.Out (demo_summary seed rows) events × KeepsDemo seed rows kept
DemoLog status.TheVariants.Memory seed rows kept events = (events ≡ []) × (kept ≡ None)
DemoLog answer seed rows kept events = ⊥
