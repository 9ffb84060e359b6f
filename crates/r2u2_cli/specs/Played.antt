-- A monitor of the demo's text after some rows.

use Rattle.std.specs.Prelude.{◌≡◌, ℕ, None, Ok, List}
use Rattle.r2u2_monitor.specs.declared.state.State.{State}
use Rattle.r2u2_monitor.specs.Monitoring.{IsDrained, Stands, program_of, taken_by}
use Rattle.c2po_compile.specs.Compiled.{compile_text}
use Rattle.r2u2_cli.specs.declared.demo.tally.Tally.{Tally}
use Rattle.r2u2_cli.specs.Summary.{demo_rows}
use Rattle.r2u2_cli.specs.Tallies.{AreCounted}
use Rattle.r2u2_cli.specs.Text.{demo_text}

-- the monitor has taken this many rows of the demo, and all its reports were returned and are counted
pub record Played (tallies : List Tally) (monitor : State) (seed rows : ℕ) : Type 0 where
  pub program : compile_text demo_text None ≡ Ok (program_of monitor)
  pub taken : taken_by monitor ≡ rows
  pub stands : Stands monitor (demo_rows seed rows)
  pub drained : IsDrained monitor
  pub counted : AreCounted tallies monitor (demo_rows seed rows)
