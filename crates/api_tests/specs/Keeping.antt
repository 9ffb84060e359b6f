-- A host in memory that keeps the bytes that are read of a program.

use Rattle.std.specs.Prelude.{◌≡◌, ℕ, Bool, IsTrue, List}
use Rattle.tool_io.specs.declared.host.Place.TheVariants.{Program}
use Rattle.tool_io.specs.Log.{Event, taken}
use Rattle.tool_io.specs.MemHost.{Held}

-- the host, the bytes that are kept, and true if none was left out
pub record Keeping : Type 0 where
  pub host : Held
  pub read : List ℕ
  pub whole : Bool

-- if no byte was left out, the kept bytes are the bytes that were read of the program by the log
abbrev pub KeepsProgram : List Event → List ℕ → Bool → Type 0
KeepsProgram events read whole = IsTrue whole → taken Program events ≡ read
