-- The log of reading a whole file.

use Rattle.std.specs.Prelude.{◌≡◌, ℕ, ◌<◌, ◌≤◌, ◌⊎◌, true, false, Result, Ok, Err, List, [], ◌∷◌, length, Vec}
use Rattle.std.specs.declared.alloc.Global.{Global}
use Rattle.tool_io.specs.declared.host.Place as place
use Rattle.tool_io.specs.declared.whole.WholeFault.{WholeFault}
use Rattle.tool_io.specs.declared.whole.WholeFault.TheVariants as fault
use Rattle.tool_io.specs.Log.{Event, Attached, Missed}
use Rattle.tool_io.specs.Whole.{Draws}
use Rattle.tool_words.specs.declared.status.Status as status

-- The result is the bytes of a file, or the fault, after this log: the file was read at this place under this name, up to
-- this limit.
abbrev pub FileLog : Result (Vec ℕ Global) status.Status → place.Place → ℕ → List ℕ → List Event → Type 0
FileLog (Ok bytes) p limit name events =
    (log : List Event) × (events ≡ Attached p name ∷ log) × Draws p bytes.items true log × (length bytes.items ≤ limit)
FileLog (Err (status.TheVariants.OpenFault q)) p limit name events =
    (q ≡ p) × ((events ≡ Missed p name ∷ []) ⊎ (events ≡ []))
FileLog (Err (status.TheVariants.ReadFault q)) p limit name events =
    (q ≡ p) × (log : List Event) × (bytes : List ℕ) × (events ≡ Attached p name ∷ log) × Draws p bytes false log
    × (length bytes ≤ limit)
FileLog (Err (status.TheVariants.TextTooLong q)) p limit name events =
    (q ≡ p) × (log : List Event) × (bytes : List ℕ) × (events ≡ Attached p name ∷ log) × Draws p bytes false log
    × (limit < length bytes)
FileLog (Err status.TheVariants.Memory) p limit name events =
    (log : List Event) × (bytes : List ℕ) × (events ≡ Attached p name ∷ log) × Draws p bytes false log
    × (length bytes ≤ limit)
FileLog (Err answer) p limit name events = ⊥

-- the status of a run whose file wasn't read whole
abbrev pub unread : place.Place → WholeFault → status.Status
unread p fault.TooLong = status.TheVariants.TextTooLong p
unread p fault.ReadFault = status.TheVariants.ReadFault p
unread p fault.Memory = status.TheVariants.Memory
