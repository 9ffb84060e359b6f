-- The events of writing all of a piece, and of reading a place to its end.
use Rattle.std.specs.Prelude.{◌≡◌, ℕ, ◌<◌, ◌≤◌, Bool, true, false, Result, Ok, Err, List, length, Vec, ⊤}
use Rattle.std.specs.List.{concat}
use Rattle.std.specs.declared.alloc.Global.{Global}
use Rattle.tool_io.specs.declared.host.Place.{Place}
use Rattle.tool_io.specs.declared.host.Put as put
use Rattle.tool_io.specs.declared.whole.WholeFault.{WholeFault}
use Rattle.tool_io.specs.declared.whole.WholeFault.TheVariants as fault
use Rattle.tool_io.specs.Log.{Event, Reads, meets_end, Writes, WritesFront}
use Rattle.tool_io.specs.Host.{NoFault, RoseAt}

-- a successful write takes the piece to its last byte
abbrev pub PutAllRange : put.Put → List ℕ → Type 0
PutAllRange (put.TheVariants.Wrote n) piece = n ≡ length piece
PutAllRange put.TheVariants.Failed piece = ⊤

-- all of the piece went out, or a prefix of it
abbrev pub PutAllLog : put.Put → Place → List ℕ → List Event → Type 0
PutAllLog (put.TheVariants.Wrote n) place piece events = Writes place piece events
PutAllLog put.TheVariants.Failed place piece events = WritesFront place piece events

-- the events are reads of these bytes; the last read met the end exactly if `ended` is true
pub record Draws (place : Place) (bytes : List ℕ) (ended : Bool) (events : List Event) : Type 0 where
  pub pieces : List (List ℕ)
  pub are : Reads place pieces events
  pub joined : bytes ≡ concat pieces
  pub end : meets_end false pieces ≡ ended

-- the events read the bytes up to the end; more than the limit, if too long; without the end within the limit, on other
-- faults
abbrev pub WholeLog : Result (Vec ℕ Global) WholeFault → Place → ℕ → List Event → Type 0
WholeLog (Ok whole) place limit events = Draws place whole.items true events × (length whole.items ≤ limit)
WholeLog (Err fault.TooLong) place limit events =
    (bytes : List ℕ) × Draws place bytes false events × (limit < length bytes)
WholeLog (Err fault.ReadFault) place limit events =
    (bytes : List ℕ) × Draws place bytes false events × (length bytes ≤ limit)
WholeLog (Err fault.Memory) place limit events =
    (bytes : List ℕ) × Draws place bytes false events × (length bytes ≤ limit)

-- a read that failed raised the count of its place, and nothing else changes a count
abbrev pub WholeCause : Result (Vec ℕ Global) WholeFault → (Place → ℕ) → (Place → ℕ) → Place → Type 0
WholeCause (Ok whole) before now place = NoFault before now
WholeCause (Err fault.TooLong) before now place = NoFault before now
WholeCause (Err fault.ReadFault) before now place = RoseAt before now place
WholeCause (Err fault.Memory) before now place = NoFault before now
