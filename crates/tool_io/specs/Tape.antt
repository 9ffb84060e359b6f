-- A log with the room that was reserved for it.
use Rattle.std.specs.Prelude.{ℕ, ◌+◌, Bool, ◌&&◌, nat_lt, nat_le, List, [], ◌∷◌, ◌++◌, length}
use Rattle.tool_io.specs.Log.{Event, Attached, Missed, Took, Gave}

-- the events so far, and the most events and bytes in them that there is room for
pub record Taped : Type 0 where
  pub events : List Event
  pub most_events : ℕ
  pub most_bytes : ℕ

-- an empty log with this room
abbrev pub new_tape : ℕ → ℕ → Taped
new_tape events bytes = record { events = []; most_events = events; most_bytes = bytes }

-- the bytes of an event, or its name
abbrev pub event_bytes : Event → List ℕ
event_bytes (Attached place name) = name
event_bytes (Missed place name) = name
event_bytes (Took place bytes) = bytes
event_bytes (Gave place bytes) = bytes

-- the number of bytes in events
abbrev pub bytes_in : List Event → ℕ
bytes_in [] = 0
bytes_in (event ∷ events) = length (event_bytes event) + bytes_in events

-- true if one more event with this many bytes fits
abbrev pub has_room : Taped → ℕ → Bool
has_room tape count =
    nat_lt (length tape.events) tape.most_events && nat_le (bytes_in tape.events + count) tape.most_bytes

-- the log with one more event
abbrev pub with_event : Taped → Event → Taped
with_event tape event = record tape { events = tape.events ++ event ∷ [] }
