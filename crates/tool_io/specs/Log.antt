-- The log of a host's calls: a list of events, the oldest first, and what follows from it.
use Rattle.std.specs.Prelude.{◌≡◌, ◌≢◌, ℕ, Bool, true, false, if◌then◌else◌, Option, Some, None, List, [], ◌∷◌, ◌++◌}
use Rattle.std.specs.Prelude.{map, ⊤}
use Rattle.std.specs.List.{concat}
use Rattle.tool_io.specs.declared.host.Place.{Place}
use Rattle.tool_io.specs.declared.host.Place.TheVariants.{Spec, Header, Program, Trace, Out, Err}

-- One event, with its place: a name that was attached or couldn't be, bytes that a read took (none at the end),
-- bytes that a write gave.
pub data Event : Type 0 where
  Attached : Place → List ℕ → Event
  Missed : Place → List ℕ → Event
  Took : Place → List ℕ → Event
  Gave : Place → List ℕ → Event

-- true if the two places are equal
abbrev pub same_place : Place → Place → Bool
same_place Spec Spec = true
same_place Header Header = true
same_place Program Program = true
same_place Trace Trace = true
same_place Out Out = true
same_place Err Err = true
same_place p q = false

-- the bytes of a place's reads, joined
abbrev pub taken : Place → List Event → List ℕ
taken p [] = []
taken p (Took q bytes ∷ events) = if same_place p q then bytes ++ taken p events else taken p events
taken p (Attached q name ∷ events) = taken p events
taken p (Missed q name ∷ events) = taken p events
taken p (Gave q bytes ∷ events) = taken p events

-- the bytes of a place's writes, joined
abbrev pub given : Place → List Event → List ℕ
given p [] = []
given p (Gave q bytes ∷ events) = if same_place p q then bytes ++ given p events else given p events
given p (Attached q name ∷ events) = given p events
given p (Missed q name ∷ events) = given p events
given p (Took q bytes ∷ events) = given p events

-- true if the list is empty
abbrev pub is_empty : List ℕ → Bool
is_empty [] = true
is_empty (byte ∷ bytes) = false

-- true if the last read of a place met the end; without a read, `ended`
abbrev pub ended_from : Bool → Place → List Event → Bool
ended_from ended place [] = ended
ended_from ended place (Took q piece ∷ events) =
    ended_from (if same_place place q then is_empty piece else ended) place events
ended_from ended place (Gave q piece ∷ events) = ended_from ended place events
ended_from ended place (Attached q name ∷ events) = ended_from ended place events
ended_from ended place (Missed q name ∷ events) = ended_from ended place events

-- the places that were attached or missed, with the names
abbrev pub names_of : List Event → List (Place × List ℕ)
names_of [] = []
names_of (Attached p name ∷ events) = (p, name) ∷ names_of events
names_of (Missed p name ∷ events) = (p, name) ∷ names_of events
names_of (Took p bytes ∷ events) = names_of events
names_of (Gave p bytes ∷ events) = names_of events

-- the first list is a prefix of the second
pub record IsFront {X : Type 0} (front whole : List X) : Type 0 where
  pub rest : List X
  pub split : whole ≡ front ++ rest

-- the first list is a proper prefix of the second
pub record IsProperFront {X : Type 0} (front whole : List X) : Type 0 where
  pub rest : List X
  pub split : whole ≡ front ++ rest
  pub misses : rest ≢ []

-- if the host has a log, the log has grown by these events
abbrev pub Appends : Option (List Event) → Option (List Event) → List Event → Type 0
Appends None now events = ⊤
Appends (Some before) now events = now ≡ Some (before ++ events)

-- if the host has a log, P holds of the events that were appended since
pub record OnLog (before now : Option (List Event)) (P : List Event → Type 0) : Type 0 where
  pub events : List Event
  pub appended : Appends before now events
  pub holds : P events

-- the events are reads at this place, of these pieces
abbrev pub Reads : Place → List (List ℕ) → List Event → Type 0
Reads place pieces events = events ≡ map (Took place) pieces

-- true if the last of these reads met the end; without a read, `ended`
abbrev pub meets_end : Bool → List (List ℕ) → Bool
meets_end ended [] = ended
meets_end ended (piece ∷ pieces) = meets_end (is_empty piece) pieces

-- the events are writes at this place, of these bytes
pub record Writes (place : Place) (bytes : List ℕ) (events : List Event) : Type 0 where
  pub pieces : List (List ℕ)
  pub are : events ≡ map (Gave place) pieces
  pub joined : bytes ≡ concat pieces

-- the events are writes of a proper prefix of these bytes
pub record WritesFront (place : Place) (bytes : List ℕ) (events : List Event) : Type 0 where
  pub sent : List ℕ
  pub unsent : List ℕ
  pub split : bytes ≡ sent ++ unsent
  pub misses : unsent ≢ []
  pub writes : Writes place sent events

-- Before each read of the trace, the bytes given on Out are those that are due for the bytes taken until then. `bytes` were
-- taken before these events.
abbrev pub Prompt : (List ℕ → List ℕ) → List ℕ → List Event → Type 0
Prompt due_of bytes events =
    (before after : List Event) (piece : List ℕ) → events ≡ before ++ Took Trace piece ∷ after
    → given Out before ≡ due_of (bytes ++ taken Trace before)
