-- The log that a tape keeps, as its marks and its buffer grow.
use Rattle.std.proofs.Common.{◌≡◌, ℕ, ◌+◌, ◌<◌, ◌≤◌, ◌&&◌, true, false, List, [], ◌∷◌, ◌++◌, length, take, drop, refl, sym, ap, arith, if◌then◌else◌, length-append, length-drop}
use Rattle.std.proofs.lemmas.List.{length-take, take_all, take-append-le, drop-append-le, nil_from_length}
use Rattle.std.proofs.lemmas.Bool.Decides.{nat_tests}
use Rattle.std.specs.Prelude.{IsTrue, nat_lt, nat_le}
use Rattle.tool_io.specs.declared.host.Place.{Place}
use Rattle.tool_io.specs.declared.tape.Deed.{Deed}
use Rattle.tool_io.specs.declared.tape.Deed.TheVariants.{Attach}
use Rattle.tool_io.specs.declared.tape.Mark.{Mark}
use Rattle.tool_io.specs.Log.{Event, Attached, Missed, Took, Gave, given, same_place}
use Rattle.tool_io.specs.declared.tape.Tape.TheInside.{Inside}
use Rattle.tool_io.specs.Tape.{Taped, event_bytes, bytes_in, has_room}
use Rattle.tool_io.specs.TapeInside.{event_of, events_of, marked_bytes, view_of, IsTape}

pub length-events_of : (marks : List Mark) (bytes : List ℕ) → length (events_of marks bytes) ≡ length marks
length-events_of [] bytes = refl
length-events_of (mark ∷ marks) bytes = omega (arith, length-events_of marks (drop mark.len bytes))

event_bytes-event_of : (deed : Deed) (place : Place) (bytes : List ℕ) → event_bytes (event_of deed place bytes) ≡ bytes
event_bytes-event_of Attach place bytes = refl
event_bytes-event_of _ place bytes = refl

-- the buffer holds the bytes of the log and no others
pub bytes_in-events_of : (marks : List Mark) (bytes : List ℕ) → marked_bytes marks ≡ length bytes → bytes_in (events_of marks bytes) ≡ length bytes
bytes_in-events_of [] bytes covered = covered
bytes_in-events_of (mark ∷ marks) bytes covered =
    let rest : marked_bytes marks ≡ length (drop mark.len bytes) = rw length-drop (omega arith) in
    rw (event_bytes-event_of mark.deed mark.place (take mark.len bytes), bytes_in-events_of marks (drop mark.len bytes) rest, length-take, length-drop) (omega arith)

-- a mark and its bytes at the end are one event at the end
pub events_of-append : (marks : List Mark) (bytes : List ℕ) (mark : Mark) (piece : List ℕ) → marked_bytes marks ≡ length bytes → mark.len ≡ length piece
    → events_of (marks ++ mark ∷ []) (bytes ++ piece) ≡ events_of marks bytes ++ event_of mark.deed mark.place piece ∷ []
events_of-append [] bytes mark piece covered whole =
    let none : bytes ≡ [] = nil_from_length bytes (sym covered) in
    let all : take mark.len piece ≡ piece = take_all mark.len piece (omega arith) in
    rw (none, all)
events_of-append (first ∷ marks) bytes mark piece covered whole =
    let rest : marked_bytes marks ≡ length (drop first.len bytes) = rw length-drop (omega arith) in
    let fits : first.len ≤ length bytes = omega arith in
    rw (take-append-le, drop-append-le, events_of-append marks (drop first.len bytes) mark piece rest whole)

pub bytes_of-append : (marks : List Mark) (mark : Mark) → marked_bytes (marks ++ mark ∷ []) ≡ marked_bytes marks + mark.len
bytes_of-append [] mark = omega arith
bytes_of-append (first ∷ marks) mark = omega (arith, bytes_of-append marks mark)

-- a place was given no more bytes than the log has
pub length-given : (place : Place) (events : List Event) → length (given place events) ≤ bytes_in events
length-given place [] = omega arith
length-given place (Attached q bytes ∷ events) = omega (arith, length-given place events)
length-given place (Missed q bytes ∷ events) = omega (arith, length-given place events)
length-given place (Took q bytes ∷ events) = omega (arith, length-given place events)
length-given place (Gave q bytes ∷ events) = elim (same_place place q) as (λ same. length (if same then bytes ++ given place events else given place events) ≤ length bytes + bytes_in events) [
  | true ↦ omega (arith, length-append bytes (given place events), length-given place events)
  | false ↦ omega (arith, length-given place events)
]

-- a place is given no more bytes by a deed than the deed's
pub length-given-event : (place : Place) (deed : Deed) (at : Place) (piece : List ℕ) → length (given place (event_of deed at piece ∷ [])) ≤ length piece
length-given-event place deed at piece =
    omega (arith, length-given place (event_of deed at piece ∷ []), ap length (event_bytes-event_of deed at piece))

-- what a test of room tells of the marks and of the buffer
pub record Room (tape : Inside) (count : ℕ) : Type 0 where
  pub marks : length tape.marks.items < tape.most_events
  pub bytes : length tape.bytes.items + count ≤ tape.most_bytes

both : (a b c d : ℕ) → IsTrue (nat_lt a b && nat_le c d) → (a < b) × (c ≤ d)
both a b c d holds = grind (arith, nat_tests)

pub room_of : (tape : Inside) (value : Taped) (count : ℕ) → view_of tape ≡ value → IsTape tape → IsTrue (has_room value count) → Room tape count
room_of tape value count seen is room =
    let inside = rw (← seen) at room in
    let test = rw (length-events_of, bytes_in-events_of _ _ is.covered) at inside in
    let parts = both _ _ _ _ test in
    record { marks = parts.0; bytes = parts.1 }
