-- The fields of a tape: a mark for each event, and the bytes of all events in one buffer.
use Rattle.std.specs.Prelude.{◌≡◌, ℕ, ◌+◌, ◌≤◌, List, [], ◌∷◌, length, take, drop, vec_capacity}
use Rattle.tool_io.specs.declared.host.Place.{Place}
use Rattle.tool_io.specs.declared.host.Place.TheVariants.{Out, Err}
use Rattle.tool_io.specs.declared.tape.Deed.{Deed}
use Rattle.tool_io.specs.declared.tape.Deed.TheVariants.{Attach, Miss, Take, Give}
use Rattle.tool_io.specs.declared.tape.Mark.{Mark}
use Rattle.tool_io.specs.declared.tape.Tape.TheInside.{Inside}
use Rattle.tool_io.specs.Log.{Event, Attached, Missed, Took, Gave, given}
use Rattle.tool_io.specs.Tape.{Taped}

-- the event of a deed
abbrev pub event_of : Deed → Place → List ℕ → Event
event_of Attach place bytes = Attached place bytes
event_of Miss place bytes = Missed place bytes
event_of Take place bytes = Took place bytes
event_of Give place bytes = Gave place bytes

-- the events of marks, whose bytes follow one another
abbrev pub events_of : List Mark → List ℕ → List Event
events_of [] bytes = []
events_of (mark ∷ marks) bytes =
    event_of mark.deed mark.place (take mark.len bytes) ∷ events_of marks (drop mark.len bytes)

-- the number of bytes of the marks
abbrev pub marked_bytes : List Mark → ℕ
marked_bytes [] = 0
marked_bytes (mark ∷ marks) = mark.len + marked_bytes marks

-- the log that a tape keeps
abbrev pub view_of : Inside → Taped
view_of tape =
    record {
      events = events_of tape.marks.items tape.bytes.items;
      most_events = tape.most_events;
      most_bytes = tape.most_bytes;
    }

-- the marks cover the buffer, the bytes of Out and Err are kept beside it, and none outgrows its room
pub record IsTape (tape : Inside) : Type 0 where
  pub covered : marked_bytes tape.marks.items ≡ length tape.bytes.items
  pub out : tape.out.items ≡ given Out (events_of tape.marks.items tape.bytes.items)
  pub err : tape.err.items ≡ given Err (events_of tape.marks.items tape.bytes.items)
  pub within : length tape.bytes.items ≤ tape.most_bytes
  pub marks_room : tape.most_events ≤ vec_capacity tape.marks
  pub bytes_room : tape.most_bytes ≤ vec_capacity tape.bytes
  pub out_room : tape.most_bytes ≤ vec_capacity tape.out
  pub err_room : tape.most_bytes ≤ vec_capacity tape.err
