-- The bytes that a run has taken of its trace, and the events that wait for its first line.

use Rattle.std.specs.Prelude.{◌≡◌, ℕ, Bool, false, List, ◌∷◌, ◌++◌, ⊤}
use Rattle.tool_io.specs.declared.host.Place.TheVariants.{Trace}
use Rattle.tool_io.specs.Log.{Event, Took, taken, ended_from}
use Rattle.tool_io.specs.Cutting.{HasNoNewline, lines_of}
use Rattle.tool_words.specs.declared.status.Status.{Status}
use Rattle.tool_words.specs.declared.status.Status.TheVariants.{Refused}
use Rattle.tool_words.specs.FirstLine.{HasBegun}

-- the bytes of the trace that were taken
abbrev pub trace_of : List Event → List ℕ
trace_of events = taken Trace events

-- the end of the trace was met
abbrev pub trace_ended : List Event → Bool
trace_ended events = ended_from false Trace events

-- the lines that were taken of the trace
abbrev pub lines_in : List Event → List (List ℕ)
lines_in events = lines_of (trace_ended events) (trace_of events)

-- before each read of the trace no newline was taken
abbrev pub ReadsFirstLine : List Event → Type 0
ReadsFirstLine events =
    (before after : List Event) (piece : List ℕ) → events ≡ before ++ Took Trace piece ∷ after
    → HasNoNewline (taken Trace before)

-- the limits of a program refuse it only after the trace has begun
abbrev pub BegunFor : Status → Bool → List (List ℕ) → Type 0
BegunFor (Refused line why) ended lines = HasBegun ended lines
BegunFor answer ended lines = ⊤
