-- The places that a log attached.

use Rattle.std.specs.Prelude.{◌≡◌, ℕ, Bool, true, false, ◌||◌, List, [], ◌∷◌, ◌++◌, ⊤}
use Rattle.tool_io.specs.declared.host.Place as place
use Rattle.tool_io.specs.Log.{Event, Attached, Took, same_place}
use Rattle.tool_words.specs.declared.status.Status as status

-- a place was attached
abbrev pub is_attached : place.Place → List Event → Bool
is_attached p [] = false
is_attached p (Attached q name ∷ events) = same_place p q || is_attached p events
is_attached p (event ∷ events) = is_attached p events

-- each read is of a place that was attached before it; `first` is the events before these events
abbrev pub ReadsAttached : List Event → List Event → Type 0
ReadsAttached first events =
    (before after : List Event) (p : place.Place) (piece : List ℕ) → events ≡ before ++ Took p piece ∷ after
    → is_attached p (first ++ before) ≡ true

-- a place that couldn't be opened wasn't attached, and a place that couldn't be read was attached
abbrev pub OpensAsTold : status.Status → List Event → Type 0
OpensAsTold (status.TheVariants.OpenFault p) events = is_attached p events ≡ false
OpensAsTold (status.TheVariants.ReadFault p) events = is_attached p events ≡ true
OpensAsTold answer events = ⊤
