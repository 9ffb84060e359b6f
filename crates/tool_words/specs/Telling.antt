-- Output for the user of a program: help on the output, and its message on the error output.

use Rattle.std.specs.Prelude.{◌≡◌, ℕ, Bool, false, ◌||◌, List, [], ◌∷◌, ◌++◌, map}
use Rattle.tool_io.specs.declared.host.Place as place
use Rattle.tool_io.specs.Log.{Event, Attached, Missed, Took, Gave, same_place, given, Writes, WritesFront}
use Rattle.tool_io.specs.Host.{Rose}
use Rattle.tool_words.specs.declared.message.Tool.{Tool}
use Rattle.tool_words.specs.declared.status.Status as status
use Rattle.tool_words.specs.Messages.{usage, told_to_user}

-- help went out whole, or a prefix of it
abbrev pub HelpLog : Tool → status.Status → List Event → Type 0
HelpLog tool status.TheVariants.Helped events = Writes place.TheVariants.Out (usage tool) events
HelpLog tool (status.TheVariants.WriteFault place.TheVariants.Out) events =
    WritesFront place.TheVariants.Out (usage tool) events
HelpLog tool answer events = ⊥

-- the message is out whole if the count of Err didn't rise
abbrev pub ToldWhole : Tool → status.Status → ℕ → ℕ → List Event → Type 0
ToldWhole tool answer before now events =
    ¬ Rose before now → given place.TheVariants.Err events ≡ told_to_user tool answer

-- an event is at a place
abbrev pub is_used : place.Place → List Event → Bool
is_used p [] = false
is_used p (Attached q name ∷ events) = same_place p q || is_used p events
is_used p (Missed q name ∷ events) = same_place p q || is_used p events
is_used p (Took q piece ∷ events) = same_place p q || is_used p events
is_used p (Gave q piece ∷ events) = same_place p q || is_used p events

-- the message comes last: the events before it are at other places than Err, and no event comes after it
pub record MessageLast (events : List Event) : Type 0 where
  pub run : List Event
  pub pieces : List (List ℕ)
  pub split : events ≡ run ++ map (Gave place.TheVariants.Err) pieces
  pub unused : is_used place.TheVariants.Err run ≡ false
