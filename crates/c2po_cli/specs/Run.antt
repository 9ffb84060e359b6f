-- The log of a whole run of c2po, from its arguments to its message.

use Rattle.std.specs.Prelude.{◌≡◌, ℕ, ◌<◌, ◌≤◌, ◌⊎◌, Bool, true, false, None, is_some, Result, Ok, Err, IfOk, List, []}
use Rattle.std.specs.Prelude.{◌∷◌, ◌++◌, length, ⊤}
use Rattle.std.specs.List.{list_any}
use Rattle.tool_io.specs.declared.host.Place as place
use Rattle.tool_io.specs.Log.{Event, Gave, same_place, taken, given, ended_from, names_of, IsFront, IsProperFront}
use Rattle.tool_io.specs.Cutting.{lines_of}
use Rattle.c2po_compile.specs.Front.{first_refusal}
use Rattle.tool_words.specs.declared.message.Tool.TheVariants.{C2po}
use Rattle.tool_words.specs.declared.status.Status as status
use Rattle.tool_words.specs.Messages.{usage, told_to_user}
use Rattle.tool_words.specs.Causes.{NoOtherRose}
use Rattle.tool_words.specs.Attaching.{is_attached, ReadsAttached, OpensAsTold}
use Rattle.tool_words.specs.Files.{file_place, file_limit}
use Rattle.tool_words.specs.FirstLine.{HasBegun}
use Rattle.tool_words.specs.Telling.{is_used, ToldWhole, MessageLast}
use Rattle.c2po_cli.specs.Asking.{Ask, help, make, nothing, MakeAsked, file_kind, asked_names}
use Rattle.c2po_cli.specs.Made.{made}
use Rattle.c2po_cli.specs.Images.{GivesFile}

-- The parts of a log of a run that makes a product: the places that were tried with their names, the bytes of the file and
-- whether its end was met, the lines of the header file that were read and whether its end was met, the bytes that are out,
-- and whether Out was attached.
pub record Seen : Type 0 where
  pub names : List (place.Place × List ℕ)
  pub file : List ℕ
  pub whole : Bool
  pub header : List (List ℕ)
  pub header_ended : Bool
  pub out : List ℕ
  pub attached : Bool

-- the place at which the file is read
abbrev pub input_place : MakeAsked → place.Place
input_place asked = file_place (file_kind asked.product)

-- the parts of the log of such a run
abbrev pub seen : MakeAsked → List Event → Seen
seen asked events = record {
  names = names_of events;
  file = taken (input_place asked) events;
  whole = ended_from false (input_place asked) events;
  header = lines_of (ended_from false place.TheVariants.Header events) (taken place.TheVariants.Header events);
  header_ended = ended_from false place.TheVariants.Header events;
  out = given place.TheVariants.Out events;
  attached = is_attached place.TheVariants.Out events;
}

-- the bytes of the file that were taken
abbrev pub file_in : MakeAsked → List Event → List ℕ
file_in asked events = taken (input_place asked) events

-- the bytes that are made of the bytes that were taken, with the header's lines
abbrev pub made_in : MakeAsked → List Event → Result (List ℕ) status.Status
made_in asked events = made asked (file_in asked events) (seen asked events).header

-- a place was tried
abbrev pub is_tried : place.Place → List (place.Place × List ℕ) → Bool
is_tried p names = list_any (λ named. same_place p named.0) names

-- the file was read to its end, within its limit
pub record IsReadWhole (asked : MakeAsked) (run : Seen) : Type 0 where
  pub ended : run.whole ≡ true
  pub within : length run.file ≤ file_limit (file_kind asked.product)

-- a specification was read to its end, within its limit, and has no fault
pub record HasFaultlessText (asked : MakeAsked) (run : Seen) : Type 0 where
  pub whole : IsReadWhole asked run
  pub faultless : first_refusal run.file ≡ None

-- these bytes, or this refusal, follow from the bytes that were read; the bytes of a compilation are the bytes of an image,
-- and the bytes of an upgrade are of version 2
pub record MakesFile (asked : MakeAsked) (run : Seen) (found : Result (List ℕ) status.Status) : Type 0 where
  pub whole : IsReadWhole asked run
  pub is : made asked run.file run.header ≡ found
  pub gives : IfOk found (GivesFile asked.product asked.header run.file run.header)

-- the result is of a run that has tried Out: all was written, or its open or a write failed
abbrev pub IsOfOut : status.Status → Type 0
IsOfOut status.TheVariants.Done = ⊤
IsOfOut (status.TheVariants.OpenFault place.TheVariants.Out) = ⊤
IsOfOut (status.TheVariants.WriteFault place.TheVariants.Out) = ⊤
IsOfOut answer = ⊥

-- the header is tried only after a specification without a fault, and Out only if the bytes exist, and then last
pub record TriesInTurn (asked : MakeAsked) (answer : status.Status) (run : Seen) : Type 0 where
  pub header : is_tried place.TheVariants.Header run.names ≡ true → HasFaultlessText asked run
  pub out : is_tried place.TheVariants.Out run.names ≡ true → (bytes : List ℕ) × MakesFile asked run (Ok bytes)
  pub out_last : is_tried place.TheVariants.Out run.names ≡ true → IsOfOut answer

-- all bytes are out, and Out was attached if and only if a file is named
pub record IsWritten (asked : MakeAsked) (run : Seen) : Type 0 where
  pub bytes : MakesFile asked run (Ok run.out)
  pub attached : run.attached ≡ is_some asked.out

-- a proper prefix of the bytes is out, and Out was attached if and only if a file is named
pub record IsPartlyWritten (asked : MakeAsked) (run : Seen) : Type 0 where
  pub whole : List ℕ
  pub bytes : MakesFile asked run (Ok whole)
  pub front : IsProperFront run.out whole
  pub attached : run.attached ≡ is_some asked.out

-- the bytes exist and a file is named for them, but none are out
pub record IsUnwritten (asked : MakeAsked) (run : Seen) : Type 0 where
  pub whole : List ℕ
  pub bytes : MakesFile asked run (Ok whole)
  pub named : is_some asked.out ≡ true
  pub none_out : run.out ≡ []

-- the arguments name a header, the specification has no fault, and nothing is out
pub record IsUnheaded (asked : MakeAsked) (run : Seen) : Type 0 where
  pub named : is_some asked.header ≡ true
  pub spec : HasFaultlessText asked run
  pub none_out : run.out ≡ []

-- the header couldn't be read on: its end wasn't met, and its first line isn't there
pub record IsHeaderUnread (asked : MakeAsked) (run : Seen) : Type 0 where
  pub unheaded : IsUnheaded asked run
  pub not_ended : run.header_ended ≡ false
  pub no_line : run.header ≡ []

-- the inputs are refused by this status, and nothing is out
pub record IsRefused (answer : status.Status) (asked : MakeAsked) (run : Seen) : Type 0 where
  pub refused : MakesFile asked run (Err answer)
  pub none_out : run.out ≡ []

-- the header was tried, and its first line is there, or its end was met
pub record IsHeaded (run : Seen) : Type 0 where
  pub tried : is_tried place.TheVariants.Header run.names ≡ true
  pub begun : HasBegun run.header_ended run.header

-- each result follows from the bytes that were read and the output
abbrev pub MakeOutcome : status.Status → MakeAsked → Seen → Type 0
MakeOutcome status.TheVariants.Done asked run = IsWritten asked run
MakeOutcome (status.TheVariants.WriteFault place.TheVariants.Out) asked run = IsPartlyWritten asked run
MakeOutcome (status.TheVariants.OpenFault place.TheVariants.Out) asked run = IsUnwritten asked run
MakeOutcome (status.TheVariants.OpenFault place.TheVariants.Header) asked run = IsUnheaded asked run
MakeOutcome (status.TheVariants.ReadFault place.TheVariants.Header) asked run = IsHeaderUnread asked run
MakeOutcome (status.TheVariants.TextTooLong place.TheVariants.Header) asked run =
    IsRefused (status.TheVariants.TextTooLong place.TheVariants.Header) asked run
MakeOutcome (status.TheVariants.TextTooLong place.TheVariants.Out) asked run =
    IsRefused (status.TheVariants.TextTooLong place.TheVariants.Out) asked run
MakeOutcome (status.TheVariants.OpenFault p) asked run = (p ≡ input_place asked) × (run.file ≡ []) × (run.out ≡ [])
MakeOutcome (status.TheVariants.ReadFault p) asked run =
    (p ≡ input_place asked) × (run.whole ≡ false)
    × (length run.file ≤ file_limit (file_kind asked.product)) × (run.out ≡ [])
MakeOutcome (status.TheVariants.TextTooLong p) asked run =
    (p ≡ input_place asked) × (file_limit (file_kind asked.product) < length run.file) × (run.out ≡ [])
MakeOutcome (status.TheVariants.Refused line why) asked run = IsRefused (status.TheVariants.Refused line why) asked run
MakeOutcome (status.TheVariants.BadProgram fault) asked run = IsRefused (status.TheVariants.BadProgram fault) asked run
MakeOutcome (status.TheVariants.BadHeader why) asked run =
    IsRefused (status.TheVariants.BadHeader why) asked run × IsHeaded run
MakeOutcome status.TheVariants.Memory asked run =
    (length run.file ≤ file_limit (file_kind asked.product)) × (run.out ≡ [])
    × (is_tried place.TheVariants.Out run.names ≡ false)
MakeOutcome answer asked run = ⊥

-- the usage line is out whole, or a proper prefix of it
abbrev pub HelpOutcome : status.Status → List ℕ → Type 0
HelpOutcome status.TheVariants.Helped out = out ≡ usage C2po
HelpOutcome (status.TheVariants.WriteFault place.TheVariants.Out) out = IsProperFront out (usage C2po)
HelpOutcome status.TheVariants.Memory out = out ≡ []
HelpOutcome answer out = ⊥

-- nothing is out after invalid arguments
abbrev pub NothingOutcome : status.Status → List ℕ → Type 0
NothingOutcome status.TheVariants.Usage out = out ≡ []
NothingOutcome status.TheVariants.Memory out = out ≡ []
NothingOutcome answer out = ⊥

-- each result follows from the arguments and from the log
abbrev pub OutcomeOf : status.Status → Ask → List Event → Type 0
OutcomeOf answer help events = HelpOutcome answer (given place.TheVariants.Out events)
OutcomeOf answer (make asked) events = MakeOutcome answer asked (seen asked events)
OutcomeOf answer nothing events = NothingOutcome answer (given place.TheVariants.Out events)

-- the output for a specification without `--table` is its image, in simplified form if the arguments request it; the output
-- for a program that is upgraded is the program in version 2
abbrev pub CompilesImage : Ask → status.Status → List Event → Type 0
CompilesImage (make asked) answer events =
    answer ≡ status.TheVariants.Done
    → GivesFile asked.product asked.header (file_in asked events) (seen asked events).header
    (given place.TheVariants.Out events)
CompilesImage other answer events = ⊤

-- the places of a product are tried in turn
abbrev pub TriesOf : Ask → status.Status → List Event → Type 0
TriesOf (make asked) answer events = TriesInTurn asked answer (seen asked events)
TriesOf other answer events = ⊤

-- the arguments name a file that is written
abbrev pub names_out : Ask → Bool
names_out (make asked) = is_some asked.out
names_out other = false

-- each write of an output that is to be attached comes after its attach
abbrev pub WritesAttached : Bool → List Event → Type 0
WritesAttached named events =
    named ≡ true → (before after : List Event) (piece : List ℕ)
    → events ≡ before ++ Gave place.TheVariants.Out piece ∷ after
    → is_attached place.TheVariants.Out before ≡ true

-- the log of a run before its message
pub record Ran (asked : Ask) (answer : status.Status) (events : List Event) : Type 0 where
  pub names : IsFront (names_of events) (asked_names asked)
  pub tries : TriesOf asked answer events
  pub reads : ReadsAttached [] events
  pub writes : WritesAttached (names_out asked) events
  pub outcome : OutcomeOf answer asked events
  pub opened : OpensAsTold answer events
  pub quiet : is_used place.TheVariants.Err events ≡ false

-- A run ends with Done, unless out of memory, if the file has no fault, and its header, if any, names its signals, within
-- the limits; help is printed on request.
abbrev pub CompletesBy : Ask → status.Status → List Event → Type 0
CompletesBy (make asked) answer events =
    (bytes : List ℕ) → length (file_in asked events) ≤ file_limit (file_kind asked.product)
    → made_in asked events ≡ Ok bytes
    → (answer ≡ status.TheVariants.Done) ⊎ (answer ≡ status.TheVariants.Memory)
CompletesBy help answer events = (answer ≡ status.TheVariants.Helped) ⊎ (answer ≡ status.TheVariants.Memory)
CompletesBy nothing answer events = ⊤

-- The log of a whole run: the message is out, or a prefix of it, and the run completes if no call failed but calls at Err.
pub record IsMade (asked : Ask) (answer : status.Status) (before now : place.Place → ℕ)
    (events : List Event) : Type 0 where
  pub names : IsFront (names_of events) (asked_names asked)
  pub tries : TriesOf asked answer events
  pub reads : ReadsAttached [] events
  pub writes : WritesAttached (names_out asked) events
  pub outcome : OutcomeOf answer asked events
  pub image : CompilesImage asked answer events
  pub opened : OpensAsTold answer events
  pub told_user : IsFront (given place.TheVariants.Err events) (told_to_user C2po answer)
  pub told_whole : ToldWhole C2po answer (before place.TheVariants.Err) (now place.TheVariants.Err) events
  pub told_last : MessageLast events
  pub complete : NoOtherRose before now → CompletesBy asked answer events
