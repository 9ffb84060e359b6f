-- The log of each phase of a run.

use Rattle.std.specs.Prelude.{◌≡◌, ℕ, ◌⊎◌, Bool, true, false, Option, Some, None, is_some, Result, Ok, Err, IfOk, List}
use Rattle.std.specs.Prelude.{[], ◌∷◌, Vec, ⊤}
use Rattle.std.specs.declared.alloc.Global.{Global}
use Rattle.tool_io.specs.declared.host.Place as place
use Rattle.tool_io.specs.Log.{Event, Attached, Missed, same_place, given, names_of, IsFront, IsProperFront, Writes}
use Rattle.tool_io.specs.Log.{WritesFront}
use Rattle.tool_io.specs.Whole.{Draws}
use Rattle.tool_io.specs.Cutting.{lines_of}
use Rattle.c2po_compile.specs.Front.{first_refusal}
use Rattle.tool_words.specs.declared.status.Status as status
use Rattle.tool_words.specs.Attaching.{is_attached, ReadsAttached, OpensAsTold}
use Rattle.tool_words.specs.FirstLine.{HasBegun}
use Rattle.tool_words.specs.Telling.{is_used}
use Rattle.c2po_cli.specs.declared.make.Form.{Form}
use Rattle.c2po_cli.specs.declared.make.Product.{Product}
use Rattle.c2po_cli.specs.declared.make.Product.TheVariants.{Compiled, Upgrade, Show}
use Rattle.c2po_cli.specs.Asking.{MakeAsked, read_names, place_named}
use Rattle.c2po_cli.specs.Images.{WritesImage}
use Rattle.c2po_cli.specs.Made.{made_bytes, first_line, made_of_text, opened_as, text_within}
use Rattle.c2po_cli.specs.Upgrading.{IsUpgraded}
use Rattle.obs_binary.specs.Faults.{opened}
use Rattle.c2po_cli.specs.Run.{seen, is_tried, HasFaultlessText, MakesFile, MakeOutcome, WritesAttached}

-- the status refuses a file, a header, a program past a limit, or a text that is to be written, or is out of memory
abbrev pub IsRefusal : status.Status → Type 0
IsRefusal (status.TheVariants.Refused line refusal) = ⊤
IsRefusal (status.TheVariants.BadProgram fault) = ⊤
IsRefusal (status.TheVariants.BadHeader why) = ⊤
IsRefusal (status.TheVariants.TextTooLong place.TheVariants.Out) = ⊤
IsRefusal status.TheVariants.Memory = ⊤
IsRefusal answer = ⊥

-- the status is a refusal, and isn't by a header
abbrev pub RefusesAlone : status.Status → Type 0
RefusesAlone (status.TheVariants.BadHeader why) = ⊥
RefusesAlone answer = IsRefusal answer

-- reads of an attached header file returned its first line, or reached its end before one, or the line has no end
pub record ReadsLine (form : Form) (text : List ℕ) (found : Result (List ℕ) status.Status)
    (log : List Event) : Type 0 where
  pub bytes : List ℕ
  pub ended : Bool
  pub takes : Draws place.TheVariants.Header bytes ended log
  pub begun : HasBegun ended (lines_of ended bytes)
  pub makes : (name : List ℕ) → made_of_text form (Some name) text (lines_of ended bytes) ≡ found
  pub image : IfOk found (WritesImage form text (Some (first_line (lines_of ended bytes))))

-- the header file was read, and no bytes were made of it
pub record ReadsNone (log : List Event) : Type 0 where
  pub bytes : List ℕ
  pub ended : Bool
  pub takes : Draws place.TheVariants.Header bytes ended log

-- reads met no end, and returned no line yet
pub record ReadsNoLine (log : List Event) : Type 0 where
  pub bytes : List ℕ
  pub takes : Draws place.TheVariants.Header bytes false log
  pub no_line : lines_of false bytes ≡ []

-- the log of reading the first line of an attached header file, after a text that isn't refused
abbrev pub LineLog : Result (Vec ℕ Global) status.Status → Form → List ℕ → List Event → Type 0
LineLog (Ok bytes) form text log = ReadsLine form text (Ok bytes.items) log
LineLog (Err (status.TheVariants.ReadFault place.TheVariants.Header)) form text log = ReadsNoLine log
LineLog (Err status.TheVariants.Memory) form text log = ReadsNone log
LineLog (Err (status.TheVariants.TextTooLong place.TheVariants.Header)) form text log =
    ReadsLine form text (Err (status.TheVariants.TextTooLong place.TheVariants.Header)) log
LineLog (Err answer) form text log = IsRefusal answer × ReadsLine form text (Err answer) log

-- the log of attaching the header file and reading its first line
abbrev pub HeaderLog : Result (Vec ℕ Global) status.Status → Form → List ℕ → List ℕ → List Event → Type 0
HeaderLog (Err (status.TheVariants.OpenFault place.TheVariants.Header)) form name text events =
    (events ≡ Missed place.TheVariants.Header name ∷ []) ⊎ (events ≡ [])
HeaderLog result form name text events =
    (log : List Event) × (events ≡ Attached place.TheVariants.Header name ∷ log) × LineLog result form text log

-- nothing was called, and the inputs are refused by this status
abbrev pub RefusedLog : Result (Vec ℕ Global) status.Status → Result (List ℕ) status.Status → List Event → Type 0
RefusedLog (Ok bytes) found events = ⊥
RefusedLog (Err status.TheVariants.Memory) found events = events ≡ []
RefusedLog (Err answer) found events = (events ≡ []) × RefusesAlone answer × (found ≡ Err answer)

-- nothing was called, and these bytes were made of the inputs
abbrev pub MadeLog : Result (Vec ℕ Global) status.Status → Result (List ℕ) status.Status → List Event → Type 0
MadeLog (Ok bytes) found events = (events ≡ []) × (found ≡ Ok bytes.items)
MadeLog result found events = RefusedLog result found events

-- the log after a specification without a fault
abbrev pub SpecLog : Result (Vec ℕ Global) status.Status → Form → Option (List ℕ) → List ℕ → List Event → Type 0
SpecLog result form None text events =
    MadeLog result (made_of_text form None text []) events
    × IfOk result (λ bytes. WritesImage form text None bytes.items)
SpecLog result form (Some name) text events = HeaderLog result form name text events

-- the log after the text of a specification: the text is refused, or it has no fault
abbrev pub TextLog : Result (Vec ℕ Global) status.Status → Form → Option (List ℕ) → List ℕ → List Event → Type 0
TextLog result form header text events =
    RefusedLog result (made_of_text form header text []) events
    ⊎ ((first_refusal text ≡ None) × SpecLog result form header text events)

-- the log after the bytes of a file
abbrev pub FileMadeLog : Product → Result (Vec ℕ Global) status.Status → Option (List ℕ) → List ℕ → List Event → Type 0
FileMadeLog (Compiled form) result header file events = TextLog result form header file events
FileMadeLog Upgrade result header file events =
    MadeLog result (opened_as made_bytes (opened file)) events × IfOk result (λ bytes. IsUpgraded file bytes.items)
FileMadeLog Show result header file events = MadeLog result (opened_as text_within (opened file)) events

-- the log after the bytes of the file that the arguments name
abbrev pub AfterLog : Result (Vec ℕ Global) status.Status → MakeAsked → List ℕ → List Event → Type 0
AfterLog result asked file events = FileMadeLog asked.product result asked.header file events

-- all inputs were read, and these bytes were made of them
pub record Gathered (asked : MakeAsked) (bytes : List ℕ) (events : List Event) : Type 0 where
  pub names : names_of events ≡ read_names asked
  pub reads : ReadsAttached [] events
  pub unwritten : is_used place.TheVariants.Out events ≡ false
  pub quiet : is_used place.TheVariants.Err events ≡ false
  pub makes : MakesFile asked (seen asked events) (Ok bytes)
  pub tries : is_tried place.TheVariants.Header (names_of events) ≡ true → HasFaultlessText asked (seen asked events)

-- a call failed, or an input was refused
pub record NotGathered (asked : MakeAsked) (answer : status.Status) (events : List Event) : Type 0 where
  pub names : IsFront (names_of events) (read_names asked)
  pub reads : ReadsAttached [] events
  pub unwritten : is_used place.TheVariants.Out events ≡ false
  pub quiet : is_used place.TheVariants.Err events ≡ false
  pub outcome : MakeOutcome answer asked (seen asked events)
  pub tries : is_tried place.TheVariants.Header (names_of events) ≡ true → HasFaultlessText asked (seen asked events)
  pub opened : OpensAsTold answer events

-- the log up to the bytes that are to be written, or to the failure or refusal
abbrev pub GatherLog : Result (Vec ℕ Global) status.Status → MakeAsked → List Event → Type 0
GatherLog (Ok bytes) asked events = Gathered asked bytes.items events
GatherLog (Err answer) asked events = NotGathered asked answer events

-- the bytes went out, or a prefix of them
abbrev pub GivenLog : status.Status → List ℕ → List Event → Type 0
GivenLog status.TheVariants.Done bytes events = Writes place.TheVariants.Out bytes events
GivenLog (status.TheVariants.WriteFault place.TheVariants.Out) bytes events =
    WritesFront place.TheVariants.Out bytes events
GivenLog answer bytes events = ⊥

-- the output of bytes that are written, into a file if one is named
abbrev pub PutOutcome : status.Status → Option (List ℕ) → List ℕ → List ℕ → Bool → Type 0
PutOutcome status.TheVariants.Done out bytes sent attached = (sent ≡ bytes) × (attached ≡ is_some out)
PutOutcome (status.TheVariants.WriteFault place.TheVariants.Out) out bytes sent attached =
    IsProperFront sent bytes × (attached ≡ is_some out)
PutOutcome (status.TheVariants.OpenFault place.TheVariants.Out) out bytes sent attached =
    (is_some out ≡ true) × (sent ≡ []) × (attached ≡ false)
PutOutcome answer out bytes sent attached = ⊥

-- the log of writing bytes, into a file if one is named
pub record PutLog (answer : status.Status) (out : Option (List ℕ)) (bytes : List ℕ) (events : List Event) : Type 0 where
  pub names : IsFront (names_of events) (place_named place.TheVariants.Out out)
  pub reads : ReadsAttached [] events
  pub only : (p : place.Place) → same_place p place.TheVariants.Out ≡ false → is_used p events ≡ false
  pub writes : WritesAttached (is_some out) events
  pub outcome : PutOutcome answer out bytes (given place.TheVariants.Out events)
      (is_attached place.TheVariants.Out events)
