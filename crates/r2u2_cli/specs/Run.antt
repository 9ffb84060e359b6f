-- The log of a whole run of r2u2, from its arguments to its message.

use Rattle.std.specs.Prelude.{◌≡◌, ℕ, ◌<◌, ◌≤◌, ◌⊎◌, Bool, true, false, Option, None, Result}
use Rattle.std.specs.Prelude.{List, [], length, ⊤}
use Rattle.mltl_base.specs.declared.program.Program.{Program}
use Rattle.tool_io.specs.declared.host.Place as place
use Rattle.tool_io.specs.Log.{Event, taken, given, ended_from, names_of, IsFront, IsProperFront, Prompt}
use Rattle.tool_io.specs.Cutting.{lines_of}
use Rattle.tool_words.specs.R2u2Words.{R2u2Request, RunAsked, help, run, demo, nothing}
use Rattle.r2u2_monitor.specs.declared.state.State.{State}
use Rattle.r2u2_watch.specs.Trace.{Clean}
use Rattle.tool_words.specs.declared.message.Tool.TheVariants.{R2u2}
use Rattle.tool_words.specs.declared.status.Status as status
use Rattle.tool_words.specs.Messages.{usage, told_to_user}
use Rattle.tool_words.specs.Causes.{NoOtherRose}
use Rattle.tool_words.specs.Attaching.{OpensAsTold, ReadsAttached}
use Rattle.tool_words.specs.Files.{file_limit, file_place}
use Rattle.tool_words.specs.Telling.{is_used, ToldWhole, MessageLast}
use Rattle.r2u2_cli.specs.Asking.{asked_names}
use Rattle.r2u2_cli.specs.ProgramBy.{file_refusal, header_in, program_over}
use Rattle.r2u2_cli.specs.Demo.{DemoOutcome}
use Rattle.r2u2_cli.specs.Outcome.{due_by, Silent, StopsBy, LinesOutcome}
use Rattle.r2u2_cli.specs.Taken.{trace_of, trace_ended, lines_in, ReadsFirstLine, BegunFor}
use Rattle.r2u2_cli.specs.Formulas.{IsSettledBy}

-- the bytes of the file that were taken
abbrev pub file_in : RunAsked → List Event → List ℕ
file_in asked events = taken (file_place asked.kind) events

-- the end of the file was met
abbrev pub file_ended : RunAsked → List Event → Bool
file_ended asked events = ended_from false (file_place asked.kind) events

-- the program that runs over the trace
abbrev pub found_in : RunAsked → List Event → Result Program status.Status
found_in asked events = program_over asked.kind (file_in asked events) (lines_in events)

-- the file was read to its end, within its limit, and isn't refused by itself
pub record IsReadable (asked : RunAsked) (file : List ℕ) (ended : Bool) : Type 0 where
  pub whole : ended ≡ true
  pub within : length file ≤ file_limit asked.kind
  pub unrefused : file_refusal asked.kind file ≡ None

-- the trace, which comes second, is attached only after a file that is readable
abbrev pub TriesSecond : R2u2Request → List Event → Type 0
TriesSecond (run asked) events =
    1 < length (names_of events) → IsReadable asked (file_in asked events) (file_ended asked events)
TriesSecond other events = ⊤

-- before each read of the trace, the lines that are due for the bytes that were taken are out, and nothing else
abbrev pub IsPrompt : R2u2Request → List Event → Type 0
IsPrompt (run asked) events = Prompt (due_by asked (found_in asked events) false) [] events
IsPrompt other events = Prompt (λ bytes. []) [] events

-- the lines report the formulas of the file
abbrev pub TellsFormulas : R2u2Request → List Event → Type 0
TellsFormulas (run asked) events =
    IsSettledBy asked (file_in asked events) (header_in (lines_in events)) (found_in asked events) (trace_ended events)
    (trace_of events)
TellsFormulas other events = ⊤

-- the file was read to its end, and the result follows from the lines of the trace
pub record ByLines (answer : status.Status) (asked : RunAsked) (file : List ℕ) (file_end : Bool) (bytes : List ℕ)
    (ended : Bool) (out : List ℕ) (kept : Option State) : Type 0 where
  pub whole : file_end ≡ true
  pub within : length file ≤ file_limit asked.kind
  pub lines : LinesOutcome answer asked (program_over asked.kind file (lines_of ended bytes)) ended bytes out kept

-- each result of a run over a trace follows from the bytes that were read and written
abbrev pub FileOutcome : status.Status → RunAsked → List ℕ → Bool → List ℕ → Bool → List ℕ → Option State → Type 0
FileOutcome (status.TheVariants.OpenFault place.TheVariants.Trace) asked file file_end bytes ended out kept =
    IsReadable asked file file_end × Silent out kept
FileOutcome (status.TheVariants.OpenFault p) asked file file_end bytes ended out kept =
    (p ≡ file_place asked.kind) × (file ≡ []) × Silent out kept
FileOutcome (status.TheVariants.ReadFault place.TheVariants.Trace) asked file file_end bytes ended out kept =
    IsReadable asked file file_end × ByLines
    (status.TheVariants.ReadFault place.TheVariants.Trace) asked file file_end bytes ended out kept
FileOutcome (status.TheVariants.ReadFault p) asked file file_end bytes ended out kept =
    (p ≡ file_place asked.kind) × (file_end ≡ false) × (length file ≤ file_limit asked.kind) × Silent out kept
FileOutcome (status.TheVariants.TextTooLong p) asked file file_end bytes ended out kept =
    (p ≡ file_place asked.kind) × (file_limit asked.kind < length file) × Silent out kept
FileOutcome status.TheVariants.Memory asked file file_end bytes ended out kept =
    (length file ≤ file_limit asked.kind) × Silent out kept
FileOutcome answer asked file file_end bytes ended out kept = ByLines answer asked file file_end bytes ended out kept

-- the usage line is out whole, or a proper prefix of it
abbrev pub HelpOutcome : status.Status → List ℕ → Option State → Type 0
HelpOutcome status.TheVariants.Helped out kept = (out ≡ usage R2u2) × (kept ≡ None)
HelpOutcome (status.TheVariants.WriteFault place.TheVariants.Out) out kept =
    IsProperFront out (usage R2u2) × (kept ≡ None)
HelpOutcome status.TheVariants.Memory out kept = Silent out kept
HelpOutcome answer out kept = ⊥

-- nothing is out after invalid arguments, and no monitor is kept
abbrev pub NothingOutcome : status.Status → List ℕ → Option State → Type 0
NothingOutcome status.TheVariants.Usage out kept = Silent out kept
NothingOutcome status.TheVariants.Memory out kept = Silent out kept
NothingOutcome answer out kept = ⊥

-- each result follows from the arguments and from the log
abbrev pub OutcomeOf : status.Status → R2u2Request → List Event → Option State → Type 0
OutcomeOf answer help events kept = HelpOutcome answer (given place.TheVariants.Out events) kept
OutcomeOf answer nothing events kept = NothingOutcome answer (given place.TheVariants.Out events) kept
OutcomeOf answer (demo seed rows) events kept = DemoOutcome answer seed rows (given place.TheVariants.Out events) kept
OutcomeOf answer (run asked) events kept =
    FileOutcome answer asked (file_in asked events) (file_ended asked events) (trace_of events) (trace_ended events)
    (given place.TheVariants.Out events) kept

-- if the file isn't refused by itself, the limits of a program refuse it only after the trace has begun
abbrev pub RefusesAfter : R2u2Request → status.Status → List Event → Type 0
RefusesAfter (run asked) answer events =
    file_refusal asked.kind (file_in asked events) ≡ None → BegunFor answer (trace_ended events) (lines_in events)
RefusesAfter other answer events = ⊤

-- the log of a run before its message
pub record Ran (asked : R2u2Request) (answer : status.Status) (kept : Option State) (events : List Event) : Type 0 where
  pub names : IsFront (names_of events) (asked_names asked)
  pub second : TriesSecond asked events
  pub attached : ReadsAttached [] events
  pub prompt : IsPrompt asked events
  pub outcome : OutcomeOf answer asked events kept
  pub opened : OpensAsTold answer events
  pub begun : RefusesAfter asked answer events
  pub early : answer ≡ status.TheVariants.Memory → ReadsFirstLine events
  pub quiet : is_used place.TheVariants.Err events ≡ false

-- A run ends with Done, unless out of memory, if a file and a header have a program, and the trace has no faulty line and is
-- within the mission time. A demo ends with Done, and help is printed on request, unless out of memory.
abbrev pub CompletesBy : R2u2Request → status.Status → List Event → Type 0
CompletesBy (run asked) answer events =
    length (file_in asked events) ≤ file_limit asked.kind
    → StopsBy Clean asked (found_in asked events) (trace_ended events) (trace_of events)
    → (answer ≡ status.TheVariants.Done) ⊎ (answer ≡ status.TheVariants.Memory)
CompletesBy help answer events = (answer ≡ status.TheVariants.Helped) ⊎ (answer ≡ status.TheVariants.Memory)
CompletesBy (demo seed rows) answer events = (answer ≡ status.TheVariants.Done) ⊎ (answer ≡ status.TheVariants.Memory)
CompletesBy nothing answer events = ⊤

-- The log of a whole run: the message is out, or a prefix of it, and the run completes if no call failed but calls at Err.
pub record IsRun (asked : R2u2Request) (answer : status.Status) (kept : Option State) (before now : place.Place → ℕ)
    (events : List Event) : Type 0 where
  pub names : IsFront (names_of events) (asked_names asked)
  pub second : TriesSecond asked events
  pub attached : ReadsAttached [] events
  pub prompt : IsPrompt asked events
  pub settled : TellsFormulas asked events
  pub outcome : OutcomeOf answer asked events kept
  pub opened : OpensAsTold answer events
  pub begun : RefusesAfter asked answer events
  pub early : answer ≡ status.TheVariants.Memory → ReadsFirstLine events
  pub told_user : IsFront (given place.TheVariants.Err events) (told_to_user R2u2 answer)
  pub told_whole : ToldWhole R2u2 answer (before place.TheVariants.Err) (now place.TheVariants.Err) events
  pub told_last : MessageLast events
  pub complete : NoOtherRose before now → CompletesBy asked answer events
