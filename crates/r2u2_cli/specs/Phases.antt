-- The log of each phase of a run.

use Rattle.std.specs.Prelude.{◌≡◌, ℕ, ◌<◌, ◌≤◌, ◌⊎◌, Bool, true, false, if◌then◌else◌, Option, Some, None, Result, Ok}
use Rattle.std.specs.Prelude.{Err, List, [], ◌∷◌, ◌++◌, length}
use Rattle.std.specs.List.{concat}
use Rattle.mltl_base.specs.declared.limits.TheConstants.{MAX_LINE_BYTES}
use Rattle.mltl_base.specs.declared.program.Program.{Program}
use Rattle.tool_io.specs.declared.host.Place as place
use Rattle.tool_io.specs.Log.{Event, same_place, given, names_of, IsFront, Reads, meets_end, Prompt}
use Rattle.tool_io.specs.Cutting.{Cutting, HasNoNewline, IsRow, OnlyWhereNeeded, line_text, next_number}
use Rattle.c2po_ast.specs.ItemShape.{spec_shape}
use Rattle.obs_binary.specs.Faults.{opened}
use Rattle.c2po_compile.specs.Front.{items_in, first_refusal}
use Rattle.tool_words.specs.declared.file_kind.FileKind.{FileKind}
use Rattle.tool_words.specs.declared.file_kind.FileKind.TheVariants as kinds
use Rattle.tool_words.specs.R2u2Words.{RunAsked}
use Rattle.trace_columns.specs.Header.{begins_header}
use Rattle.r2u2_monitor.specs.declared.state.State.{State}
use Rattle.trace_feed.specs.declared.trace_why.TraceWhy.TheVariants.{LongLine}
use Rattle.r2u2_watch.specs.declared.status.Watched as watched
use Rattle.r2u2_watch.specs.Watch.{OnlyRun, IsWatch, first_of}
use Rattle.r2u2_cli.specs.declared.program_file.Opened.{Opened}
use Rattle.r2u2_cli.specs.declared.program_file.Opened.TheVariants as file
use Rattle.tool_words.specs.declared.status.Status as status
use Rattle.tool_words.specs.Attaching.{OpensAsTold, ReadsAttached}
use Rattle.tool_words.specs.Telling.{is_used}
use Rattle.r2u2_cli.specs.ProgramBy.{file_refusal, program_by, program_over}
use Rattle.r2u2_cli.specs.Outcome.{due_by, rows_by, Silent, LinesOutcome}
use Rattle.r2u2_cli.specs.Taken.{BegunFor, trace_of, trace_ended, lines_in, ReadsFirstLine}

-- the file was opened: as a specification with the items of the bytes, or as the program in the bytes
abbrev pub OpensFile : Opened → FileKind → List ℕ → Type 0
OpensFile (file.Spec spec) kind bytes =
    (kind ≡ kinds.Spec) × (first_refusal bytes ≡ None) × (spec_shape spec ≡ items_in bytes)
OpensFile (file.Program checked) kind bytes = (kind ≡ kinds.Program) × (opened bytes ≡ Ok checked)

-- the first line of the trace was read, and nothing was cut
pub record FirstRead (cut : Cutting) (events : List Event) : Type 0 where
  pub pieces : List (List ℕ)
  pub reads : Reads place.TheVariants.Trace pieces events
  pub needed : OnlyWhereNeeded [] pieces
  pub pending : cut.pending ≡ concat pieces
  pub ended : cut.ended ≡ meets_end false pieces

-- the first line comes before the bytes that a cut returns next, or the trace has no first line
abbrev pub StandsFirst : Option (List ℕ) → List ℕ → Bool → Type 0
StandsFirst None pending ended = (pending ≡ []) × (ended ≡ true)
StandsFirst (Some raw) pending ended =
    (rest : List ℕ) × (pending ≡ raw ++ rest) × (length raw ≤ MAX_LINE_BYTES) × IsRow raw rest ended

-- the cut returns the first line of the trace next
pub record IsFirst (cut : Cutting) : Type 0 where
  pub numbered : next_number cut ≡ 1
  pub low : cut.number ≤ 1
  pub stands : StandsFirst cut.row cut.pending cut.ended

-- the header: the first line, if it begins with `#`
abbrev pub header_of_row : Option (List ℕ) → Option (List ℕ)
header_of_row None = None
header_of_row (Some raw) = if begins_header (line_text raw) then Some (line_text raw) else None

-- the header in the row that a cut has
abbrev pub cut_header : Cutting → Option (List ℕ)
cut_header cut = header_of_row cut.row

-- the log of reading the first line, or the fault
abbrev pub FirstLog : Result Bool status.Status → Cutting → List Event → Type 0
FirstLog (Ok any) cut events = FirstRead cut events × IsFirst cut
FirstLog (Err (status.TheVariants.BadTrace number LongLine)) cut events =
    FirstRead cut events × (number ≡ 1) × HasNoNewline cut.pending × (length cut.pending ≡ MAX_LINE_BYTES)
FirstLog (Err (status.TheVariants.ReadFault place.TheVariants.Trace)) cut events =
    FirstRead cut events × HasNoNewline cut.pending × (length cut.pending < MAX_LINE_BYTES) × (cut.ended ≡ false)
FirstLog (Err answer) cut events = ⊥

-- the status of a run, by the ending of its loop
abbrev pub ending_status : watched.Watched → status.Status
ending_status watched.TheVariants.Done = status.TheVariants.Done
ending_status (watched.TheVariants.BadTrace number why) = status.TheVariants.BadTrace number why
ending_status watched.TheVariants.TooLong = status.TheVariants.TooLong
ending_status watched.TheVariants.ReadFault = status.TheVariants.ReadFault place.TheVariants.Trace
ending_status watched.TheVariants.WriteFault = status.TheVariants.WriteFault place.TheVariants.Out

-- the loop ran over the bytes that the cut had and the bytes that were read, with a monitor that is kept
pub record RanLoop (program : Program) (asked : RunAsked) (start : Cutting) (answer : status.Status)
    (kept : Option State) (events : List Event) : Type 0 where
  pub cut : Cutting
  pub monitor : State
  pub ended_so : watched.Watched
  pub is : answer ≡ ending_status ended_so
  pub watch : IsWatch program asked.style (rows_by asked program (first_of start)) start cut monitor ended_so events
  pub kept_is : kept ≡ Some monitor

-- out of memory, and nothing was done
pub record NoMemory (answer : status.Status) (kept : Option State) (events : List Event) : Type 0 where
  pub is : answer ≡ status.TheVariants.Memory
  pub no_monitor : kept ≡ None
  pub no_events : events ≡ []

-- the log of a loop over a trace, or of a run that was out of memory before it
abbrev pub LoopLog : Program → RunAsked → Cutting → status.Status → Option State → List Event → Type 0
LoopLog program asked start answer kept events =
    NoMemory answer kept events ⊎ RanLoop program asked start answer kept events

-- the header or a limit refused the program, or the run was out of memory
pub record NoProgram (asked : RunAsked) (bytes : List ℕ) (start : Cutting) (answer : status.Status)
    (kept : Option State) (events : List Event) : Type 0 where
  pub why : (answer ≡ status.TheVariants.Memory) ⊎ (program_by asked.kind bytes (cut_header start) ≡ Err answer)
  pub no_monitor : kept ≡ None
  pub no_events : events ≡ []

-- the header and the limits didn't refuse the program, and it ran
pub record HasProgram (asked : RunAsked) (bytes : List ℕ) (start : Cutting) (answer : status.Status)
    (kept : Option State) (events : List Event) : Type 0 where
  pub program : Program
  pub is : program_by asked.kind bytes (cut_header start) ≡ Ok program
  pub loop : LoopLog program asked start answer kept events

-- the log of a run whose first line was read
abbrev pub RanRows : RunAsked → List ℕ → Cutting → status.Status → Option State → List Event → Type 0
RanRows asked bytes start answer kept events =
    NoProgram asked bytes start answer kept events ⊎ HasProgram asked bytes start answer kept events

-- the log of a run over the lines of an attached trace
pub record RanLines (asked : RunAsked) (bytes : List ℕ) (answer : status.Status) (kept : Option State)
    (events : List Event) : Type 0 where
  pub only : OnlyRun events
  pub prompt : Prompt (due_by asked (program_over asked.kind bytes (lines_in events)) false) [] events
  pub outcome : LinesOutcome answer asked (program_over asked.kind bytes (lines_in events)) (trace_ended events)
      (trace_of events) (given place.TheVariants.Out events) kept
  pub begun : BegunFor answer (trace_ended events) (lines_in events)
  pub early : answer ≡ status.TheVariants.Memory → ReadsFirstLine events

-- the ending of a run over a trace that is to be attached
abbrev pub TraceOutcome : status.Status → RunAsked → List ℕ → List Event → Option State → Type 0
TraceOutcome (status.TheVariants.OpenFault place.TheVariants.Trace) asked bytes events kept =
    Silent (given place.TheVariants.Out events) kept
TraceOutcome answer asked bytes events kept =
    LinesOutcome answer asked (program_over asked.kind bytes (lines_in events)) (trace_ended events) (trace_of events)
    (given place.TheVariants.Out events) kept

-- the log of a run over a trace that is to be attached; nothing happens at other places
pub record RanTrace (asked : RunAsked) (bytes : List ℕ) (answer : status.Status) (kept : Option State)
    (events : List Event) : Type 0 where
  pub names : IsFront (names_of events) ((place.TheVariants.Trace, asked.trace) ∷ [])
  pub attached : ReadsAttached [] events
  pub only : (p : place.Place) → same_place p place.TheVariants.Trace ≡ false
      → same_place p place.TheVariants.Out ≡ false → is_used p events ≡ false
  pub prompt : Prompt (due_by asked (program_over asked.kind bytes (lines_in events)) false) [] events
  pub outcome : TraceOutcome answer asked bytes events kept
  pub opened : OpensAsTold answer events
  pub begun : BegunFor answer (trace_ended events) (lines_in events)
  pub early : answer ≡ status.TheVariants.Memory → ReadsFirstLine events

-- the file is refused by itself, or the run was out of memory
pub record NotOpened (asked : RunAsked) (bytes : List ℕ) (answer : status.Status) (kept : Option State)
    (events : List Event) : Type 0 where
  pub why : (answer ≡ status.TheVariants.Memory) ⊎ (file_refusal asked.kind bytes ≡ Some answer)
  pub no_monitor : kept ≡ None
  pub no_events : events ≡ []

-- the file isn't refused by itself, and the trace was run over
pub record IsOpened (asked : RunAsked) (bytes : List ℕ) (answer : status.Status) (kept : Option State)
    (events : List Event) : Type 0 where
  pub unrefused : file_refusal asked.kind bytes ≡ None
  pub ran : RanTrace asked bytes answer kept events

-- the log of a run after the reading of its file
abbrev pub RanFile : RunAsked → List ℕ → status.Status → Option State → List Event → Type 0
RanFile asked bytes answer kept events =
    NotOpened asked bytes answer kept events ⊎ IsOpened asked bytes answer kept events
