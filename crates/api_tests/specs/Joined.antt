-- The endings and the logs of two runs: c2po compiled a text, and r2u2 ran its output over a trace.

use Rattle.std.specs.Prelude.{◌≡◌, ◌≢◌, ℕ, false, Option, List, Result, Ok, ⊤}
use Rattle.std.specs.declared.alloc.AllocError.{AllocError}
use Rattle.tool_io.specs.declared.host.Place.{Place}
use Rattle.tool_io.specs.declared.host.Place.TheVariants as at
use Rattle.tool_io.specs.Log.{Event, taken, given}
use Rattle.tool_io.specs.MemHost.{Held, faults_of}
use Rattle.tool_words.specs.declared.file_kind.FileKind.TheVariants as file
use Rattle.tool_words.specs.declared.status.Status.{Status}
use Rattle.tool_words.specs.declared.status.Status.TheVariants.{Done}
use Rattle.tool_words.specs.Causes.{CauseAt}
use Rattle.tool_words.specs.C2poWords.{CompileAsked, compile}
use Rattle.tool_words.specs.C2poWords as compiling
use Rattle.tool_words.specs.R2u2Words.{RunAsked, run}
use Rattle.tool_words.specs.R2u2Words as watching
use Rattle.r2u2_monitor.specs.declared.state.State.{State}
use Rattle.c2po_cli.specs.Asking.{ask}
use Rattle.c2po_cli.specs.Images.{asked_header}
use Rattle.c2po_cli.specs.Run.{IsMade}
use Rattle.r2u2_cli.specs.Run.{IsRun}
use Rattle.mltl_tools.specs.Sentence.{ReportsText, lines_at}
use Rattle.api_tests.specs.declared.joined.Ended.{Ended}
use Rattle.api_tests.specs.declared.joined.Ended.TheVariants.{Unmade, Apart, Together}

-- the status of c2po: its own if the runs ended with it, and else success
abbrev pub made_as : Result Ended AllocError → Status
made_as (Ok (Unmade status)) = status
made_as result = Done

-- P holds of the status of c2po, if r2u2 didn't run
abbrev pub IfUnmade : Result Ended AllocError → (Status → Type 0) → Type 0
IfUnmade (Ok (Unmade status)) P = P status
IfUnmade result P = ⊤

-- P holds of the status of r2u2, if it ran
abbrev pub IfWatched : Result Ended AllocError → (Status → Type 0) → Type 0
IfWatched (Ok (Apart status)) P = P status
IfWatched (Ok (Together status)) P = P status
IfWatched result P = ⊤

-- P holds, if it isn't known that r2u2 read the output of c2po
abbrev pub IfApart : Result Ended AllocError → Type 0 → Type 0
IfApart (Ok (Apart status)) P = P
IfApart result P = ⊤

-- P holds of the status of r2u2, if it read the output of c2po
abbrev pub IfTogether : Result Ended AllocError → (Status → Type 0) → Type 0
IfTogether (Ok (Together status)) P = P status
IfTogether result P = ⊤

-- r2u2 ran, unless out of memory
abbrev pub IsWatched : Result Ended AllocError → Type 0
IsWatched (Ok (Unmade status)) = ⊥
IsWatched result = ⊤

-- the contract of c2po_main for a run over a new host that ended with this status
pub record HasMade (words : List (List ℕ)) (status : Status) (before now : Held) : Type 0 where
  pub cause : (p : Place) → p ≢ at.Err → CauseAt status p (faults_of before p) (faults_of now p)
  pub made : IsMade (ask words) status (faults_of before) (faults_of now) now.tape.events

-- the contract of r2u2_main for a run over a new host that ended with this status
pub record HasRun (words : List (List ℕ)) (status : Status) (before now : Held) : Type 0 where
  pub kept : Option State
  pub cause : (p : Place) → p ≢ at.Err → CauseAt status p (faults_of before p) (faults_of now p)
  pub ran : IsRun (watching.ask words) status kept (faults_of before) (faults_of now) now.tape.events

-- one command line requests the program of a specification, and the other requests a run over a program file
pub record Requests (making running : List (List ℕ)) : Type 0 where
  pub compiled : CompileAsked
  pub asks : compiling.ask making ≡ compile compiled
  pub no_table : compiled.table ≡ false
  pub ran : RunAsked
  pub asks_run : watching.ask running ≡ run ran
  pub of_program : ran.kind ≡ file.Program

-- the output of r2u2 reports the text that c2po read, under the header that the command line names, if it names one
abbrev pub ReportsRequested : {making running : List (List ℕ)} → Requests making running → List Event → List Event
    → Type 0
ReportsRequested asked made ran =
    ReportsText (taken at.Spec made) (asked_header asked.compiled.header (lines_at at.Header made)) asked.ran
    (given at.Out made) ran
