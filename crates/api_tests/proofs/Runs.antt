-- What the logs of new hosts say of the runs over them.

use Rattle.std.proofs.Common.{◌≡◌, ◌≢◌, ℕ, Option, Some, List, [], ◌++◌, Result, Ok, Err, refl, sym, ◌∙◌, ap, subst}
use Rattle.std.specs.declared.alloc.AllocError.{AllocError}
use Rattle.tool_io.specs.declared.host.Place.{Place}
use Rattle.tool_io.specs.declared.host.Place.TheVariants as at
use Rattle.tool_io.specs.Log.{Event, Appends, OnLog, taken, given}
use Rattle.tool_io.specs.MemHost.{Held, faults_of}
use Rattle.tool_words.specs.declared.status.Status.{Status}
use Rattle.tool_words.specs.declared.status.Status.TheVariants.{Done}
use Rattle.tool_words.specs.Causes.{CauseAt}
use Rattle.tool_words.specs.R2u2Words as watching
use Rattle.r2u2_monitor.specs.declared.state.State.{State}
use Rattle.c2po_cli.specs.Asking.{ask}
use Rattle.c2po_cli.specs.Images.{asked_header}
use Rattle.c2po_cli.specs.Run.{IsMade}
use Rattle.r2u2_cli.specs.Run.{IsRun}
use Rattle.mltl_tools.specs.Sentence.{HasCompiled, HasWatched, lines_at}
use Rattle.api_tests.specs.declared.joined.Ended.{Ended}
use Rattle.api_tests.specs.declared.joined.Ended.TheVariants.{Unmade, Apart, Together}
use Rattle.api_tests.specs.Joined.{HasMade, HasRun, IfTogether, IfWatched, Requests}

-- the log of a new host is what was appended
log_is : (before now events : List Event) → before ≡ [] → Appends (Some before) (Some now) events → now ≡ events
log_is before now events none is =
    let same : now ≡ before ++ events = cc in
    same ∙ ap (λ b. b ++ events) none

pub made_is : (words : List (List ℕ)) (status : Status) (before now : Held) → before.tape.events ≡ []
    → ((p : Place) → p ≢ at.Err → CauseAt status p (faults_of before p) (faults_of now p))
    → OnLog (Some before.tape.events) (Some now.tape.events) (IsMade (ask words) status (faults_of before) (faults_of now)) → HasMade words status before now
made_is words status before now none cause log = record {
  cause = cause;
  made = subst (λ events. IsMade (ask words) status (faults_of before) (faults_of now) events) (sym (log_is before.tape.events now.tape.events log.events none log.appended)) log.holds;
}

pub ran_is : (words : List (List ℕ)) (status : Status) (kept : Option State) (before now : Held) → before.tape.events ≡ []
    → ((p : Place) → p ≢ at.Err → CauseAt status p (faults_of before p) (faults_of now p))
    → OnLog (Some before.tape.events) (Some now.tape.events) (IsRun (watching.ask words) status kept (faults_of before) (faults_of now)) → HasRun words status before now
ran_is words status kept before now none cause log = record {
  kept = kept;
  cause = cause;
  ran = subst (λ events. IsRun (watching.ask words) status kept (faults_of before) (faults_of now) events) (sym (log_is before.tape.events now.tape.events log.events none log.appended)) log.holds;
}

-- of a host only its counts of faults matter before the run
pub ran_from : (words : List (List ℕ)) (status : Status) (start before now : Held) → before.faults ≡ start.faults → HasRun words status before now → HasRun words status start now
ran_from words status start before now same has =
    let counts : faults_of before ≡ faults_of start = cc in
    record {
      kept = has.kept;
      cause = subst (λ (counts : Place → ℕ). (p : Place) → p ≢ at.Err → CauseAt status p (counts p) (faults_of now p)) counts has.cause;
      ran = subst (λ (counts : Place → ℕ). IsRun (watching.ask words) status has.kept counts (faults_of now) now.tape.events) counts has.ran;
    }

-- the runs that were requested, with success, have the logs of which the law speaks
pub compiled_is : (making running : List (List ℕ)) (asked : Requests making running) (before now : Held) → HasMade making Done before now
    → HasCompiled making (taken at.Spec now.tape.events) (asked_header asked.compiled.header (lines_at at.Header now.tape.events)) (given at.Out now.tape.events) now.tape.events
compiled_is making running asked before now has = record {
  asked = asked.compiled;
  before = faults_of before;
  now = faults_of now;
  asks = asked.asks;
  no_table = asked.no_table;
  made = has.made;
  read = refl;
  under = refl;
  wrote = refl;
}

pub watched_is : (making running : List (List ℕ)) (asked : Requests making running) (bytes : List ℕ) (before now : Held) → HasRun running Done before now
    → taken at.Program now.tape.events ≡ bytes → HasWatched running asked.ran bytes now.tape.events
watched_is making running asked bytes before now has read = record {
  kept = has.kept;
  before = faults_of before;
  now = faults_of now;
  asks = asked.asks_run;
  compiled = asked.of_program;
  ran = has.ran;
  read = read;
}

-- where r2u2 read what c2po wrote, what follows of its run holds
pub where_together : (result : Result Ended AllocError) (P Q R : Status → Type 0) → ((status : Status) → P status → Q status → R status)
    → IfWatched result P → IfTogether result Q → IfTogether result R
where_together (Ok (Unmade status)) P Q R follows ran read = tt
where_together (Ok (Apart status)) P Q R follows ran read = tt
where_together (Ok (Together status)) P Q R follows ran read = follows status ran read
where_together (Err error) P Q R follows ran read = tt
