-- A run over a trace that is attached first.

use Rattle.std.proofs.Common.{◌≡◌, ℕ, ◌⊎◌, true, false, ◌||◌, Option, None, List, [], ◌∷◌, ◌++◌, refl, sym, ◌∙◌, ap, subst, inl, inr}
use Rattle.std.proofs.lemmas.List.{append-nil}
use Rattle.tool_io.specs.declared.host.Place as place
use Rattle.tool_io.specs.declared.host.Place.TheVariants.{Trace, Out}
use Rattle.tool_io.specs.Log.{Event, Attached, Missed, Took, Gave, same_place, taken, given, names_of, IsFront}
use Rattle.tool_io.specs.Cutting.{HasNoNewline}
use Rattle.tool_io.proofs.Prompting.{PromptBy-from, Prompt-from_by}
use Rattle.tool_words.specs.R2u2Words.{RunAsked}
use Rattle.r2u2_monitor.specs.declared.state.State.{State}
use Rattle.r2u2_watch.specs.Watch.{OnlyRun}
use Rattle.tool_words.specs.declared.status.Status as status
use Rattle.tool_words.specs.Attaching.{OpensAsTold, ReadsAttached, is_attached}
use Rattle.tool_words.specs.Telling.{is_used}
use Rattle.tool_words.proofs.AttachLaws.{unattached_unread}
use Rattle.tool_words.proofs.FileLaws.{Visits, visit_missed, visit_none}
use Rattle.r2u2_cli.specs.ProgramBy.{program_over}
use Rattle.r2u2_cli.specs.Outcome.{due_by, LinesOutcome}
use Rattle.r2u2_cli.specs.Taken.{trace_of, trace_ended, lines_in, ReadsFirstLine}
use Rattle.r2u2_cli.specs.Phases.{RanLines, TraceOutcome, RanTrace}

-- reads of the trace and writes of verdicts try no place, and are at no other
run_names : (events : List Event) → OnlyRun events → names_of events ≡ []
run_names [] only = refl
run_names (Took Trace piece ∷ events) only = run_names events only
run_names (Gave Out piece ∷ events) only = run_names events only
run_names (event ∷ events) only = absurd only

run_unused : (p : place.Place) → same_place p Trace ≡ false → same_place p Out ≡ false → (events : List Event) → OnlyRun events → is_used p events ≡ false
run_unused p trace out [] only = refl
run_unused p trace out (Took Trace piece ∷ events) only = ap (λ v. v || is_used p events) trace ∙ run_unused p trace out events only
run_unused p trace out (Gave Out piece ∷ events) only = ap (λ v. v || is_used p events) out ∙ run_unused p trace out events only
run_unused p trace out (event ∷ events) only = absurd only

run_reads : (before after : List Event) (p : place.Place) (piece : List ℕ) → OnlyRun (before ++ Took p piece ∷ after) → p ≡ Trace
run_reads [] after Trace piece only = refl
run_reads [] after p piece only = absurd only
run_reads (Took Trace first ∷ before) after p piece only = run_reads before after p piece only
run_reads (Gave Out first ∷ before) after p piece only = run_reads before after p piece only
run_reads (event ∷ before) after p piece only = absurd only

-- each read is of the trace, which was attached
attached_first : (trace : List ℕ) (events : List Event) → OnlyRun events → ReadsAttached [] (Attached Trace trace ∷ events)
attached_first trace events only [] after p piece is = cc
attached_first trace events only (event ∷ before) after p piece is =
    let first : Attached Trace trace ≡ event = cc in
    let rest : events ≡ before ++ Took p piece ∷ after = cc in
    let same : p ≡ Trace = run_reads before after p piece (subst OnlyRun rest only) in
    subst (λ e. is_attached p (e ∷ before) ≡ true) first (subst (λ q. is_attached q (Attached Trace trace ∷ before) ≡ true) (sym same) refl)

early_first : (trace : List ℕ) (events : List Event) → ReadsFirstLine events → ReadsFirstLine (Attached Trace trace ∷ events)
early_first trace events early [] after piece is = cc
early_first trace events early (event ∷ before) after piece is =
    let first : Attached Trace trace ≡ event = cc in
    let rest : events ≡ before ++ Took Trace piece ∷ after = cc in
    subst (λ e. HasNoNewline (taken Trace (e ∷ before))) first (early before after piece rest)

-- an outcome of lines is one of the trace, and was opened
trace_outcome : (answer : status.Status) (asked : RunAsked) (bytes : List ℕ) (events : List Event) (kept : Option State) → LinesOutcome answer asked (program_over asked.kind bytes (lines_in events)) (trace_ended events) (trace_of events) (given Out events) kept → TraceOutcome answer asked bytes events kept
trace_outcome (status.TheVariants.OpenFault p) asked bytes events kept is = absurd is
trace_outcome answer asked bytes events kept is = is

opens_first : (answer : status.Status) (asked : RunAsked) (bytes : List ℕ) (log : List Event) (kept : Option State) (trace : List ℕ) (events : List Event) → LinesOutcome answer asked (program_over asked.kind bytes (lines_in log)) (trace_ended log) (trace_of log) (given Out log) kept → OpensAsTold answer (Attached Trace trace ∷ events)
opens_first (status.TheVariants.OpenFault p) asked bytes log kept trace events is = absurd is
opens_first (status.TheVariants.ReadFault Trace) asked bytes log kept trace events is = refl
opens_first (status.TheVariants.ReadFault p) asked bytes log kept trace events is = absurd is
opens_first answer asked bytes log kept trace events is = tt

-- the trace was attached, and its lines were run over
pub trace_ran : (asked : RunAsked) (bytes : List ℕ) (answer : status.Status) (kept : Option State) (events log : List Event) → events ≡ Attached Trace asked.trace ∷ log → RanLines asked bytes answer kept log → RanTrace asked bytes answer kept events
trace_ran asked bytes answer kept events log is ran =
    let due_of = due_by asked (program_over asked.kind bytes (lines_in log)) false in
    subst (RanTrace asked bytes answer kept) (sym is) (record {
      names = record { rest = []; split = ap (λ names. (Trace, asked.trace) ∷ names) (sym (append-nil (names_of log) ∙ run_names log ran.only)) };
      attached = attached_first asked.trace log ran.only;
      only = λ p trace out. ap (λ v. v || is_used p log) trace ∙ run_unused p trace out log ran.only;
      prompt = Prompt-from_by due_of [] (Attached Trace asked.trace ∷ log) (PromptBy-from due_of [] log ran.prompt);
      outcome = trace_outcome answer asked bytes (Attached Trace asked.trace ∷ log) kept ran.outcome;
      opened = opens_first answer asked bytes log kept asked.trace log ran.outcome;
      begun = ran.begun;
      early = λ memory. early_first asked.trace log (ran.early memory);
    })

-- the trace couldn't be attached
trace_not : (asked : RunAsked) (bytes : List ℕ) (tried : List (place.Place × List ℕ)) (events : List Event) → Visits Trace tried [] false false events → IsFront tried ((Trace, asked.trace) ∷ []) → given Out events ≡ [] → RanTrace asked bytes (status.TheVariants.OpenFault Trace) None events
trace_not asked bytes tried events visit front silent =
    let unread = unattached_unread Trace events visit.reads visit.attached in
    record {
      names = record { rest = front.rest; split = front.split ∙ ap (λ ns. ns ++ front.rest) (sym visit.names_are) };
      attached = visit.reads;
      only = λ p trace out. visit.only p trace;
      prompt = λ before after piece is. absurd (unread before after piece is);
      outcome = record { no_lines = silent; no_monitor = refl };
      opened = visit.attached;
      begun = tt;
      early = λ memory. cc;
    }

pub trace_missed : (asked : RunAsked) (bytes : List ℕ) (events : List Event) → (events ≡ Missed Trace asked.trace ∷ []) ⊎ (events ≡ []) → RanTrace asked bytes (status.TheVariants.OpenFault Trace) None events
trace_missed asked bytes events (inl is) = trace_not asked bytes ((Trace, asked.trace) ∷ []) events (visit_missed Trace asked.trace events is) (record { rest = []; split = refl }) (ap (given Out) is)
trace_missed asked bytes events (inr is) = trace_not asked bytes [] events (visit_none Trace events is) (record { rest = (Trace, asked.trace) ∷ []; split = refl }) (ap (given Out) is)
