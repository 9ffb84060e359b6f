-- A run of a file: its bytes, and then its trace.

use Rattle.std.proofs.Common.{◌≡◌, ℕ, ◌≤◌, ◌⊎◌, Bool, true, false, ◌||◌, Option, Some, None, Ok, Err, List, [], ◌∷◌, ◌++◌, length, Vec, refl, sym, ◌∙◌, ap, subst, arith, append_assoc, inl, inr}
use Rattle.std.specs.declared.alloc.Global.{Global}
use Rattle.std.proofs.lemmas.List.{append-nil}
use Rattle.tool_io.specs.declared.host.Place as place
use Rattle.tool_io.specs.declared.host.Place.TheVariants.{Trace, Out}
use Rattle.tool_io.specs.declared.host.Place.TheVariants as at
use Rattle.tool_io.specs.Log.{Event, Missed, Took, taken, given, ended_from, names_of, IsFront}
use Rattle.tool_io.specs.Cutting.{HasNoNewline}
use Rattle.tool_io.proofs.LogLaws.{taken-append, given-append, ended_from-append, names_of-append}
use Rattle.tool_words.specs.declared.file_kind.FileKind.{FileKind}
use Rattle.tool_words.specs.declared.file_kind.FileKind.TheVariants.{Spec, Program}
use Rattle.tool_words.specs.R2u2Words.{RunAsked, run}
use Rattle.r2u2_monitor.specs.declared.state.State.{State}
use Rattle.tool_words.specs.declared.status.Status as status
use Rattle.tool_words.specs.Attaching.{OpensAsTold, is_attached}
use Rattle.tool_words.specs.Files.{file_limit, file_place}
use Rattle.tool_words.specs.FileReading.{FileLog}
use Rattle.tool_words.proofs.AttachLaws.{ReadsAttached-append, is_attached-append, or_true, split_at, unattached_unread}
use Rattle.tool_words.proofs.FileLaws.{elsewhere, Visits, visit_missed, visit_none, visit_read}
use Rattle.tool_words.proofs.UseLaws.{Unused, unused, unused-append}
use Rattle.tool_words.specs.FirstLine.{begins_long}
use Rattle.c2po_compile.specs.Refusals.{unless_refused}
use Rattle.r2u2_cli.specs.Asking.{asked_names}
use Rattle.r2u2_cli.specs.ProgramBy.{file_refusal, unless_long, header_in, program_by, program_over}
use Rattle.r2u2_cli.specs.Outcome.{due_by, Silent}
use Rattle.r2u2_cli.specs.Taken.{trace_of, trace_ended, lines_in}
use Rattle.r2u2_cli.specs.Run.{IsReadable, FileOutcome, RefusesAfter, Ran}
use Rattle.r2u2_cli.specs.Phases.{IsOpened, RanFile, TraceOutcome}
use Rattle.r2u2_cli.proofs.Refusing.{Refuses, file_refuses}

silent : Silent [] None
silent = record { no_lines = refl; no_monitor = refl }

-- how the results at the place of a file follow
pub record AtFile (asked : RunAsked) (p : place.Place) : Type 0 where
  pub shut : FileOutcome (status.TheVariants.OpenFault p) asked [] false [] false [] None
  pub read : (bytes : List ℕ) → length bytes ≤ file_limit asked.kind → FileOutcome (status.TheVariants.ReadFault p) asked bytes false [] false [] None

at_file : (kind : FileKind) (asked : RunAsked) → asked.kind ≡ kind → AtFile asked (file_place kind)
at_file Spec asked is = record { shut = (ap file_place (sym is), refl, silent); read = λ bytes fits. (ap file_place (sym is), refl, fits, silent) }
at_file Program asked is = record { shut = (ap file_place (sym is), refl, silent); read = λ bytes fits. (ap file_place (sym is), refl, fits, silent) }

-- the file was tried, and nothing more
module _ (asked : RunAsked) (answer : status.Status) (events : List Event) where
  abbrev q : place.Place
  q = file_place asked.kind

  run_tried : (tried : List (place.Place × List ℕ)) (bytes : List ℕ) (ended opened : Bool) → Visits q tried bytes ended opened events → IsFront tried (asked_names (run asked)) → length tried ≤ 1 → FileOutcome answer asked bytes ended [] false [] None
      → (is_attached q events ≡ opened → OpensAsTold answer events) → RefusesAfter (run asked) answer events → Ran (run asked) answer None events
  run_tried tried bytes ended opened visit front few outcome opens begun =
      let trace = unused Trace events (visit.only Trace (elsewhere asked.kind).trace) in
      let out = unused Out events (visit.only Out (elsewhere asked.kind).out) in
      let unread = unattached_unread Trace events visit.reads trace.attached in
      record {
        names = record { rest = front.rest; split = front.split ∙ ap (λ names. names ++ front.rest) (sym visit.names_are) };
        second = λ two. absurd (let same = ap length visit.names_are in omega (arith, two, few, same));
        attached = visit.reads;
        prompt = λ before after piece is. absurd (unread before after piece is);
        outcome = rw (visit.takes, visit.end, trace.bytes, trace.ends, out.out) outcome;
        opened = opens visit.attached;
        begun = begun;
        early = λ memory before after piece is. absurd (unread before after piece is);
        quiet = visit.only at.Err (elsewhere asked.kind).err;
      }

  -- it was attached and read
  run_read : (bytes : List ℕ) (ended : Bool) → Visits q ((q, asked.file) ∷ []) bytes ended true events → FileOutcome answer asked bytes ended [] false [] None → (is_attached q events ≡ true → OpensAsTold answer events) → RefusesAfter (run asked) answer events → Ran (run asked) answer None events
  run_read bytes ended visit outcome opens begun = run_tried ((q, asked.file) ∷ []) bytes ended true visit (record { rest = (Trace, asked.trace) ∷ []; split = refl }) (omega arith) outcome opens begun

-- it couldn't be attached
missed : (asked : RunAsked) (events : List Event) → (events ≡ Missed (file_place asked.kind) asked.file ∷ []) ⊎ (events ≡ []) → Ran (run asked) (status.TheVariants.OpenFault (file_place asked.kind)) None events
missed asked events (inl is) =
    run_tried asked (status.TheVariants.OpenFault (file_place asked.kind)) events ((file_place asked.kind, asked.file) ∷ []) [] false false (visit_missed (file_place asked.kind) asked.file events is)
    (record { rest = (Trace, asked.trace) ∷ []; split = refl }) (omega arith) (at_file asked.kind asked refl).shut (λ un. un) (λ unrefused. tt)
missed asked events (inr is) =
    run_tried asked (status.TheVariants.OpenFault (file_place asked.kind)) events [] [] false false (visit_none (file_place asked.kind) events is)
    (record { rest = asked_names (run asked); split = refl }) (omega arith) (at_file asked.kind asked refl).shut (λ un. un) (λ unrefused. tt)

-- or read whole
pub run_unread : (asked : RunAsked) (answer : status.Status) (events : List Event) → FileLog (Err answer) (file_place asked.kind) (file_limit asked.kind) asked.file events → Ran (run asked) answer None events
run_unread asked (status.TheVariants.OpenFault p) events is = subst (λ q. Ran (run asked) (status.TheVariants.OpenFault q) None events) (sym is.0) (missed asked events is.1)
run_unread asked (status.TheVariants.ReadFault p) events is =
    subst (λ q. Ran (run asked) (status.TheVariants.ReadFault q) None events) (sym is.0)
    (run_read asked (status.TheVariants.ReadFault (file_place asked.kind)) events is.2 false (visit_read (file_place asked.kind) asked.file is.2 false is.1 events is.3 is.4) ((at_file asked.kind asked refl).read is.2 is.5) (λ opened. opened) (λ unrefused. tt))
run_unread asked (status.TheVariants.TextTooLong p) events is =
    run_read asked (status.TheVariants.TextTooLong p) events is.2 false (visit_read (file_place asked.kind) asked.file is.2 false is.1 events is.3 is.4) (is.0, is.5, silent) (λ opened. tt) (λ unrefused. tt)
run_unread asked status.TheVariants.Memory events is =
    run_read asked status.TheVariants.Memory events is.1 false (visit_read (file_place asked.kind) asked.file is.1 false is.0 events is.2 is.3) (is.4, silent) (λ opened. tt) (λ unrefused. tt)
run_unread asked answer events is = absurd is

-- how the outcome over a trace is one of the run
file_outcome : (answer : status.Status) (asked : RunAsked) (bytes : List ℕ) (events : List Event) (kept : Option State) → IsReadable asked bytes true → TraceOutcome answer asked bytes events kept → FileOutcome answer asked bytes true (trace_of events) (trace_ended events) (given Out events) kept
file_outcome (status.TheVariants.OpenFault Trace) asked bytes events kept readable is = (readable, is)
file_outcome (status.TheVariants.OpenFault p) asked bytes events kept readable is = absurd is
file_outcome (status.TheVariants.ReadFault Trace) asked bytes events kept readable is = (readable, record { whole = refl; within = readable.within; lines = is })
file_outcome (status.TheVariants.ReadFault p) asked bytes events kept readable is = absurd is
file_outcome (status.TheVariants.TextTooLong p) asked bytes events kept readable is = absurd is
file_outcome status.TheVariants.Memory asked bytes events kept readable is = (readable.within, is)
file_outcome answer asked bytes events kept readable is = record { whole = refl; within = readable.within; lines = is }

-- what was opened before the trace, and by it
run_opened : (answer : status.Status) (asked : RunAsked) (bytes : List ℕ) (kept : Option State) (first second : List Event) → is_attached Trace first ≡ false → TraceOutcome answer asked bytes second kept → OpensAsTold answer second → OpensAsTold answer (first ++ second)
run_opened (status.TheVariants.OpenFault Trace) asked bytes kept first second unopened is opened = is_attached-append Trace first second ∙ ap (λ v. v || is_attached Trace second) unopened ∙ opened
run_opened (status.TheVariants.OpenFault p) asked bytes kept first second unopened is opened = absurd is
run_opened (status.TheVariants.ReadFault Trace) asked bytes kept first second unopened is opened = is_attached-append Trace first second ∙ ap (λ v. is_attached Trace first || v) opened ∙ or_true (is_attached Trace first)
run_opened (status.TheVariants.ReadFault p) asked bytes kept first second unopened is opened = absurd is
run_opened answer asked bytes kept first second unopened is opened = tt

-- the file is readable, and the trace was run over
module _ (asked : RunAsked) (bytes : List ℕ) (answer : status.Status) (kept : Option State) (first second : List Event) (file : Visits (file_place asked.kind) ((file_place asked.kind, asked.file) ∷ []) bytes true true first) (within : length bytes ≤ file_limit asked.kind) (is : IsOpened asked bytes answer kept second) where
  abbrev p : place.Place
  p = file_place asked.kind

  abbrev all : List Event
  all = first ++ second

  no_trace : Unused Trace first
  no_trace = unused Trace first (file.only Trace (elsewhere asked.kind).trace)

  no_out : Unused Out first
  no_out = unused Out first (file.only Out (elsewhere asked.kind).out)

  no_file : Unused p second
  no_file = unused p second (is.ran.only p (elsewhere asked.kind).not_trace (elsewhere asked.kind).not_out)

  all_file : taken p all ≡ bytes
  all_file = taken-append p first second ∙ ap (λ b. b ++ taken p second) file.takes ∙ ap (λ b. bytes ++ b) no_file.bytes ∙ append-nil bytes

  all_file_end : ended_from false p all ≡ true
  all_file_end = ended_from-append false p first second ∙ no_file.ends (ended_from false p first) ∙ file.end

  all_trace : trace_of all ≡ trace_of second
  all_trace = taken-append Trace first second ∙ ap (λ b. b ++ taken Trace second) no_trace.bytes

  all_ended : trace_ended all ≡ trace_ended second
  all_ended = ended_from-append false Trace first second ∙ ap (λ v. ended_from v Trace second) (no_trace.ends false)

  all_out : given Out all ≡ given Out second
  all_out = given-append Out first second ∙ ap (λ b. b ++ given Out second) no_out.out

  readable : IsReadable asked bytes true
  readable = record { whole = refl; within = within; unrefused = is.unrefused }

  abbrev due_of : List ℕ → List ℕ
  due_of = due_by asked (program_over asked.kind bytes (lines_in second)) false

  -- the trace is read in the second part alone
  later : (before after : List Event) (piece : List ℕ) → all ≡ before ++ Took Trace piece ∷ after → (rest : List Event) × (second ≡ rest ++ Took Trace piece ∷ after) × (taken Trace before ≡ taken Trace rest) × (given Out before ≡ given Out rest)
  later before after piece at_it =
      elim (split_at first second before after (Took Trace piece) at_it) [
        | inl found ↦ absurd (unattached_unread Trace first file.reads no_trace.attached before found.0 piece found.1)
        | inr found ↦ (
          found.0,
          found.2,
          ap (taken Trace) found.1 ∙ taken-append Trace first found.0 ∙ ap (λ b. b ++ taken Trace found.0) no_trace.bytes,
          ap (given Out) found.1 ∙ given-append Out first found.0 ∙ ap (λ b. b ++ given Out found.0) no_out.out,
        )
      ]

  pub run_opened_file : Ran (run asked) answer kept all
  run_opened_file = record {
    names = record { rest = is.ran.names.rest; split = ap (λ names. (p, asked.file) ∷ names) is.ran.names.split ∙ ap (λ names. names ++ (names_of second ++ is.ran.names.rest)) (sym file.names_are) ∙ sym (append_assoc (names_of first) (names_of second) is.ran.names.rest) ∙ ap (λ names. names ++ is.ran.names.rest) (sym (names_of-append first second)) };
    second = λ two. rw (all_file, all_file_end) readable;
    attached = ReadsAttached-append first second file.reads is.ran.attached;
    prompt = rw (all_file, all_trace, all_ended) (λ before after piece at_it. let found = later before after piece at_it in found.3 ∙ is.ran.prompt found.0 after piece found.1 ∙ ap due_of (sym found.2));
    outcome = rw (all_file, all_file_end, all_trace, all_ended, all_out) (file_outcome answer asked bytes second kept readable is.ran.outcome);
    opened = run_opened answer asked bytes kept first second no_trace.attached is.ran.outcome is.ran.opened;
    begun = λ unrefused. rw (all_trace, all_ended) is.ran.begun;
    early = λ memory before after piece at_it. let found = later before after piece at_it in subst HasNoNewline (sym found.2) (is.ran.early memory found.0 after piece found.1);
    quiet = unused-append at.Err first second (file.only at.Err (elsewhere asked.kind).err) (is.ran.only at.Err refl refl);
  }

-- the file is refused by itself
refused_over : (kind : FileKind) (bytes : List ℕ) (lines : List (List ℕ)) (answer : status.Status) → file_refusal kind bytes ≡ Some answer → program_over kind bytes lines ≡ Err answer
unfolding program_over
refused_over kind bytes lines answer is = ap (λ o. unless_refused o (unless_long (begins_long lines) (program_by kind bytes (header_in lines)))) is

closed_outcome : (answer : status.Status) (asked : RunAsked) (bytes : List ℕ) → Refuses answer → length bytes ≤ file_limit asked.kind → program_over asked.kind bytes [] ≡ Err answer → FileOutcome answer asked bytes true [] false [] None
closed_outcome (status.TheVariants.Refused line why) asked bytes speaks fits is = record { whole = refl; within = fits; lines = record { refused = is; silent = silent } }
closed_outcome (status.TheVariants.BadProgram fault) asked bytes speaks fits is = record { whole = refl; within = fits; lines = record { refused = is; silent = silent } }
closed_outcome (status.TheVariants.BadTrace number why) asked bytes speaks fits is = record { whole = refl; within = fits; lines = inl (record { refused = is; silent = silent }) }
closed_outcome status.TheVariants.Memory asked bytes speaks fits is = (fits, silent)
closed_outcome answer asked bytes speaks fits is = absurd speaks

closed_opened : (answer : status.Status) (events : List Event) → Refuses answer → OpensAsTold answer events
closed_opened (status.TheVariants.OpenFault p) events speaks = absurd speaks
closed_opened (status.TheVariants.ReadFault p) events speaks = absurd speaks
closed_opened answer events speaks = tt

run_closed : (asked : RunAsked) (bytes : List ℕ) (answer : status.Status) (first : List Event) (file : Visits (file_place asked.kind) ((file_place asked.kind, asked.file) ∷ []) bytes true true first) → length bytes ≤ file_limit asked.kind → (answer ≡ status.TheVariants.Memory) ⊎ (file_refusal asked.kind bytes ≡ Some answer) → Ran (run asked) answer None first
run_closed asked bytes answer first file fits (inl memory) = subst (λ s. Ran (run asked) s None first) (sym memory) (run_read asked status.TheVariants.Memory first bytes true file (fits, silent) (λ opened. tt) (λ unrefused. tt))
run_closed asked bytes answer first file fits (inr refused) =
    let speaks = file_refuses asked.kind bytes answer refused in
    run_read asked answer first bytes true file (closed_outcome answer asked bytes speaks fits (refused_over asked.kind bytes [] answer refused)) (λ opened. closed_opened answer first speaks)
    (λ unrefused. absurd (let no : None ≡ Some answer = sym unrefused ∙ ap (file_refusal asked.kind) file.takes ∙ refused in cc))

pub run_file_ran : (asked : RunAsked) (bytes : Vec ℕ Global) (answer : status.Status) (kept : Option State) (first second : List Event) → FileLog (Ok bytes) (file_place asked.kind) (file_limit asked.kind) asked.file first → RanFile asked bytes.items answer kept second → Ran (run asked) answer kept (first ++ second)
run_file_ran asked bytes answer kept first second read ran =
    let file = visit_read (file_place asked.kind) asked.file bytes.items true read.0 first read.1 read.2 in
    elim ran [
      | inl closed ↦ rw (closed.no_monitor, closed.no_events, append-nil) (run_closed asked bytes.items answer first file read.3 closed.why)
      | inr opened ↦ run_opened_file asked bytes.items answer kept first second file read.3 opened
    ]
