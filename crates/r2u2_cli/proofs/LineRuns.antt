-- A run over the lines of a trace: the first line, and then the loop.

use Rattle.std.proofs.Common.{◌≡◌, ◌≢◌, ℕ, ◌<◌, ◌⊎◌, Bool, true, false, if◌then◌else◌, Option, Some, None, Result, Ok, Err, List, [], ◌∷◌, ◌++◌, length, map, refl, sym, ◌∙◌, ap, subst, append_assoc, inl, inr}
use Rattle.std.proofs.lemmas.List.{append-nil}
use Rattle.mltl_base.specs.declared.program.Program.{Program}
use Rattle.mltl_base.specs.Programs.{outputs, output_names}
use Rattle.mltl_base.specs.Reports.{reports_after}
use Rattle.mltl_base.specs.Lines.{lines}
use Rattle.tool_io.specs.declared.host.Place as place
use Rattle.tool_io.specs.declared.host.Place.TheVariants.{Trace, Out}
use Rattle.tool_io.specs.Log.{Event, Took, taken, given, ended_from, Prompt}
use Rattle.tool_io.specs.Cutting.{Cutting, HasNoNewline, OnlyWhereNeeded, lines_of, line_text, fresh}
use Rattle.tool_io.proofs.LogLaws.{taken-append, given-append, ended_from-append, Reads-taken, Reads-given, Reads-ended}
use Rattle.tool_io.proofs.CutLaws.{lines_of-none, lines_of-long, is_long-row}
use Rattle.tool_io.proofs.Prompting.{PromptBy, PromptBy-append, PromptBy-from, Prompt-from_by}
use Rattle.tool_words.specs.declared.file_kind.FileKind.{FileKind}
use Rattle.tool_words.specs.R2u2Words.{RunAsked}
use Rattle.r2u2_monitor.specs.declared.state.State.{State}
use Rattle.trace_columns.specs.Header.{begins_header}
use Rattle.trace_feed.specs.declared.trace_why.TraceWhy.TheVariants.{LongLine}
use Rattle.r2u2_watch.specs.declared.status.Watched as watched
use Rattle.r2u2_watch.specs.Trace.{TraceRows, stamped_rows, trace_rows, due}
use Rattle.r2u2_watch.specs.Watch.{OnlyRun, IsTold, Outcome}
use Rattle.r2u2_watch.proofs.LineLaws.{reads_prompt, OnlyRun-append, OnlyRun-reads, row_line}
use Rattle.tool_words.specs.declared.status.Status as status
use Rattle.tool_words.specs.FirstLine.{begins_long, HasBegun}
use Rattle.c2po_compile.specs.Refusals.{unless_refused}
use Rattle.r2u2_cli.specs.ProgramBy.{file_refusal, program_by, header_in, unless_long, program_over}
use Rattle.r2u2_cli.specs.Outcome.{due_by, rows_by, AllTold, LinesOutcome}
use Rattle.r2u2_cli.specs.Taken.{trace_of, trace_ended, lines_in, BegunFor, ReadsFirstLine}
use Rattle.r2u2_cli.specs.Phases.{FirstRead, StandsFirst, IsFirst, header_of_row, cut_header, FirstLog, RanLoop, RanRows, RanLines, ending_status}
use Rattle.r2u2_cli.proofs.Refusing.{Refuses, IsMarked, program_refuses}

-- no line says no row
rows_none : (asked : RunAsked) (program : Program) → (rows_by asked program 1 []).rows ≡ []
rows_none asked program =
    elim asked.timed as (λ (v : Bool). (if v then stamped_rows program asked.mission 1 [] else trace_rows program asked.mission 1 []).rows ≡ []) [ true ↦ refl | false ↦ refl ]

-- nothing is due for bytes without a line
due_none : (asked : RunAsked) (found : Result Program status.Status) (more : List ℕ) → HasNoNewline more → length more < 65536 → due_by asked found false more ≡ []
unfolding reports_after
due_none asked (Ok program) more plain short =
    ap (λ raws. lines asked.style (output_names program) (outputs program) (rows_by asked program 1 raws).rows) (lines_of-none more plain short)
    ∙ ap (lines asked.style (output_names program) (outputs program)) (rows_none asked program)
due_none asked (Err answer) more plain short = refl

-- before each of the reads that are needed no newline was taken
reads_first : (pending : List ℕ) (pieces : List (List ℕ)) → OnlyWhereNeeded pending pieces → (before after : List Event) (piece : List ℕ) → map (Took Trace) pieces ≡ before ++ Took Trace piece ∷ after → HasNoNewline (pending ++ taken Trace before)
reads_first pending [] needed [] after piece is = cc
reads_first pending [] needed (event ∷ before) after piece is = cc
reads_first pending (p ∷ pieces) needed [] after piece is = subst HasNoNewline (sym (append-nil pending)) needed.0
reads_first pending (p ∷ pieces) needed (event ∷ before) after piece is =
    let first : Took Trace p ≡ event = cc in
    let rest : map (Took Trace) pieces ≡ before ++ Took Trace piece ∷ after = cc in
    subst (λ e. HasNoNewline (pending ++ taken Trace (e ∷ before))) first (subst HasNoNewline (append_assoc pending p (taken Trace before)) (reads_first (pending ++ p) pieces needed.2 before after piece rest))

first_line_early : (cut : Cutting) (events : List Event) → FirstRead cut events → ReadsFirstLine events
first_line_early cut events has before after piece is = reads_first [] has.pieces has.needed before after piece (sym has.reads ∙ is)

-- the first line's reads are prompt
first_prompt : (asked : RunAsked) (found : Result Program status.Status) (cut : Cutting) (events : List Event) → FirstRead cut events → PromptBy (due_by asked found false) [] [] events
first_prompt asked found cut events has =
    subst (PromptBy (due_by asked found false) [] []) (sym has.reads) (reads_prompt (due_by asked found false) [] [] [] has.pieces has.needed (λ more plain short. sym (due_none asked found more plain short)))

first_only : (cut : Cutting) (events : List Event) → FirstRead cut events → OnlyRun events
first_only cut events has = subst OnlyRun (sym has.reads) (OnlyRun-reads has.pieces)

first_taken : (cut : Cutting) (events : List Event) → FirstRead cut events → taken Trace events ≡ cut.pending
first_taken cut events has = Reads-taken Trace has.pieces events has.reads ∙ sym has.pending

first_given : (cut : Cutting) (events : List Event) (has : FirstRead cut events) → given Out events ≡ []
first_given cut events has = Reads-given Trace Out has.pieces events has.reads

first_ended : (cut : Cutting) (events : List Event) (has : FirstRead cut events) → ended_from false Trace events ≡ cut.ended
first_ended cut events has = Reads-ended false Trace has.pieces events has.reads ∙ sym has.ended

-- the lines of a trace whose first line stands in front: more bytes come only where the end wasn't met
pub record HasFirst (row : Option (List ℕ)) (ended : Bool) (lines : List (List ℕ)) : Type 0 where
  pub short : begins_long lines ≡ false
  pub header : header_in lines ≡ header_of_row row
  pub begun : HasBegun ended lines

first_of_lines : (row : Option (List ℕ)) (pending : List ℕ) (ended_first : Bool) → StandsFirst row pending ended_first → (ended : Bool) (more : List ℕ) → (ended_first ≡ true → (ended ≡ true) × (more ≡ [])) → HasFirst row ended (lines_of ended (pending ++ more))
first_of_lines None pending ended_first stands ended more follows =
    let at_end = follows stands.1 in
    let none : lines_of ended (pending ++ more) ≡ [] = ap (λ b. lines_of ended (b ++ more)) stands.0 ∙ ap (lines_of ended) at_end.1 ∙ ap (λ v. lines_of v []) at_end.0 in
    record { short = ap begins_long none; header = ap header_in none; begun = inl at_end.0 }
first_of_lines (Some raw) pending ended_first stands ended more follows =
    let rest = stands.0 in
    let behind : Cutting = record { pending = rest; row = None; kept = false; ended = ended_first; number = 0 } in
    let split : lines_of ended (pending ++ more) ≡ raw ∷ lines_of ended (rest ++ more) = ap (λ b. lines_of ended (b ++ more)) stands.1 ∙ ap (lines_of ended) (append_assoc raw rest more)
    ∙ row_line raw behind ended (rest ++ more) stands.3 (λ met. ((follows met).0, ap (λ b. rest ++ b) (follows met).1 ∙ append-nil rest)) in
    record {
      short = ap begins_long split ∙ is_long-row raw rest ended_first stands.2 stands.3;
      header = ap header_in split;
      begun = inr (λ none. let is : raw ∷ lines_of ended (rest ++ more) ≡ [] = sym split ∙ none in cc);
    }

-- the program over such lines is that of the header
found_over : (kind : FileKind) (bytes : List ℕ) (row : Option (List ℕ)) (ended : Bool) (lines : List (List ℕ)) → file_refusal kind bytes ≡ None → HasFirst row ended lines → program_over kind bytes lines ≡ program_by kind bytes (header_of_row row)
unfolding program_over
found_over kind bytes row ended lines none has =
    ap (λ o. unless_refused o (unless_long (begins_long lines) (program_by kind bytes (header_in lines)))) none
    ∙ ap (λ b. unless_long b (program_by kind bytes (header_in lines))) has.short
    ∙ ap (program_by kind bytes) has.header

-- what the loop left is what the run leaves
told_all : (program : Program) (asked : RunAsked) (ended : Bool) (bytes out : List ℕ) (monitor : State) → IsTold program asked.style (rows_by asked program 1) ended bytes out monitor → AllTold asked (Ok program) ended bytes out (Some monitor)
told_all program asked ended bytes out monitor told = record { out_is = told.told; keeps = told.kept }

-- where the end wasn't met, a trace that has begun has a line
some_line : (ended : Bool) (bytes : List ℕ) → ended ≡ false → HasBegun ended (lines_of ended bytes) → lines_of false bytes ≢ []
some_line ended bytes unmet (inl met) = absurd (cc)
some_line ended bytes unmet (inr some) = subst (λ v. lines_of v bytes ≢ []) unmet some

lines_outcome : (answer : watched.Watched) (program : Program) (asked : RunAsked) (ended : Bool) (bytes out : List ℕ) (monitor : State) → HasBegun ended (lines_of ended bytes) → Outcome answer program asked.style (rows_by asked program 1) ended bytes out monitor → LinesOutcome (ending_status answer) asked (Ok program) ended bytes out (Some monitor)
lines_outcome watched.TheVariants.Done program asked ended bytes out monitor begun is = (is.0, is.1, told_all program asked ended bytes out monitor is.2)
lines_outcome watched.TheVariants.TooLong program asked ended bytes out monitor begun is = (is.0, told_all program asked ended bytes out monitor is.1)
lines_outcome (watched.TheVariants.BadTrace number why) program asked ended bytes out monitor begun is = inr (is.0, told_all program asked ended bytes out monitor is.1)
lines_outcome watched.TheVariants.ReadFault program asked ended bytes out monitor begun is =
    (is.0, inr (record { begun = some_line ended bytes is.0 begun; clean = is.1; told = told_all program asked false bytes out monitor is.2 }))
lines_outcome watched.TheVariants.WriteFault program asked ended bytes out monitor begun is = (is.0, is.1)

-- where the first line stands in front, or the trace has none, it has begun
first_begun : (row : Option (List ℕ)) (pending : List ℕ) (ended : Bool) → StandsFirst row pending ended → HasBegun ended (lines_of ended pending)
first_begun row pending ended stands =
    let has = first_of_lines row pending ended stands ended [] (λ met. (met, refl)) in
    subst (λ b. HasBegun ended (lines_of ended b)) (append-nil pending) has.begun

has_begun : (start : Cutting) (events : List Event) → FirstRead start events → IsFirst start → HasBegun (trace_ended events) (lines_in events)
has_begun start events has first =
    subst (λ v. HasBegun v (lines_of v (trace_of events))) (sym (first_ended start events has))
    (subst (λ b. HasBegun start.ended (lines_of start.ended b)) (sym (first_taken start events has)) (first_begun start.row start.pending start.ended first.stands))

begun_for : (answer : status.Status) (ended : Bool) (raws : List (List ℕ)) → HasBegun ended raws → BegunFor answer ended raws
begun_for (status.TheVariants.Refused line why) ended raws is = is
begun_for answer ended raws is = tt

-- the loop ends by no refusal
loop_begun : (answer : watched.Watched) (ended : Bool) (raws : List (List ℕ)) → BegunFor (ending_status answer) ended raws
loop_begun watched.TheVariants.Done ended raws = tt
loop_begun answer ended raws = tt

-- the first line was read, or a part of it, and nothing more
first_ran : (asked : RunAsked) (bytes : List ℕ) (answer : status.Status) (cut : Cutting) (events : List Event) → FirstRead cut events → LinesOutcome answer asked (program_over asked.kind bytes (lines_in events)) (trace_ended events) (trace_of events) (given Out events) None
    → BegunFor answer (trace_ended events) (lines_in events) → RanLines asked bytes answer None events
first_ran asked bytes answer cut events has outcome begun =
    let found = program_over asked.kind bytes (lines_in events) in
    record {
      only = first_only cut events has;
      prompt = Prompt-from_by (due_by asked found false) [] events (first_prompt asked found cut events has);
      outcome = outcome;
      begun = begun;
      early = λ memory. first_line_early cut events has;
    }

-- no memory came
lines_no_memory : (asked : RunAsked) (bytes : List ℕ) (cut : Cutting) (events : List Event) → FirstRead cut events → RanLines asked bytes status.TheVariants.Memory None events
lines_no_memory asked bytes cut events has = first_ran asked bytes status.TheVariants.Memory cut events has (record { no_lines = first_given cut events has; no_monitor = refl }) tt

-- there is no program by this status
refused_outcome : (answer : status.Status) (asked : RunAsked) (found : Result Program status.Status) (ended : Bool) (bytes out : List ℕ) → Refuses answer → found ≡ Err answer → out ≡ [] → LinesOutcome answer asked found ended bytes out None
refused_outcome (status.TheVariants.Refused line why) asked found ended bytes out speaks is none = record { refused = is; silent = record { no_lines = none; no_monitor = refl } }
refused_outcome (status.TheVariants.BadProgram fault) asked found ended bytes out speaks is none = record { refused = is; silent = record { no_lines = none; no_monitor = refl } }
refused_outcome (status.TheVariants.BadTrace number why) asked found ended bytes out speaks is none = inl (record { refused = is; silent = record { no_lines = none; no_monitor = refl } })
refused_outcome status.TheVariants.Memory asked found ended bytes out speaks is none = record { no_lines = none; no_monitor = refl }
refused_outcome answer asked found ended bytes out speaks is none = absurd speaks

-- a header that a cut gives begins with `#`
row_marked : (row : Option (List ℕ)) → IsMarked (header_of_row row)
row_marked None = tt
row_marked (Some raw) =
    elim (begins_header (line_text raw)) as (λ b. begins_header (line_text raw) ≡ b → IsMarked (if b then Some (line_text raw) else None)) [ true ↦ λ is. is | false ↦ λ is. tt ] refl

-- what was found after the first line was read, and nothing more
found_first : (asked : RunAsked) (bytes : List ℕ) (start : Cutting) (events : List Event) → FirstRead start events → IsFirst start → file_refusal asked.kind bytes ≡ None → program_over asked.kind bytes (lines_in events) ≡ program_by asked.kind bytes (cut_header start)
found_first asked bytes start events has first none =
    let are : lines_in events ≡ lines_of start.ended (start.pending ++ []) = ap (λ v. lines_of v (taken Trace events)) (first_ended start events has) ∙ ap (lines_of start.ended) (first_taken start events has ∙ sym (append-nil start.pending)) in
    ap (program_over asked.kind bytes) are ∙ found_over asked.kind bytes start.row start.ended (lines_of start.ended (start.pending ++ [])) none (first_of_lines start.row start.pending start.ended first.stands start.ended [] (λ met. (met, refl)))

-- the header or a limit refused the program
lines_refused : (asked : RunAsked) (bytes : List ℕ) (start : Cutting) (answer : status.Status) (events : List Event) → FirstRead start events → IsFirst start → file_refusal asked.kind bytes ≡ None → program_by asked.kind bytes (cut_header start) ≡ Err answer → RanLines asked bytes answer None events
lines_refused asked bytes start answer events has first none is =
    first_ran asked bytes answer start events has
    (refused_outcome answer asked (program_over asked.kind bytes (lines_in events)) (trace_ended events) (trace_of events) (given Out events) (program_refuses asked.kind bytes (cut_header start) answer (row_marked start.row) is)
    (found_first asked bytes start events has first none ∙ is) (first_given start events has))
    (begun_for answer (trace_ended events) (lines_in events) (has_begun start events has first))

-- the loop never ends for want of memory
never_memory : (answer : watched.Watched) → ending_status answer ≡ status.TheVariants.Memory → ⊥
never_memory watched.TheVariants.Done is = cc
never_memory answer is = cc

-- the loop ran
module _ (asked : RunAsked) (bytes : List ℕ) (start : Cutting) (answer : status.Status) (kept : Option State) (first second : List Event) (program : Program) (has : FirstRead start first) (is_first : IsFirst start) (none : file_refusal asked.kind bytes ≡ None) (is : program_by asked.kind bytes (cut_header start) ≡ Ok program) (ran : RanLoop program asked start answer kept second) where
  abbrev all : List Event
  all = first ++ second

  abbrev rows_in : List (List ℕ) → TraceRows
  rows_in = rows_by asked program 1

  all_taken : start.pending ++ taken Trace second ≡ trace_of all
  all_taken = ap (λ b. b ++ taken Trace second) (sym (first_taken start first has)) ∙ sym (taken-append Trace first second)

  all_given : given Out second ≡ given Out all
  all_given = ap (λ b. b ++ given Out second) (sym (first_given start first has)) ∙ sym (given-append Out first second)

  all_ended : ran.cut.ended ≡ trace_ended all
  all_ended = ran.watch.ended ∙ ap (λ v. ended_from v Trace second) (sym (first_ended start first has)) ∙ sym (ended_from-append false Trace first second)

  begins : HasFirst start.row ran.cut.ended (lines_of ran.cut.ended (start.pending ++ taken Trace second))
  begins = first_of_lines start.row start.pending start.ended is_first.stands ran.cut.ended (taken Trace second) ran.watch.no_more

  all_begun : HasBegun (trace_ended all) (lines_of (trace_ended all) (trace_of all))
  all_begun =
      subst (λ v. HasBegun v (lines_of v (trace_of all))) all_ended
      (subst (λ b. HasBegun ran.cut.ended (lines_of ran.cut.ended b)) all_taken begins.begun)

  found_is : program_over asked.kind bytes (lines_in all) ≡ Ok program
  found_is =
      let are : lines_in all ≡ lines_of ran.cut.ended (start.pending ++ taken Trace second) = ap (λ v. lines_of v (trace_of all)) (sym all_ended) ∙ ap (lines_of ran.cut.ended) (sym all_taken) in
      ap (program_over asked.kind bytes) are ∙ found_over asked.kind bytes start.row ran.cut.ended (lines_of ran.cut.ended (start.pending ++ taken Trace second)) none begins ∙ is

  loop_outcome : Outcome ran.ended_so program asked.style rows_in (trace_ended all) (trace_of all) (given Out all) ran.monitor
  loop_outcome =
      subst (λ v. Outcome ran.ended_so program asked.style rows_in v (trace_of all) (given Out all) ran.monitor) all_ended
      (subst (λ b. Outcome ran.ended_so program asked.style rows_in ran.cut.ended b (given Out all) ran.monitor) all_taken
      (subst (λ b. Outcome ran.ended_so program asked.style rows_in ran.cut.ended (start.pending ++ taken Trace second) b ran.monitor) all_given
      (subst (λ n. Outcome ran.ended_so program asked.style (rows_by asked program n) ran.cut.ended (start.pending ++ taken Trace second) (given Out second) ran.monitor) is_first.numbered ran.watch.outcome)))

  loop_prompt : PromptBy (due_by asked (Ok program) false) (taken Trace first) (given Out first) second
  loop_prompt =
      subst (λ b. PromptBy (due_by asked (Ok program) false) b (given Out first) second) (sym (first_taken start first has))
      (subst (λ b. PromptBy (due_by asked (Ok program) false) start.pending b second) (sym (first_given start first has))
      (PromptBy-from (due_by asked (Ok program) false) start.pending second
      (subst (λ n. Prompt (due program asked.style (rows_by asked program n) false) start.pending second) is_first.numbered ran.watch.prompt)))

  pub lines_looped : RanLines asked bytes answer kept all
  lines_looped = record {
    only = OnlyRun-append first second (first_only start first has) ran.watch.only;
    prompt = subst (λ f. Prompt (due_by asked f false) [] all) (sym found_is) (Prompt-from_by (due_by asked (Ok program) false) [] all (PromptBy-append (due_by asked (Ok program) false) [] [] first second (first_prompt asked (Ok program) start first has) loop_prompt));
    outcome =
        subst (λ f. LinesOutcome answer asked f (trace_ended all) (trace_of all) (given Out all) kept) (sym found_is)
        (subst (λ k. LinesOutcome answer asked (Ok program) (trace_ended all) (trace_of all) (given Out all) k) (sym ran.kept_is)
        (subst (λ s. LinesOutcome s asked (Ok program) (trace_ended all) (trace_of all) (given Out all) (Some ran.monitor)) (sym ran.is)
        (lines_outcome ran.ended_so program asked (trace_ended all) (trace_of all) (given Out all) ran.monitor all_begun loop_outcome)));
    begun = subst (λ s. BegunFor s (trace_ended all) (lines_in all)) (sym ran.is) (loop_begun ran.ended_so (trace_ended all) (lines_in all));
    early = λ memory. absurd (never_memory ran.ended_so (sym ran.is ∙ memory));
  }

-- nothing came after the first line
lines_alone : (asked : RunAsked) (bytes : List ℕ) (answer : status.Status) (kept : Option State) (first second : List Event) → kept ≡ None → second ≡ [] → RanLines asked bytes answer None first → RanLines asked bytes answer kept (first ++ second)
lines_alone asked bytes answer kept first second no_monitor no_events ran =
    subst (λ k. RanLines asked bytes answer k (first ++ second)) (sym no_monitor) (subst (λ e. RanLines asked bytes answer None (first ++ e)) (sym no_events) (subst (RanLines asked bytes answer None) (sym (append-nil first)) ran))

lines_stayed : (asked : RunAsked) (bytes : List ℕ) (start : Cutting) (answer : status.Status) (first : List Event) → FirstRead start first → IsFirst start → file_refusal asked.kind bytes ≡ None → (answer ≡ status.TheVariants.Memory) ⊎ (program_by asked.kind bytes (cut_header start) ≡ Err answer) → RanLines asked bytes answer None first
lines_stayed asked bytes start answer first has is_first none (inl memory) = subst (λ s. RanLines asked bytes s None first) (sym memory) (lines_no_memory asked bytes start first has)
lines_stayed asked bytes start answer first has is_first none (inr refused) = lines_refused asked bytes start answer first has is_first none refused

pub lines_ran : (asked : RunAsked) (bytes : List ℕ) (start : Cutting) (answer : status.Status) (kept : Option State) (first second : List Event) → file_refusal asked.kind bytes ≡ None → FirstRead start first → IsFirst start → RanRows asked bytes start answer kept second → RanLines asked bytes answer kept (first ++ second)
lines_ran asked bytes start answer kept first second none has is_first (inl stayed) =
    lines_alone asked bytes answer kept first second stayed.no_monitor stayed.no_events (lines_stayed asked bytes start answer first has is_first none stayed.why)
lines_ran asked bytes start answer kept first second none has is_first (inr some) =
    elim some.loop [
      | inl stayed ↦ lines_alone asked bytes answer kept first second stayed.no_monitor stayed.no_events (lines_stayed asked bytes start answer first has is_first none (inl stayed.is))
      | inr ran ↦ lines_looped asked bytes start answer kept first second some.program has is_first none some.is ran
    ]

-- no memory came for the cut
pub lines_unmade : (asked : RunAsked) (bytes : List ℕ) → RanLines asked bytes status.TheVariants.Memory None []
lines_unmade asked bytes = lines_no_memory asked bytes fresh [] (record { pieces = []; reads = refl; needed = tt; pending = refl; ended = refl })

-- the first line is too long
lines_long : (asked : RunAsked) (bytes : List ℕ) (number : ℕ) (cut : Cutting) (events : List Event) → file_refusal asked.kind bytes ≡ None → FirstRead cut events → number ≡ 1 → HasNoNewline cut.pending → length cut.pending ≡ 65536 → RanLines asked bytes (status.TheVariants.BadTrace number LongLine) None events
unfolding program_over
lines_long asked bytes number cut events none has numbered plain size =
    let found = program_over asked.kind bytes (lines_in events) in
    let long = lines_of-long (trace_ended events) cut.pending [] plain size in
    let split : lines_in events ≡ long.raw ∷ long.others = ap (lines_of (trace_ended events)) (first_taken cut events has ∙ sym (append-nil cut.pending)) ∙ long.split in
    let begins : begins_long (lines_in events) ≡ true = ap begins_long split ∙ long.long in
    let refused : found ≡ Err (status.TheVariants.BadTrace 1 LongLine) =
    ap (λ o. unless_refused o (unless_long (begins_long (lines_in events)) (program_by asked.kind bytes (header_in (lines_in events))))) none
    ∙ ap (λ b. unless_long b (program_by asked.kind bytes (header_in (lines_in events)))) begins in
    first_ran asked bytes (status.TheVariants.BadTrace number LongLine) cut events has
    (inl (record { refused = refused ∙ ap (λ n. Err (status.TheVariants.BadTrace n LongLine)) (sym numbered); silent = record { no_lines = first_given cut events has; no_monitor = refl } })) tt

-- it couldn't be read
lines_unread : (asked : RunAsked) (bytes : List ℕ) (cut : Cutting) (events : List Event) → FirstRead cut events → HasNoNewline cut.pending → length cut.pending < 65536 → cut.ended ≡ false → RanLines asked bytes (status.TheVariants.ReadFault Trace) None events
lines_unread asked bytes cut events has plain short unmet =
    let none : lines_of false (trace_of events) ≡ [] = ap (lines_of false) (first_taken cut events has) ∙ lines_of-none cut.pending plain short in
    first_ran asked bytes (status.TheVariants.ReadFault Trace) cut events has
    (first_ended cut events has ∙ unmet, inl (record { no_line = none; silent = record { no_lines = first_given cut events has; no_monitor = refl } })) tt

pub lines_stopped : (asked : RunAsked) (bytes : List ℕ) (answer : status.Status) (cut : Cutting) (events : List Event) → file_refusal asked.kind bytes ≡ None → FirstLog (Err answer) cut events → RanLines asked bytes answer None events
lines_stopped asked bytes (status.TheVariants.BadTrace number LongLine) cut events none is = lines_long asked bytes number cut events none is.0 is.1 is.2 is.3
lines_stopped asked bytes (status.TheVariants.ReadFault place.TheVariants.Trace) cut events none is = lines_unread asked bytes cut events is.0 is.1 is.2 is.3
lines_stopped asked bytes answer cut events none is = absurd is
