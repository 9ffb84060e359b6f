-- The message after a run, and what follows from a run without a fault.

use Rattle.std.proofs.Common.{◌≡◌, ℕ, ◌≤◌, ◌<◌, ◌⊎◌, Bool, false, Option, Result, Ok, Err, List, [], ◌∷◌, ◌++◌, length, refl, sym, ◌∙◌, ap, subst, inl, inr, arith}
use Rattle.mltl_base.specs.declared.program.Program.{Program}
use Rattle.tool_io.specs.declared.host.Place as place
use Rattle.tool_io.specs.declared.host.Place.TheVariants.{Trace, Out}
use Rattle.tool_io.specs.declared.host.Place.TheVariants as at
use Rattle.tool_io.specs.declared.host.Put as put
use Rattle.tool_io.specs.Log.{Event, Took, given, Prompt}
use Rattle.tool_io.specs.Host.{WriteCause}
use Rattle.tool_io.specs.Cutting.{lines_of}
use Rattle.tool_io.specs.Whole.{PutAllLog}
use Rattle.tool_words.specs.R2u2Words.{R2u2Request, RunAsked, help, run, demo, nothing}
use Rattle.r2u2_monitor.specs.declared.state.State.{State}
use Rattle.r2u2_watch.specs.Trace.{Stop, Clean, Bad, Past}
use Rattle.tool_words.specs.declared.message.Tool.TheVariants.{R2u2}
use Rattle.tool_words.specs.declared.status.Status as status
use Rattle.tool_words.specs.Messages.{told_to_user}
use Rattle.tool_words.specs.Causes.{RunCause, TellsNoCall}
use Rattle.tool_words.specs.Files.{file_limit, file_place}
use Rattle.tool_words.proofs.CauseLaws.{no_call}
use Rattle.tool_words.proofs.MessageLaws.{Leaves, run_ends}
use Rattle.r2u2_cli.specs.Demo.{DemoOutcome}
use Rattle.r2u2_cli.specs.ProgramBy.{file_refusal, program_over}
use Rattle.r2u2_cli.specs.Outcome.{due_by, StopsBy, LinesOutcome}
use Rattle.r2u2_cli.specs.Taken.{trace_of, trace_ended, lines_in}
use Rattle.r2u2_cli.specs.Run.{RefusesAfter, file_in, file_ended, found_in, FileOutcome, HelpOutcome, OutcomeOf, TriesSecond, IsPrompt, TellsFormulas, Ran, CompletesBy, IsRun}
use Rattle.r2u2_cli.proofs.Telling.{settled_by}

-- rows that end cleanly, and a program, where another end is told, or no program
not_clean : (stop : Stop) (asked : RunAsked) (found : Result Program status.Status) (ended : Bool) (bytes : List ℕ) → StopsBy stop asked found ended bytes → StopsBy Clean asked found ended bytes → Clean ≡ stop
not_clean stop asked (Ok program) ended bytes is clean = sym clean ∙ is
not_clean stop asked (Err answer) ended bytes is clean = absurd is

no_program : (answer : status.Status) (asked : RunAsked) (found : Result Program status.Status) (ended : Bool) (bytes : List ℕ) → found ≡ Err answer → StopsBy Clean asked found ended bytes → ⊥
no_program answer asked (Ok program) ended bytes is clean = absurd (cc)
no_program answer asked (Err other) ended bytes is clean = clean

-- a program, and a trace without an end of its own, give Done, unless out of memory
lines_complete : (answer : status.Status) (asked : RunAsked) (found : Result Program status.Status) (bytes : List ℕ) (ended : Bool) (out : List ℕ) (kept : Option State) → TellsNoCall answer → StopsBy Clean asked found ended bytes → LinesOutcome answer asked found ended bytes out kept → (answer ≡ status.TheVariants.Done) ⊎ (answer ≡ status.TheVariants.Memory)
lines_complete status.TheVariants.Done asked found bytes ended out kept told clean is = inl refl
lines_complete status.TheVariants.Memory asked found bytes ended out kept told clean is = inr refl
lines_complete (status.TheVariants.ReadFault p) asked found bytes ended out kept told clean is = absurd told
lines_complete (status.TheVariants.WriteFault p) asked found bytes ended out kept told clean is = absurd told
lines_complete (status.TheVariants.Refused line why) asked found bytes ended out kept told clean is = absurd (no_program (status.TheVariants.Refused line why) asked found ended bytes is.refused clean)
lines_complete (status.TheVariants.BadProgram fault) asked found bytes ended out kept told clean is = absurd (no_program (status.TheVariants.BadProgram fault) asked found ended bytes is.refused clean)
lines_complete (status.TheVariants.BadTrace number why) asked found bytes ended out kept told clean (inl is) = absurd (no_program (status.TheVariants.BadTrace number why) asked found ended bytes is.refused clean)
lines_complete (status.TheVariants.BadTrace number why) asked found bytes ended out kept told clean (inr is) = absurd (let stop = not_clean (Bad number why) asked found ended bytes is.0 clean in cc)
lines_complete status.TheVariants.TooLong asked found bytes ended out kept told clean is = absurd (let stop = not_clean Past asked found ended bytes is.0 clean in cc)
lines_complete answer asked found bytes ended out kept told clean is = absurd is

file_complete : (answer : status.Status) (asked : RunAsked) (file : List ℕ) (file_end : Bool) (bytes : List ℕ) (ended : Bool) (out : List ℕ) (kept : Option State) → TellsNoCall answer → length file ≤ file_limit asked.kind → StopsBy Clean asked (program_over asked.kind file (lines_of ended bytes)) ended bytes → FileOutcome answer asked file file_end bytes ended out kept → (answer ≡ status.TheVariants.Done) ⊎ (answer ≡ status.TheVariants.Memory)
file_complete (status.TheVariants.OpenFault p) asked file file_end bytes ended out kept told fits clean is = absurd told
file_complete (status.TheVariants.ReadFault p) asked file file_end bytes ended out kept told fits clean is = absurd told
file_complete (status.TheVariants.TextTooLong p) asked file file_end bytes ended out kept told fits clean is = absurd (let long = is.1 in omega (arith, long, fits))
file_complete status.TheVariants.Memory asked file file_end bytes ended out kept told fits clean is = inr refl
file_complete answer asked file file_end bytes ended out kept told fits clean is = lines_complete answer asked (program_over asked.kind file (lines_of ended bytes)) bytes ended out kept told clean is.lines

help_complete : (answer : status.Status) (out : List ℕ) (kept : Option State) → TellsNoCall answer → HelpOutcome answer out kept → (answer ≡ status.TheVariants.Helped) ⊎ (answer ≡ status.TheVariants.Memory)
help_complete status.TheVariants.Helped out kept told is = inl refl
help_complete status.TheVariants.Memory out kept told is = inr refl
help_complete (status.TheVariants.WriteFault p) out kept told is = absurd told
help_complete answer out kept told is = absurd is

demo_complete : (answer : status.Status) (seed rows : ℕ) (out : List ℕ) (kept : Option State) → TellsNoCall answer → DemoOutcome answer seed rows out kept → (answer ≡ status.TheVariants.Done) ⊎ (answer ≡ status.TheVariants.Memory)
demo_complete status.TheVariants.Done seed rows out kept told is = inl refl
demo_complete status.TheVariants.Memory seed rows out kept told is = inr refl
demo_complete (status.TheVariants.WriteFault p) seed rows out kept told is = absurd told
demo_complete answer seed rows out kept told is = absurd is

complete_run : (asked : R2u2Request) (answer : status.Status) (kept : Option State) (events : List Event) → TellsNoCall answer → OutcomeOf answer asked events kept → CompletesBy asked answer events
complete_run nothing answer kept events told is = tt
complete_run help answer kept events told is = help_complete answer (given Out events) kept told is
complete_run (demo seed rows) answer kept events told is = demo_complete answer seed rows (given Out events) kept told is
complete_run (run asked) answer kept events told is = λ fits clean. file_complete answer asked (file_in asked events) (file_ended asked events) (trace_of events) (trace_ended events) (given Out events) kept told fits clean is

-- a message after a run changes nothing but what Err was given
module _ (first all : List Event) (leaves : Leaves first all) where
  all_lines : lines_in all ≡ lines_in first
  all_lines = ap (λ v. lines_of v (trace_of all)) (leaves.ends Trace) ∙ ap (lines_of (trace_ended first)) (leaves.bytes Trace)

  pub all_found : (asked : RunAsked) → found_in asked all ≡ found_in asked first
  all_found asked = ap (λ b. program_over asked.kind b (lines_in all)) (leaves.bytes (file_place asked.kind)) ∙ ap (program_over asked.kind (file_in asked first)) all_lines

  second_still : (asked : R2u2Request) → TriesSecond asked first → TriesSecond asked all
  second_still (run asked) is = λ two. rw (leaves.bytes (file_place asked.kind), leaves.ends (file_place asked.kind)) (is (subst (λ ns. 1 < length ns) leaves.names two))
  second_still asked is = tt

  outcome_still : (asked : R2u2Request) (answer : status.Status) (kept : Option State) → OutcomeOf answer asked first kept → OutcomeOf answer asked all kept
  outcome_still (run asked) answer kept is = rw (leaves.bytes (file_place asked.kind), leaves.ends (file_place asked.kind), leaves.bytes Trace, leaves.ends Trace, leaves.out) is
  outcome_still asked answer kept is = rw leaves.out is

  begun_still : (asked : R2u2Request) (answer : status.Status) → RefusesAfter asked answer first → RefusesAfter asked answer all
  begun_still (run asked) answer is = λ unrefused. rw (leaves.ends Trace, leaves.bytes Trace) (is (ap (file_refusal asked.kind) (sym (leaves.bytes (file_place asked.kind))) ∙ unrefused))
  begun_still asked answer is = tt

  -- nor is more of the trace read
  prompt_still : (asked : R2u2Request) → ((before after : List Event) (piece : List ℕ) → all ≡ before ++ Took Trace piece ∷ after → (rest : List Event) × (first ≡ before ++ Took Trace piece ∷ rest)) → IsPrompt asked first → IsPrompt asked all
  prompt_still (run asked) earlier is = subst (λ f. Prompt (due_by asked f false) [] all) (sym (all_found asked)) (λ before after piece at_it. let found = earlier before after piece at_it in is before found.0 piece found.1)
  prompt_still asked earlier is = λ before after piece at_it. let found = earlier before after piece at_it in is before found.0 piece found.1

tells_formulas : (asked : R2u2Request) (events : List Event) → TellsFormulas asked events
tells_formulas (run asked) events = settled_by asked (file_in asked events) (lines_in events) (trace_ended events) (trace_of events)
tells_formulas asked events = tt

-- a run, and then its message
pub main_ran : (asked : R2u2Request) (answer : status.Status) (kept : Option State) (before between now : place.Place → ℕ) (first second : List Event) (sending : put.Put) → Ran asked answer kept first → RunCause answer before between → WriteCause sending between now at.Err → PutAllLog sending at.Err (told_to_user R2u2 answer) second → IsRun asked answer kept before now (first ++ second)
main_ran asked answer kept before between now first second sending ran cause wrote log =
    let all = first ++ second in
    let ends = run_ends R2u2 answer before between now first second ran.quiet sending cause wrote log in
    let outcome = outcome_still first all ends.leaves asked answer kept ran.outcome in
    record {
      names = record { rest = ran.names.rest; split = ran.names.split ∙ ap (λ names. names ++ ran.names.rest) (sym ends.leaves.names) };
      second = second_still first all ends.leaves asked ran.second;
      attached = λ start after p piece is. let found = ends.earlier start after p piece is in ran.attached start found.0 p piece found.1;
      prompt = prompt_still first all ends.leaves asked (λ start after piece is. ends.earlier start after Trace piece is) ran.prompt;
      settled = tells_formulas asked all;
      outcome = outcome;
      opened = ends.opened ran.opened;
      begun = begun_still first all ends.leaves asked answer ran.begun;
      early = λ memory start after piece is. let found = ends.earlier start after Trace piece is in ran.early memory start found.0 piece found.1;
      told_user = ends.told_user;
      told_whole = ends.told_whole;
      told_last = ends.told_last;
      complete = λ none. complete_run asked answer kept all (no_call answer before between now cause ends.same none) outcome;
    }
