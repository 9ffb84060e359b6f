-- Runs by what the words ask for: help, a demo, nothing, or a file for which it is out of memory before it is read.

use Rattle.std.proofs.Common.{◌≡◌, ◌≢◌, ◌↔◌, ℕ, ◌<◌, Option, None, List, [], ◌∷◌, ◌++◌, refl, sym, ◌∙◌, ap, subst, arith}
use Rattle.tool_io.specs.declared.host.Place as place
use Rattle.tool_io.specs.declared.host.Place.TheVariants.{Trace, Out}
use Rattle.tool_io.specs.declared.host.Place.TheVariants as at
use Rattle.tool_io.specs.Log.{Event, Took, given, Writes, WritesFront}
use Rattle.tool_io.proofs.LogLaws.{WritesFront-misses, Writes-given, Writes-none}
use Rattle.tool_words.specs.R2u2Words.{R2u2Request, help, run, demo, nothing}
use Rattle.r2u2_monitor.specs.declared.state.State.{State}
use Rattle.tool_words.specs.declared.message.Tool.TheVariants.{R2u2}
use Rattle.tool_words.specs.declared.status.Status as status
use Rattle.tool_words.specs.Messages.{usage}
use Rattle.tool_words.specs.Attaching.{OpensAsTold}
use Rattle.tool_words.specs.Telling.{HelpLog}
use Rattle.tool_words.proofs.AttachLaws.{writes_unread}
use Rattle.tool_words.proofs.FileLaws.{visit_gave}
use Rattle.r2u2_cli.specs.Asking.{asked_names}
use Rattle.r2u2_cli.specs.Summary.{demo_summary}
use Rattle.r2u2_cli.specs.Demo.{DemoLog, KeepsDemo, SummaryLog}
use Rattle.r2u2_cli.specs.Run.{NothingOutcome, OutcomeOf, RefusesAfter, TriesSecond, IsPrompt, Ran}

-- what was written on the output is all that happened
wrote_ran : (asked : R2u2Request) (answer : status.Status) (kept : Option State) (sent : List ℕ) (events : List Event) → Writes Out sent events → TriesSecond asked events → (((before after : List Event) (piece : List ℕ) → events ≡ before ++ Took Trace piece ∷ after → ⊥) → IsPrompt asked events) → RefusesAfter asked answer events
    → OutcomeOf answer asked events kept → OpensAsTold answer events → Ran asked answer kept events
wrote_ran asked answer kept sent events writes second prompt begun outcome opened =
    let visit = visit_gave Out sent events writes in
    let unread = λ (before after : List Event) (piece : List ℕ) (is : events ≡ before ++ Took Trace piece ∷ after). writes_unread Out writes.pieces before after Trace piece (sym writes.are ∙ is) in
    record {
      names = record { rest = asked_names asked; split = ap (λ names. names ++ asked_names asked) (sym visit.names_are) };
      second = second;
      attached = visit.reads;
      prompt = prompt unread;
      outcome = outcome;
      opened = opened;
      begun = begun;
      early = λ memory before after piece is. absurd (unread before after piece is);
      quiet = visit.only at.Err refl;
    }

unread_prompt : (asked : R2u2Request) (events : List Event) → ((before after : List Event) (piece : List ℕ) → events ≡ before ++ Took Trace piece ∷ after → ⊥) → IsPrompt asked events
unread_prompt (run asked) events unread = λ before after piece is. absurd (unread before after piece is)
unread_prompt asked events unread = λ before after piece is. absurd (unread before after piece is)

pub run_help : (answer : status.Status) (events : List Event) → HelpLog R2u2 answer events → Ran help answer None events
run_help status.TheVariants.Helped events writes =
    wrote_ran help status.TheVariants.Helped None (usage R2u2) events writes tt (unread_prompt help events) tt (Writes-given Out (usage R2u2) events writes, refl) tt
run_help (status.TheVariants.WriteFault place.TheVariants.Out) events fronts =
    wrote_ran help (status.TheVariants.WriteFault Out) None fronts.sent events fronts.writes tt (unread_prompt help events) tt (WritesFront-misses Out (usage R2u2) events fronts, refl) tt
run_help answer events is = absurd is

-- nothing was done
second_none : (asked : R2u2Request) → TriesSecond asked []
second_none (run asked) = λ two. let none : 1 < 0 = two in absurd (omega (arith, none))
second_none asked = tt

memory_none : (asked : R2u2Request) → OutcomeOf status.TheVariants.Memory asked [] None
memory_none (run asked) = (omega arith, record { no_lines = refl; no_monitor = refl })
memory_none asked = record { no_lines = refl; no_monitor = refl }

memory_begun : (asked : R2u2Request) → RefusesAfter asked status.TheVariants.Memory []
memory_begun (run asked) = λ unrefused. tt
memory_begun asked = tt

run_none : (asked : R2u2Request) (answer : status.Status) → OutcomeOf answer asked [] None → OpensAsTold answer [] → RefusesAfter asked answer [] → Ran asked answer None []
run_none asked answer outcome opened begun = wrote_ran asked answer None [] [] (Writes-none Out) (second_none asked) (unread_prompt asked []) begun outcome opened

pub run_no_memory : (asked : R2u2Request) → Ran asked status.TheVariants.Memory None []
run_no_memory asked = run_none asked status.TheVariants.Memory (memory_none asked) tt (memory_begun asked)

pub run_nothing : (asked : R2u2Request) → asked ≡ nothing → Ran asked status.TheVariants.Usage None []
run_nothing asked is = subst (λ a. Ran a status.TheVariants.Usage None []) (sym is) (run_none nothing status.TheVariants.Usage (record { no_lines = refl; no_monitor = refl }) tt tt)

-- the summary of a demo, or a front of it, went out
pub demo_told : (answer : status.Status) (seed rows : ℕ) (text : List ℕ) (kept : Option State) (events : List Event) → text ≡ demo_summary seed rows → KeepsDemo seed rows kept
    → SummaryLog answer text events → DemoLog answer seed rows kept events
demo_told status.TheVariants.Done seed rows text kept events is keeps told = (subst (λ b. Writes Out b events) is told, keeps)
demo_told (status.TheVariants.WriteFault place.TheVariants.Out) seed rows text kept events is keeps told = (subst (λ b. WritesFront Out b events) is told, keeps)
demo_told answer seed rows text kept events is keeps told = absurd told

pub run_demo : (seed rows : ℕ) (answer : status.Status) (kept : Option State) (events : List Event) → DemoLog answer seed rows kept events → Ran (demo seed rows) answer kept events
run_demo seed rows status.TheVariants.Done kept events told =
    wrote_ran (demo seed rows) status.TheVariants.Done kept (demo_summary seed rows) events told.0 tt (unread_prompt (demo seed rows) events) tt (Writes-given Out (demo_summary seed rows) events told.0, told.1) tt
run_demo seed rows (status.TheVariants.WriteFault place.TheVariants.Out) kept events told =
    let fronts = told.0 in
    wrote_ran (demo seed rows) (status.TheVariants.WriteFault Out) kept fronts.sent events fronts.writes tt (unread_prompt (demo seed rows) events) tt (WritesFront-misses Out (demo_summary seed rows) events fronts, told.1) tt
run_demo seed rows status.TheVariants.Memory kept events told =
    subst (λ es. Ran (demo seed rows) status.TheVariants.Memory kept es) (sym told.0)
    (subst (λ k. Ran (demo seed rows) status.TheVariants.Memory k []) (sym told.1) (run_no_memory (demo seed rows)))
run_demo seed rows answer kept events told = absurd told

-- how an answer tells what was asked
nothing_usage : (answer : status.Status) (out : List ℕ) (kept : Option State) → NothingOutcome answer out kept → answer ≢ status.TheVariants.Memory → answer ≡ status.TheVariants.Usage
nothing_usage status.TheVariants.Usage out kept is some = refl
nothing_usage status.TheVariants.Memory out kept is some = absurd (some refl)
nothing_usage answer out kept is some = absurd is

pub run_usage : (asked : R2u2Request) (answer : status.Status) (kept : Option State) (events : List Event) → Ran asked answer kept events → answer ≢ status.TheVariants.Memory → (answer ≡ status.TheVariants.Usage) ↔ (asked ≡ nothing)
run_usage nothing answer kept events ran some = (λ same. refl, λ is. nothing_usage answer (given Out events) kept ran.outcome some)
run_usage (run asked) answer kept events ran some = (λ same. absurd ((subst (λ s. OutcomeOf s (run asked) events kept) same ran.outcome).lines), λ is. cc)
run_usage asked answer kept events ran some = (λ same. absurd (subst (λ s. OutcomeOf s asked events kept) same ran.outcome), λ is. cc)

pub run_helped : (asked : R2u2Request) (answer : status.Status) (kept : Option State) (events : List Event) → Ran asked answer kept events → answer ≡ status.TheVariants.Helped → asked ≡ help
run_helped help answer kept events ran is = refl
run_helped (run asked) answer kept events ran is = absurd ((subst (λ s. OutcomeOf s (run asked) events kept) is ran.outcome).lines)
run_helped asked answer kept events ran is = absurd (subst (λ s. OutcomeOf s asked events kept) is ran.outcome)
