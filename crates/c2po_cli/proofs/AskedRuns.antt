-- Runs by what the words ask for: help, nothing, or what it is out of memory for.

use Rattle.std.proofs.Common.{◌≡◌, ◌≢◌, ◌↔◌, ℕ, List, [], refl, sym, ◌∙◌, ap, subst, arith}
use Rattle.std.proofs.lemmas.List.{append-nil}
use Rattle.tool_io.specs.declared.host.Place.TheVariants as at
use Rattle.tool_io.specs.Log.{Event, given, names_of, Writes}
use Rattle.tool_io.proofs.LogLaws.{WritesFront-misses, Writes-given}
use Rattle.tool_words.specs.C2poWords as words
use Rattle.tool_words.specs.declared.message.Tool.TheVariants.{C2po}
use Rattle.tool_words.specs.declared.status.Status as status
use Rattle.tool_words.specs.declared.status.Status.TheVariants as answers
use Rattle.tool_words.specs.Messages.{usage}
use Rattle.tool_words.specs.Attaching.{OpensAsTold}
use Rattle.tool_words.specs.Telling.{HelpLog}
use Rattle.tool_words.proofs.AttachLaws.{no_reads_none}
use Rattle.tool_words.proofs.FileLaws.{visit_gave}
use Rattle.c2po_cli.specs.Asking.{Ask, help, make, nothing, served, ask, asked_names}
use Rattle.c2po_cli.proofs.LogLaws.{unwritten}
use Rattle.c2po_cli.specs.Run.{HelpOutcome, NothingOutcome, OutcomeOf, TriesOf, names_out, Ran}

-- help, or a front of it, went out
help_ran : (answer : status.Status) (sent : List ℕ) (events : List Event) → Writes at.Out sent events → HelpOutcome answer (given at.Out events) → OpensAsTold answer events → Ran help answer events
help_ran answer sent events writes outcome opened =
    let visit = visit_gave at.Out sent events writes in
    record {
      names = record { rest = []; split = sym (append-nil (names_of events) ∙ visit.names_are) };
      tries = tt;
      reads = visit.reads;
      writes = λ named. absurd (cc);
      outcome = outcome;
      opened = opened;
      quiet = visit.only at.Err refl;
    }

pub run_help : (answer : status.Status) (events : List Event) → HelpLog C2po answer events → Ran help answer events
run_help answers.Helped events writes = help_ran answers.Helped (usage C2po) events writes (Writes-given at.Out (usage C2po) events writes) tt
run_help (answers.WriteFault at.Out) events fronts =
    help_ran (answers.WriteFault at.Out) fronts.sent events fronts.writes
    (WritesFront-misses at.Out (usage C2po) events fronts) tt
run_help answer events is = absurd is

-- nothing was done
tries_none : (asked : Ask) (answer : status.Status) → TriesOf asked answer []
tries_none (make asked) answer = record { header = λ tried. absurd (cc); out = λ tried. absurd (cc); out_last = λ tried. absurd (cc) }
tries_none asked answer = tt

memory_none : (asked : Ask) → OutcomeOf answers.Memory asked []
memory_none (make asked) = (omega arith, refl, refl)
memory_none asked = refl

run_none : (asked : Ask) (answer : status.Status) → OutcomeOf answer asked [] → OpensAsTold answer [] → Ran asked answer []
run_none asked answer outcome opened = record {
  names = record { rest = asked_names asked; split = refl };
  tries = tries_none asked answer;
  reads = no_reads_none;
  writes = unwritten (names_out asked) [] refl;
  outcome = outcome;
  opened = opened;
  quiet = refl;
}

pub run_no_memory : (asked : Ask) → Ran asked answers.Memory []
run_no_memory asked = run_none asked answers.Memory (memory_none asked) tt

pub run_nothing : (asked : Ask) → asked ≡ nothing → Ran asked answers.Usage []
run_nothing asked is = subst (λ a. Ran a answers.Usage []) (sym is) (run_none nothing answers.Usage refl tt)

-- how an answer tells what was asked
nothing_usage : (answer : status.Status) (out : List ℕ) → NothingOutcome answer out → answer ≢ answers.Memory → answer ≡ answers.Usage
nothing_usage answers.Usage out is some = refl
nothing_usage answers.Memory out is some = absurd (some refl)
nothing_usage answer out is some = absurd is

pub run_usage : (asked : Ask) (answer : status.Status) (events : List Event) → Ran asked answer events → answer ≢ answers.Memory → (answer ≡ answers.Usage) ↔ (asked ≡ nothing)
run_usage nothing answer events ran some = (λ same. refl, λ is. nothing_usage answer (given at.Out events) ran.outcome some)
run_usage asked answer events ran some = (λ same. absurd (subst (λ s. OutcomeOf s asked events) same ran.outcome), λ is. cc)

pub run_helped : (asked : Ask) (answer : status.Status) (events : List Event) → Ran asked answer events → answer ≡ answers.Helped → asked ≡ help
run_helped help answer events ran is = refl
run_helped asked answer events ran is = absurd (subst (λ s. OutcomeOf s asked events) is ran.outcome)

-- what was read of the words
pub asked_served : (words_asked : words.C2poRequest) (list : List (List ℕ)) → words_asked ≡ words.ask list → served words_asked ≡ ask list
unfolding ask
asked_served words_asked list is = ap served is
