-- The message after a run, and what follows from a run without a fault.

use Rattle.std.proofs.Common.{◌≡◌, ℕ, ◌≤◌, ◌⊎◌, Bool, false, Result, Ok, Err, List, ◌++◌, length, refl, sym, ◌∙◌, ap, subst, inl, inr, arith}
use Rattle.tool_io.specs.declared.host.Place as place
use Rattle.tool_io.specs.declared.host.Place.TheVariants as at
use Rattle.tool_io.specs.declared.host.Put as put
use Rattle.tool_io.specs.Log.{Event, taken, given, ended_from, Writes}
use Rattle.tool_io.specs.Host.{WriteCause}
use Rattle.tool_io.specs.Cutting.{lines_of}
use Rattle.tool_io.specs.Whole.{PutAllLog}
use Rattle.tool_words.specs.declared.message.Tool.TheVariants.{C2po}
use Rattle.tool_words.specs.declared.status.Status as status
use Rattle.tool_words.specs.declared.status.Status.TheVariants as answers
use Rattle.tool_words.specs.Messages.{told_to_user}
use Rattle.tool_words.specs.Causes.{RunCause, TellsNoCall}
use Rattle.tool_words.specs.Files.{file_limit}
use Rattle.tool_words.specs.Telling.{is_used}
use Rattle.tool_words.proofs.CauseLaws.{no_call}
use Rattle.tool_words.proofs.MessageLaws.{Leaves, run_ends}
use Rattle.tool_words.proofs.UseLaws.{writes_unused}
use Rattle.c2po_cli.specs.Asking.{Ask, help, make, nothing, MakeAsked, file_kind}
use Rattle.c2po_cli.specs.Run.{Seen, seen, input_place, TriesOf, TriesInTurn, WritesAttached, names_out, MakeOutcome, HelpOutcome, NothingOutcome, OutcomeOf, CompletesBy, Ran, IsMade}
use Rattle.c2po_cli.specs.Made.{made}
use Rattle.c2po_cli.proofs.LogLaws.{unwritten, writes-append}
use Rattle.c2po_cli.proofs.GatherRuns.{same_seen}
use Rattle.c2po_cli.proofs.WrittenImages.{compiles_image}

-- bytes that are made aren't refused
not_refused : (answer : status.Status) (bytes : List ℕ) (found : Result (List ℕ) status.Status) → found ≡ Ok bytes → found ≡ Err answer → ⊥
not_refused answer bytes found is refused = let same : Ok bytes ≡ Err answer = sym is ∙ refused in cc

-- what gives bytes is done, unless out of memory
make_complete : (answer : status.Status) (asked : MakeAsked) (run : Seen) → TellsNoCall answer → (bytes : List ℕ) → length run.file ≤ file_limit (file_kind asked.product) → made asked run.file run.header ≡ Ok bytes → MakeOutcome answer asked run → (answer ≡ answers.Done) ⊎ (answer ≡ answers.Memory)
make_complete answers.Done asked run told bytes within makes is = inl refl
make_complete answers.Memory asked run told bytes within makes is = inr refl
make_complete (answers.OpenFault p) asked run told bytes within makes is = absurd told
make_complete (answers.ReadFault p) asked run told bytes within makes is = absurd told
make_complete (answers.WriteFault p) asked run told bytes within makes is = absurd told
make_complete (answers.TextTooLong at.Header) asked run told bytes within makes is = absurd (not_refused _ bytes _ makes is.refused.is)
make_complete (answers.TextTooLong at.Out) asked run told bytes within makes is = absurd (not_refused _ bytes _ makes is.refused.is)
make_complete (answers.TextTooLong p) asked run told bytes within makes is = absurd (let long = is.1 in omega (arith, long, within))
make_complete (answers.Refused line why) asked run told bytes within makes is = absurd (not_refused _ bytes _ makes is.refused.is)
make_complete (answers.BadProgram fault) asked run told bytes within makes is = absurd (not_refused _ bytes _ makes is.refused.is)
make_complete (answers.BadHeader why) asked run told bytes within makes is = absurd (not_refused _ bytes _ makes is.0.refused.is)
make_complete answer asked run told bytes within makes is = absurd is

help_complete : (answer : status.Status) (out : List ℕ) → TellsNoCall answer → HelpOutcome answer out → (answer ≡ answers.Helped) ⊎ (answer ≡ answers.Memory)
help_complete answers.Helped out told is = inl refl
help_complete answers.Memory out told is = inr refl
help_complete (answers.WriteFault p) out told is = absurd told
help_complete answer out told is = absurd is

complete_run : (asked : Ask) (answer : status.Status) (events : List Event) → TellsNoCall answer → OutcomeOf answer asked events → CompletesBy asked answer events
complete_run nothing answer events told is = tt
complete_run help answer events told is = help_complete answer (given at.Out events) told is
complete_run (make asked) answer events told is = λ bytes within makes. make_complete answer asked (seen asked events) told bytes within makes is

-- a message after a run changes nothing but what Err was given
module _ (first all : List Event) (leaves : Leaves first all) where
  all_seen : (asked : MakeAsked) → seen asked all ≡ seen asked first
  all_seen asked = same_seen leaves.names (leaves.bytes (input_place asked)) (leaves.ends (input_place asked))
      (ap (λ v. lines_of v (taken at.Header all)) (leaves.ends at.Header) ∙ ap (lines_of (ended_from false at.Header first)) (leaves.bytes at.Header)) (leaves.ends at.Header) leaves.out (leaves.attached at.Out)

  pub tries_still : (asked : Ask) (answer : status.Status) → TriesOf asked answer first → TriesOf asked answer all
  tries_still (make asked) answer tries = subst (TriesInTurn asked answer) (sym (all_seen asked)) tries
  tries_still asked answer tries = tt

  pub outcome_still : (asked : Ask) (answer : status.Status) → OutcomeOf answer asked first → OutcomeOf answer asked all
  outcome_still help answer is = subst (HelpOutcome answer) (sym leaves.out) is
  outcome_still (make asked) answer is = subst (MakeOutcome answer asked) (sym (all_seen asked)) is
  outcome_still nothing answer is = subst (NothingOutcome answer) (sym leaves.out) is

-- and it writes nothing to Out
writes_still : (first second : List Event) (sent : List ℕ) (named : Bool) → Writes at.Err sent second → WritesAttached named first → WritesAttached named (first ++ second)
writes_still first second sent named writes is = writes-append named first second is (unwritten named second (ap (is_used at.Out) writes.are ∙ writes_unused at.Out at.Err writes.pieces refl))

-- a run, and then its message
pub main_ran : (asked : Ask) (answer : status.Status) (before between now : place.Place → ℕ) (first second : List Event) (sending : put.Put) → Ran asked answer first → RunCause answer before between → WriteCause sending between now at.Err → PutAllLog sending at.Err (told_to_user C2po answer) second → IsMade asked answer before now (first ++ second)
main_ran asked answer before between now first second sending ran cause wrote log =
    let all = first ++ second in
    let ends = run_ends C2po answer before between now first second ran.quiet sending cause wrote log in
    let outcome = outcome_still first all ends.leaves asked answer ran.outcome in
    record {
      names = record { rest = ran.names.rest; split = ran.names.split ∙ ap (λ names. names ++ ran.names.rest) (sym ends.leaves.names) };
      tries = tries_still first all ends.leaves asked answer ran.tries;
      reads = λ start after p piece is. let found = ends.earlier start after p piece is in ran.reads start found.0 p piece found.1;
      writes = writes_still first second ends.sent (names_out asked) ends.writes ran.writes;
      outcome = outcome;
      image = compiles_image asked answer all outcome;
      opened = ends.opened ran.opened;
      told_user = ends.told_user;
      told_whole = ends.told_whole;
      told_last = ends.told_last;
      complete = λ none. complete_run asked answer all (no_call answer before between now cause ends.same none) outcome;
    }
