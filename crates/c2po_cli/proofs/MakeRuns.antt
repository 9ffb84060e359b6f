-- What was made is written.

use Rattle.std.proofs.Common.{◌≡◌, ℕ, ◌⊎◌, Bool, true, false, ◌||◌, Option, Some, None, is_some, Result, Ok, List, [], ◌∷◌, ◌++◌, refl, sym, ◌∙◌, ap, subst, append_assoc, inl, inr}
use Rattle.std.proofs.lemmas.List.{append-nil}
use Rattle.std.proofs.Math.Bool.{or-false}
use Rattle.tool_io.specs.declared.host.Place as place
use Rattle.tool_io.specs.declared.host.Place.TheVariants as at
use Rattle.tool_io.specs.Log.{Event, Attached, Missed, Gave, same_place, taken, given, ended_from, names_of, IsFront, Writes}
use Rattle.tool_io.specs.Cutting.{lines_of}
use Rattle.tool_io.proofs.LogLaws.{taken-append, given-append, ended_from-append, names_of-append, WritesFront-misses, Writes-given}
use Rattle.tool_words.specs.declared.status.Status as status
use Rattle.tool_words.specs.declared.status.Status.TheVariants as answers
use Rattle.tool_words.specs.Attaching.{is_attached, OpensAsTold}
use Rattle.tool_words.specs.Telling.{is_used}
use Rattle.tool_words.proofs.AttachLaws.{is_attached-append, ReadsAttached-append}
use Rattle.tool_words.proofs.FileLaws.{elsewhere, Visits, visit_gave, visit_missed, visit_none, visit_wrote}
use Rattle.tool_words.proofs.UseLaws.{Unused, unused, unused-append}
use Rattle.c2po_cli.specs.Asking.{make, MakeAsked, file_kind, place_named, read_names}
use Rattle.c2po_cli.specs.Run.{Seen, seen, input_place, is_tried, HasFaultlessText, IsOfOut, MakesFile, MakeOutcome, WritesAttached, Ran}
use Rattle.c2po_cli.specs.Phases.{Gathered, NotGathered, GivenLog, PutOutcome, PutLog}
use Rattle.c2po_cli.proofs.LogLaws.{is_tried-append, untried, unwritten, writes-append}
use Rattle.c2po_cli.proofs.GatherRuns.{same_seen}

-- nothing is to be written
pub make_refused : (asked : MakeAsked) (answer : status.Status) (events : List Event) → NotGathered asked answer events → Ran (make asked) answer events
make_refused asked answer events is =
    let untried_out = untried at.Out events is.unwritten in
    record {
      names = record { rest = is.names.rest ++ place_named at.Out asked.out; split = ap (λ ns. ns ++ place_named at.Out asked.out) is.names.split ∙ append_assoc (names_of events) is.names.rest (place_named at.Out asked.out) };
      tries = record { header = is.tries; out = λ tried. absurd (cc); out_last = λ tried. absurd (cc) };
      reads = is.reads;
      writes = unwritten (is_some asked.out) events is.unwritten;
      outcome = is.outcome;
      opened = is.opened;
      quiet = is.quiet;
    }

-- the bytes are written
module _ (asked : MakeAsked) (bytes : List ℕ) (answer : status.Status) (first second : List Event) (gathered : Gathered asked bytes first) (put : PutLog answer asked.out bytes second) where
  abbrev all : List Event
  all = first ++ second

  abbrev p : place.Place
  p = input_place asked

  abbrev before : Seen
  before = seen asked first

  abbrev after : Seen
  after = record before { names = read_names asked ++ names_of second; out = given at.Out second; attached = is_attached at.Out second }

  no_out : Unused at.Out first
  no_out = unused at.Out first gathered.unwritten

  all_taken : (q : place.Place) → same_place q at.Out ≡ false → taken q all ≡ taken q first
  all_taken q other = taken-append q first second ∙ ap (λ b. taken q first ++ b) (unused q second (put.only q other)).bytes ∙ append-nil (taken q first)

  all_ended : (q : place.Place) → same_place q at.Out ≡ false → ended_from false q all ≡ ended_from false q first
  all_ended q other = ended_from-append false q first second ∙ (unused q second (put.only q other)).ends (ended_from false q first)

  all_names : names_of all ≡ read_names asked ++ names_of second
  all_names = names_of-append first second ∙ ap (λ ns. ns ++ names_of second) gathered.names

  all_attached : is_attached at.Out all ≡ is_attached at.Out second
  all_attached = is_attached-append at.Out first second ∙ ap (λ v. v || is_attached at.Out second) no_out.attached

  seen_all : seen asked all ≡ after
  seen_all = same_seen
      all_names
      (all_taken p (elsewhere (file_kind asked.product)).not_out)
      (all_ended p (elsewhere (file_kind asked.product)).not_out)
      (ap (λ v. lines_of v (taken at.Header all)) (all_ended at.Header refl) ∙ ap (lines_of (ended_from false at.Header first)) (all_taken at.Header refl))
      (all_ended at.Header refl)
      (given-append at.Out first second ∙ ap (λ b. b ++ given at.Out second) no_out.out)
      all_attached

  -- the file and the header say the same
  makes_after : (found : Result (List ℕ) status.Status) → MakesFile asked before found → MakesFile asked after found
  makes_after found makes = record { whole = record { ended = makes.whole.ended; within = makes.whole.within }; is = makes.is; gives = makes.gives }

  after_put : (answer : status.Status) → PutOutcome answer asked.out bytes (given at.Out second) (is_attached at.Out second) → MakeOutcome answer asked after × OpensAsTold answer all × IsOfOut answer
  after_put answers.Done is = (record { bytes = subst (λ b. MakesFile asked after (Ok b)) (sym is.0) (makes_after (Ok bytes) gathered.makes); attached = is.1 }, tt, tt)
  after_put (answers.WriteFault at.Out) is = (record { whole = bytes; bytes = makes_after (Ok bytes) gathered.makes; front = is.0; attached = is.1 }, tt, tt)
  after_put (answers.OpenFault at.Out) is = (record { whole = bytes; bytes = makes_after (Ok bytes) gathered.makes; named = is.0; none_out = is.1 }, all_attached ∙ is.2, tt)
  after_put answer is = absurd is

  header_before : is_tried at.Header (names_of all) ≡ true → is_tried at.Header (names_of first) ≡ true
  header_before tried =
      sym (or-false (is_tried at.Header (names_of first))) ∙ ap (λ v. is_tried at.Header (names_of first) || v) (sym (untried at.Header second (put.only at.Header refl)))
      ∙ sym (is_tried-append at.Header (names_of first) (names_of second)) ∙ ap (is_tried at.Header) (sym (names_of-append first second)) ∙ tried

  pub make_written : Ran (make asked) answer all
  make_written = record {
    names = record { rest = put.names.rest; split = ap (λ ns. read_names asked ++ ns) put.names.split ∙ sym (append_assoc (read_names asked) (names_of second) put.names.rest) ∙ ap (λ ns. ns ++ put.names.rest) (sym all_names) };
    tries = record {
      header = λ tried. subst (HasFaultlessText asked) (sym seen_all) (let is = gathered.tries (header_before tried) in record { whole = record { ended = is.whole.ended; within = is.whole.within }; faultless = is.faultless });
      out = λ tried. (bytes, subst (λ run. MakesFile asked run (Ok bytes)) (sym seen_all) (makes_after (Ok bytes) gathered.makes));
      out_last = λ tried. (after_put answer put.outcome).2;
    };
    reads = ReadsAttached-append first second gathered.reads put.reads;
    writes = writes-append (is_some asked.out) first second (unwritten (is_some asked.out) first gathered.unwritten) put.writes;
    outcome = subst (MakeOutcome answer asked) (sym seen_all) (after_put answer put.outcome).0;
    opened = (after_put answer put.outcome).1;
    quiet = unused-append at.Err first second gathered.quiet (put.only at.Err refl);
  }

-- how the bytes are put out
attached_writes : (name : List ℕ) (log : List Event) → WritesAttached true (Attached at.Out name ∷ log)
attached_writes name log is [] after piece split = cc
attached_writes name log is (event ∷ before) after piece split =
    let first : Attached at.Out name ≡ event = cc in
    subst (λ e. is_attached at.Out (e ∷ before) ≡ true) first refl

give_outcome : (answer : status.Status) (bytes : List ℕ) (log : List Event) (out : Option (List ℕ)) (attached : Bool) → GivenLog answer bytes log → attached ≡ is_some out → PutOutcome answer out bytes (given at.Out log) attached
give_outcome answers.Done bytes log out attached writes is = (Writes-given at.Out bytes log writes, is)
give_outcome (answers.WriteFault at.Out) bytes log out attached fronts is =
    (WritesFront-misses at.Out bytes log fronts, is)
give_outcome answer bytes log out attached writes is = absurd writes

-- what went out
sent_of : (answer : status.Status) (bytes : List ℕ) (log : List Event) → GivenLog answer bytes log → (sent : List ℕ) × Writes at.Out sent log
sent_of answers.Done bytes log writes = (bytes, writes)
sent_of (answers.WriteFault at.Out) bytes log fronts = (fronts.sent, fronts.writes)
sent_of answer bytes log writes = absurd writes

put_so : (answer : status.Status) (out : Option (List ℕ)) (bytes : List ℕ) (tried : List (place.Place × List ℕ)) (opened : Bool) (events : List Event) → Visits at.Out tried [] false opened events → IsFront tried (place_named at.Out out) → WritesAttached (is_some out) events → PutOutcome answer out bytes (given at.Out events) opened → PutLog answer out bytes events
put_so answer out bytes tried opened events visit front writes outcome = record {
  names = record { rest = front.rest; split = front.split ∙ ap (λ ns. ns ++ front.rest) (sym visit.names_are) };
  reads = visit.reads;
  only = visit.only;
  writes = writes;
  outcome = subst (PutOutcome answer out bytes (given at.Out events)) (sym visit.attached) outcome;
}

pub put_plain : (answer : status.Status) (bytes : List ℕ) (log : List Event) → GivenLog answer bytes log → PutLog answer None bytes log
put_plain answer bytes log given_so =
    let sent = sent_of answer bytes log given_so in
    put_so answer None bytes [] false log (visit_gave at.Out sent.0 log sent.1) (record { rest = []; split = refl }) (λ named. absurd (cc)) (give_outcome answer bytes log None false given_so refl)

pub put_named : (answer : status.Status) (name bytes : List ℕ) (log events : List Event) → events ≡ Attached at.Out name ∷ log → GivenLog answer bytes log → PutLog answer (Some name) bytes events
put_named answer name bytes log events is given_so =
    let sent = sent_of answer bytes log given_so in
    put_so answer (Some name) bytes ((at.Out, name) ∷ []) true events (visit_wrote at.Out name sent.0 log events is sent.1) (record { rest = []; split = refl })
    (subst (WritesAttached true) (sym is) (attached_writes name log)) (subst (λ es. PutOutcome answer (Some name) bytes (given at.Out es) true) (sym is) (give_outcome answer bytes log (Some name) true given_so refl))

no_gave : (name : List ℕ) (before after : List Event) (piece : List ℕ) → Missed at.Out name ∷ [] ≡ before ++ Gave at.Out piece ∷ after → ⊥
no_gave name [] after piece split = cc
no_gave name (event ∷ []) after piece split = cc
no_gave name (event ∷ more ∷ before) after piece split = cc

pub put_missed : (name bytes : List ℕ) (events : List Event) → (events ≡ Missed at.Out name ∷ []) ⊎ (events ≡ []) → PutLog (answers.OpenFault at.Out) (Some name) bytes events
put_missed name bytes events (inl is) =
    put_so (answers.OpenFault at.Out) (Some name) bytes ((at.Out, name) ∷ []) false events (visit_missed at.Out name events is) (record { rest = []; split = refl })
    (λ named before after piece split. absurd (no_gave name before after piece (sym is ∙ split))) (refl, ap (given at.Out) is, refl)
put_missed name bytes events (inr is) =
    put_so (answers.OpenFault at.Out) (Some name) bytes [] false events (visit_none at.Out events is) (record { rest = (at.Out, name) ∷ []; split = refl })
    (unwritten true events (ap (is_used at.Out) is)) (refl, ap (given at.Out) is, refl)
