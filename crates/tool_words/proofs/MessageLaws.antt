-- A message after a run: what it leaves as it was, and what is out of it.

use Rattle.std.proofs.Common.{◌≡◌, ◌≢◌, ℕ, false, ◌||◌, List, [], ◌∷◌, ◌++◌, refl, sym, ◌∙◌, ap, inl, inr}
use Rattle.std.proofs.lemmas.List.{append-nil}
use Rattle.tool_io.specs.declared.host.Place as place
use Rattle.tool_io.specs.declared.host.Place.TheVariants as at
use Rattle.tool_io.specs.declared.host.Put as put
use Rattle.tool_io.specs.Host.{WriteCause}
use Rattle.tool_io.specs.Log.{Event, Took, taken, given, ended_from, names_of, IsFront, Writes}
use Rattle.tool_io.specs.Whole.{PutAllLog}
use Rattle.tool_io.proofs.LogLaws.{taken-append, given-append, ended_from-append, names_of-append, Writes-given, Writes-given_elsewhere, Writes-taken, Writes-names, Writes-ended}
use Rattle.tool_words.specs.declared.message.Tool.{Tool}
use Rattle.tool_words.specs.declared.status.Status.{Status}
use Rattle.tool_words.specs.Attaching.{is_attached, OpensAsTold}
use Rattle.tool_words.specs.Causes.{RunCause}
use Rattle.tool_words.specs.Messages.{told_to_user}
use Rattle.tool_words.specs.Telling.{is_used, ToldWhole, MessageLast}
use Rattle.std.proofs.Math.Bool.{or-false}
use Rattle.tool_words.proofs.AttachLaws.{is_attached-append, opened_still, split_at, writes_unattached, writes_unread}
use Rattle.tool_words.proofs.CauseLaws.{err_stays, message_rose}
use Rattle.tool_words.proofs.UseLaws.{unused}

-- what a log has as one before it had
pub record Leaves (first all : List Event) : Type 0 where
  pub bytes : (p : place.Place) → taken p all ≡ taken p first
  pub ends : (p : place.Place) → ended_from false p all ≡ ended_from false p first
  pub out : given at.Out all ≡ given at.Out first
  pub names : names_of all ≡ names_of first
  pub attached : (p : place.Place) → is_attached p all ≡ is_attached p first

-- a run and its message: what stays, and what is out on Err
pub record Ends (tool : Tool) (answer : Status) (before between now : place.Place → ℕ) (first second : List Event) : Type 0 where
  pub sent : List ℕ
  pub writes : Writes at.Err sent second
  pub leaves : Leaves first (first ++ second)
  pub same : (q : place.Place) → q ≢ at.Err → now q ≡ between q
  pub earlier : (before after : List Event) (p : place.Place) (piece : List ℕ) → first ++ second ≡ before ++ Took p piece ∷ after → (rest : List Event) × (first ≡ before ++ Took p piece ∷ rest)
  pub opened : OpensAsTold answer first → OpensAsTold answer (first ++ second)
  pub told_user : IsFront (given at.Err (first ++ second)) (told_to_user tool answer)
  pub told_whole : ToldWhole tool answer (before at.Err) (now at.Err) (first ++ second)
  pub told_last : MessageLast (first ++ second)

module _ (tool : Tool) (answer : Status) (before between now : place.Place → ℕ) (first second : List Event) (quiet : is_used at.Err first ≡ false) where
  sent_is : (sent : List ℕ) → Writes at.Err sent second → given at.Err (first ++ second) ≡ sent
  sent_is sent writes = given-append at.Err first second ∙ ap (λ b. b ++ given at.Err second) (unused at.Err first quiet).out ∙ Writes-given at.Err sent second writes

  ends_by : (sent unsent : List ℕ) → Writes at.Err sent second → told_to_user tool answer ≡ sent ++ unsent → ((q : place.Place) → q ≢ at.Err → now q ≡ between q) → ToldWhole tool answer (before at.Err) (now at.Err) (first ++ second) → Ends tool answer before between now first second
  ends_by sent unsent writes split same whole =
      let unattached = λ (p : place.Place). ap (is_attached p) writes.are ∙ writes_unattached p at.Err writes.pieces in
      record {
        sent = sent;
        writes = writes;
        leaves = record {
          bytes = λ p. taken-append p first second ∙ ap (λ b. taken p first ++ b) (Writes-taken at.Err p sent second writes) ∙ append-nil (taken p first);
          ends = λ p. ended_from-append false p first second ∙ Writes-ended (ended_from false p first) at.Err p sent second writes;
          out = given-append at.Out first second ∙ ap (λ b. given at.Out first ++ b) (Writes-given_elsewhere at.Err at.Out sent second refl writes) ∙ append-nil (given at.Out first);
          names = names_of-append first second ∙ ap (λ names. names_of first ++ names) (Writes-names at.Err sent second writes) ∙ append-nil (names_of first);
          attached = λ p. is_attached-append p first second ∙ ap (λ v. is_attached p first || v) (unattached p) ∙ or-false (is_attached p first);
        };
        same = same;
        earlier = λ before after p piece is. elim (split_at first second before after (Took p piece) is) [
          | inl found ↦ found
          | inr found ↦ absurd (writes_unread at.Err writes.pieces found.0 after p piece (sym writes.are ∙ found.2))
        ];
        opened = opened_still answer first second unattached;
        told_user = record { rest = unsent; split = split ∙ ap (λ b. b ++ unsent) (sym (sent_is sent writes)) };
        told_whole = whole;
        told_last = record { run = first; pieces = writes.pieces; split = ap (λ sends. first ++ sends) writes.are; unused = quiet };
      }

  pub run_ends : (sending : put.Put) → RunCause answer before between → WriteCause sending between now at.Err → PutAllLog sending at.Err (told_to_user tool answer) second → Ends tool answer before between now first second
  run_ends (put.TheVariants.Wrote n) cause wrote writes =
      let text = told_to_user tool answer in
      ends_by text [] writes (sym (append-nil text)) (λ q other. wrote q) (λ unrisen. sent_is text writes)
  run_ends put.TheVariants.Failed cause failed front =
      ends_by front.sent front.unsent front.writes front.split (λ q other. failed.others q other)
      (λ unrisen. absurd (unrisen (message_rose before between now (err_stays answer before between cause) failed)))
