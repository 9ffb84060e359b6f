-- What a log says of the one place that it tried, and of the others.

use Rattle.std.proofs.Common.{◌≡◌, ℕ, Bool, true, false, ◌||◌, List, [], ◌∷◌, refl, sym, ◌∙◌, ap, subst}
use Rattle.tool_io.specs.declared.host.Place as place
use Rattle.tool_io.specs.declared.host.Place.TheVariants as at
use Rattle.tool_io.specs.Log.{Event, Attached, Missed, same_place, taken, ended_from, names_of, Writes}
use Rattle.tool_io.specs.Whole.{Draws}
use Rattle.tool_io.proofs.LogLaws.{same_place-self, Reads-ended, Reads-names, Reads-taken, Writes-ended, Writes-names, Writes-taken}
use Rattle.tool_words.specs.declared.file_kind.FileKind.{FileKind}
use Rattle.tool_words.specs.declared.file_kind.FileKind.TheVariants.{Spec, Program}
use Rattle.tool_words.specs.Attaching.{is_attached, ReadsAttached}
use Rattle.tool_words.specs.Files.{file_place}
use Rattle.tool_words.specs.Telling.{is_used}
use Rattle.tool_words.proofs.AttachLaws.{file_attached, missed_none, no_reads_none, ReadsAttached-append, writes_unattached, writes_unread}
use Rattle.tool_words.proofs.UseLaws.{reads_unused, writes_unused}

-- the place of a file is none of the others
pub record Elsewhere (p : place.Place) : Type 0 where
  pub header : same_place at.Header p ≡ false
  pub not_header : same_place p at.Header ≡ false
  pub trace : same_place at.Trace p ≡ false
  pub not_trace : same_place p at.Trace ≡ false
  pub out : same_place at.Out p ≡ false
  pub not_out : same_place p at.Out ≡ false
  pub err : same_place at.Err p ≡ false

pub elsewhere : (kind : FileKind) → Elsewhere (file_place kind)
elsewhere Spec = record { header = refl; not_header = refl; trace = refl; not_trace = refl; out = refl; not_out = refl; err = refl }
elsewhere Program = record { header = refl; not_header = refl; trace = refl; not_trace = refl; out = refl; not_out = refl; err = refl }

-- all that a log says where it tried one place: the name, what was taken there, whether the end was met, and whether
-- the place was attached
pub record Visits (p : place.Place) (names : List (place.Place × List ℕ)) (bytes : List ℕ) (ended opened : Bool) (events : List Event) : Type 0 where
  pub names_are : names_of events ≡ names
  pub reads : ReadsAttached [] events
  pub takes : taken p events ≡ bytes
  pub end : ended_from false p events ≡ ended
  pub attached : is_attached p events ≡ opened
  pub only : (q : place.Place) → same_place q p ≡ false → is_used q events ≡ false

-- nothing happened there
pub visit_none : (p : place.Place) (events : List Event) → events ≡ [] → Visits p [] [] false false events
visit_none p events is = subst (Visits p [] [] false false) (sym is) (record { names_are = refl; reads = no_reads_none; takes = refl; end = refl; attached = refl; only = λ q other. refl })

-- it couldn't be attached
pub visit_missed : (p : place.Place) (name : List ℕ) (events : List Event) → events ≡ Missed p name ∷ [] → Visits p ((p, name) ∷ []) [] false false events
visit_missed p name events is =
    subst (Visits p ((p, name) ∷ []) [] false false) (sym is)
    (record { names_are = refl; reads = missed_none p name; takes = refl; end = refl; attached = refl; only = λ q other. ap (λ v. v || false) other })

-- it was attached and read
pub visit_read : (p : place.Place) (name bytes : List ℕ) (ended : Bool) (log events : List Event) → events ≡ Attached p name ∷ log → Draws p bytes ended log → Visits p ((p, name) ∷ []) bytes ended true events
visit_read p name bytes ended log events is takes =
    let pieces = takes.pieces in
    let are = takes.are in
    subst (Visits p ((p, name) ∷ []) bytes ended true) (sym is) (record {
      names_are = ap (λ names. (p, name) ∷ names) (Reads-names p pieces log are);
      reads = subst (λ l. ReadsAttached [] (Attached p name ∷ l)) (sym are) (file_attached p name pieces);
      takes = Reads-taken p pieces log are ∙ sym takes.joined;
      end = Reads-ended false p pieces log are ∙ takes.end;
      attached = ap (λ v. v || is_attached p log) (same_place-self p);
      only = λ q other. ap (λ v. v || is_used q log) other ∙ ap (is_used q) are ∙ reads_unused q p pieces other;
    })

-- it was written
pub visit_gave : (p : place.Place) (sent : List ℕ) (events : List Event) → Writes p sent events → Visits p [] [] false false events
visit_gave p sent events writes = record {
  names_are = Writes-names p sent events writes;
  reads = λ before after q piece is. absurd (writes_unread p writes.pieces before after q piece (sym writes.are ∙ is));
  takes = Writes-taken p p sent events writes;
  end = Writes-ended false p p sent events writes;
  attached = ap (is_attached p) writes.are ∙ writes_unattached p p writes.pieces;
  only = λ q other. ap (is_used q) writes.are ∙ writes_unused q p writes.pieces other;
}

-- it was attached and written
pub visit_wrote : (p : place.Place) (name sent : List ℕ) (log events : List Event) → events ≡ Attached p name ∷ log → Writes p sent log → Visits p ((p, name) ∷ []) [] false true events
visit_wrote p name sent log events is writes =
    let gave = visit_gave p sent log writes in
    subst (Visits p ((p, name) ∷ []) [] false true) (sym is) (record {
      names_are = ap (λ names. (p, name) ∷ names) gave.names_are;
      reads = ReadsAttached-append (Attached p name ∷ []) log (file_attached p name []) gave.reads;
      takes = gave.takes;
      end = gave.end;
      attached = ap (λ v. v || is_attached p log) (same_place-self p);
      only = λ q other. ap (λ v. v || is_used q log) other ∙ gave.only q other;
    })
