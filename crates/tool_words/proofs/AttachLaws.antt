-- Which places a log attached, over one log after another.

use Rattle.std.proofs.Common.{◌≡◌, ℕ, ◌⊎◌, Bool, true, false, ◌||◌, List, [], ◌∷◌, ◌++◌, map, refl, sym, ◌∙◌, ap, subst, inl, inr}
use Rattle.std.proofs.Math.Bool.{or-false}
use Rattle.tool_io.specs.declared.host.Place as place
use Rattle.tool_io.specs.Log.{Event, Attached, Missed, Took, Gave, same_place}
use Rattle.tool_io.proofs.LogLaws.{same_place-self}
use Rattle.tool_words.specs.declared.status.Status as status
use Rattle.tool_words.specs.Attaching.{is_attached, ReadsAttached, OpensAsTold}

-- an event among events before others stands in the first or in the second
pub split_at : (first second before after : List Event) (event : Event) → first ++ second ≡ before ++ event ∷ after → ((rest : List Event) × (first ≡ before ++ event ∷ rest)) ⊎ ((rest : List Event) × (before ≡ first ++ rest) × (second ≡ rest ++ event ∷ after))
split_at [] second before after event is = inr (before, refl, is)
split_at (e ∷ first) second [] after event is =
    let same : e ≡ event = cc in
    inl (first, ap (λ x. x ∷ first) same)
split_at (e ∷ first) second (b ∷ before) after event is =
    let same : e ≡ b = cc in
    let rest : first ++ second ≡ before ++ event ∷ after = cc in
    elim (split_at first second before after event rest) [
      | inl found ↦ inl (found.0, ap (λ x. x ∷ first) same ∙ ap (λ xs. b ∷ xs) found.1)
      | inr found ↦ inr (found.0, ap (λ xs. b ∷ xs) found.1 ∙ ap (λ x. x ∷ (first ++ found.0)) (sym same), found.2)
    ]

-- what is attached stays so
pub is_attached-append : (p : place.Place) (first second : List Event) → is_attached p (first ++ second) ≡ (is_attached p first || is_attached p second)
is_attached-append p [] second = refl
is_attached-append p (Attached q name ∷ first) second =
    elim (same_place p q) as (λ v. (v || is_attached p (first ++ second)) ≡ ((v || is_attached p first) || is_attached p second)) [ true ↦ refl | false ↦ is_attached-append p first second ]
is_attached-append p (Missed q name ∷ first) second = is_attached-append p first second
is_attached-append p (Took q name ∷ first) second = is_attached-append p first second
is_attached-append p (Gave q name ∷ first) second = is_attached-append p first second

pub or_true : (b : Bool) → (b || true) ≡ true
or_true true = refl
or_true false = refl

-- reads of attached places, one log after another
pub ReadsAttached-append : (first second : List Event) → ReadsAttached [] first → ReadsAttached [] second → ReadsAttached [] (first ++ second)
ReadsAttached-append first second a b before after p piece is =
    elim (split_at first second before after (Took p piece) is) [
      | inl found ↦ a before found.0 p piece found.1
      | inr found ↦ ap (is_attached p) found.1 ∙ is_attached-append p first found.0 ∙ ap (λ v. is_attached p first || v) (b found.0 after p piece found.2) ∙ or_true (is_attached p first)
    ]

-- a place that wasn't attached wasn't read
pub unattached_unread : (p : place.Place) (events : List Event) → ReadsAttached [] events → is_attached p events ≡ false → (before after : List Event) (piece : List ℕ) → events ≡ before ++ Took p piece ∷ after → ⊥
unattached_unread p events reads none before after piece is =
    let no : true ≡ false = sym (ap (is_attached p) is ∙ is_attached-append p before (Took p piece ∷ after) ∙ ap (λ v. v || is_attached p after) (reads before after p piece is)) ∙ none in cc

-- what reading a file tells
pub file_reads : (q : place.Place) (before after : List Event) (pieces : List (List ℕ)) (p : place.Place) (piece : List ℕ) → map (Took q) pieces ≡ before ++ Took p piece ∷ after → p ≡ q
file_reads q [] after [] p piece is = cc
file_reads q [] after (first ∷ pieces) p piece is = cc
file_reads q (event ∷ before) after [] p piece is = cc
file_reads q (event ∷ before) after (first ∷ pieces) p piece is = file_reads q before after pieces p piece (let rest : map (Took q) pieces ≡ before ++ Took p piece ∷ after = cc in rest)

pub file_attached : (q : place.Place) (name : List ℕ) (pieces : List (List ℕ)) → ReadsAttached [] (Attached q name ∷ map (Took q) pieces)
file_attached q name pieces [] after p piece is = cc
file_attached q name pieces (event ∷ before) after p piece is =
    let first : Attached q name ≡ event = cc in
    let rest : map (Took q) pieces ≡ before ++ Took p piece ∷ after = cc in
    subst (λ e. is_attached p (e ∷ before) ≡ true) first
    (subst (λ r. is_attached r (Attached q name ∷ before) ≡ true) (sym (file_reads q before after pieces p piece rest)) (ap (λ v. v || is_attached q before) (same_place-self q)))

-- nothing is read where nothing happens, or where an attach fails
pub no_reads_none : ReadsAttached [] []
no_reads_none [] after p piece is = cc
no_reads_none (event ∷ before) after p piece is = cc

pub missed_none : (q : place.Place) (name : List ℕ) → ReadsAttached [] (Missed q name ∷ [])
missed_none q name [] after p piece is = cc
missed_none q name (event ∷ []) after p piece is = cc
missed_none q name (event ∷ more ∷ before) after p piece is = cc

-- writes read nothing
pub writes_unread : (q : place.Place) (pieces : List (List ℕ)) (before after : List Event) (p : place.Place) (piece : List ℕ) → map (Gave q) pieces ≡ before ++ Took p piece ∷ after → ⊥
writes_unread q [] [] after p piece is = cc
writes_unread q [] (event ∷ before) after p piece is = cc
writes_unread q (first ∷ pieces) [] after p piece is = cc
writes_unread q (first ∷ pieces) (event ∷ before) after p piece is = writes_unread q pieces before after p piece (let rest : map (Gave q) pieces ≡ before ++ Took p piece ∷ after = cc in rest)

-- writes attach nothing
pub writes_unattached : (p q : place.Place) (pieces : List (List ℕ)) → is_attached p (map (Gave q) pieces) ≡ false
writes_unattached p q [] = refl
writes_unattached p q (piece ∷ pieces) = writes_unattached p q pieces

pub opened_still : (answer : status.Status) (first second : List Event) → ((p : place.Place) → is_attached p second ≡ false) → OpensAsTold answer first → OpensAsTold answer (first ++ second)
opened_still (status.TheVariants.OpenFault p) first second none is = is_attached-append p first second ∙ ap (λ v. is_attached p first || v) (none p) ∙ or-false (is_attached p first) ∙ is
opened_still (status.TheVariants.ReadFault p) first second none is = is_attached-append p first second ∙ ap (λ v. is_attached p first || v) (none p) ∙ or-false (is_attached p first) ∙ is
opened_still answer first second none is = tt
