-- Places that a log tried or wrote, over one log after another.

use Rattle.std.proofs.Common.{◌≡◌, ℕ, Bool, true, false, ◌||◌, List, [], ◌∷◌, ◌++◌, refl, sym, ◌∙◌, ap, inl, inr}
use Rattle.tool_io.specs.declared.host.Place as place
use Rattle.tool_io.specs.declared.host.Place.TheVariants as at
use Rattle.tool_io.specs.Log.{Event, Attached, Missed, Took, Gave, same_place, names_of}
use Rattle.tool_words.specs.Attaching.{is_attached}
use Rattle.tool_words.specs.Telling.{is_used}
use Rattle.tool_words.proofs.AttachLaws.{split_at, is_attached-append, or_true}
use Rattle.tool_words.proofs.UseLaws.{is_used-append, neither}
use Rattle.c2po_cli.specs.Run.{is_tried, WritesAttached}

-- a place without an event wasn't tried
pub untried : (p : place.Place) (events : List Event) → is_used p events ≡ false → is_tried p (names_of events) ≡ false
untried p [] none = refl
untried p (Attached q name ∷ events) none =
    let both = neither (same_place p q) (is_used p events) none in ap (λ v. v || is_tried p (names_of events)) both.0 ∙ untried p events both.1
untried p (Missed q name ∷ events) none =
    let both = neither (same_place p q) (is_used p events) none in ap (λ v. v || is_tried p (names_of events)) both.0 ∙ untried p events both.1
untried p (Took q piece ∷ events) none = untried p events (neither (same_place p q) (is_used p events) none).1
untried p (Gave q piece ∷ events) none = untried p events (neither (same_place p q) (is_used p events) none).1

-- nor was it written
pub unwritten : (named : Bool) (events : List Event) → is_used at.Out events ≡ false → WritesAttached named events
unwritten named events none is before after piece split =
    absurd (let no : true ≡ false = sym (is_used-append at.Out before (Gave at.Out piece ∷ after) ∙ or_true (is_used at.Out before)) ∙ ap (is_used at.Out) (sym split) ∙ none in cc)

-- what is tried, over names after names
pub is_tried-append : (p : place.Place) (first second : List (place.Place × List ℕ)) → is_tried p (first ++ second) ≡ (is_tried p first || is_tried p second)
is_tried-append p [] second = refl
is_tried-append p (named ∷ first) second =
    elim (same_place p named.0) as (λ v. (v || is_tried p (first ++ second)) ≡ ((v || is_tried p first) || is_tried p second)) [ true ↦ refl | false ↦ is_tried-append p first second ]

-- writes of attached outputs, one log after another
pub writes-append : (named : Bool) (first second : List Event) → WritesAttached named first → WritesAttached named second → WritesAttached named (first ++ second)
writes-append named first second a b is before after piece split =
    elim (split_at first second before after (Gave at.Out piece) split) [
      | inl found ↦ a is before found.0 piece found.1
      | inr found ↦ ap (is_attached at.Out) found.1 ∙ is_attached-append at.Out first found.0 ∙ ap (λ v. is_attached at.Out first || v) (b is found.0 after piece found.2) ∙ or_true (is_attached at.Out first)
    ]
