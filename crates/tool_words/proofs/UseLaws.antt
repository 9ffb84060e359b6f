-- Which places the events of a log are at, over one log after another.

use Rattle.std.proofs.Common.{◌≡◌, ℕ, Bool, true, false, ◌||◌, if◌then◌else◌, List, [], ◌∷◌, ◌++◌, map, refl, ◌∙◌, ap}
use Rattle.tool_io.specs.declared.host.Place as place
use Rattle.tool_io.specs.Log.{Event, Attached, Missed, Took, Gave, same_place, is_empty, taken, given, ended_from}
use Rattle.tool_words.specs.Attaching.{is_attached}
use Rattle.tool_words.specs.Telling.{is_used}

-- an event at a place stands in the first or in the second
pub is_used-append : (p : place.Place) (first second : List Event) → is_used p (first ++ second) ≡ (is_used p first || is_used p second)
is_used-append p [] second = refl
is_used-append p (Attached q name ∷ first) second =
    elim (same_place p q) as (λ v. (v || is_used p (first ++ second)) ≡ ((v || is_used p first) || is_used p second)) [ true ↦ refl | false ↦ is_used-append p first second ]
is_used-append p (Missed q name ∷ first) second =
    elim (same_place p q) as (λ v. (v || is_used p (first ++ second)) ≡ ((v || is_used p first) || is_used p second)) [ true ↦ refl | false ↦ is_used-append p first second ]
is_used-append p (Took q piece ∷ first) second =
    elim (same_place p q) as (λ v. (v || is_used p (first ++ second)) ≡ ((v || is_used p first) || is_used p second)) [ true ↦ refl | false ↦ is_used-append p first second ]
is_used-append p (Gave q piece ∷ first) second =
    elim (same_place p q) as (λ v. (v || is_used p (first ++ second)) ≡ ((v || is_used p first) || is_used p second)) [ true ↦ refl | false ↦ is_used-append p first second ]

pub unused-append : (p : place.Place) (first second : List Event) → is_used p first ≡ false → is_used p second ≡ false → is_used p (first ++ second) ≡ false
unused-append p first second a b = is_used-append p first second ∙ ap (λ v. v || is_used p second) a ∙ b

-- reads, and writes, at another place
pub reads_unused : (p q : place.Place) (pieces : List (List ℕ)) → same_place p q ≡ false → is_used p (map (Took q) pieces) ≡ false
reads_unused p q [] other = refl
reads_unused p q (piece ∷ pieces) other = ap (λ v. v || is_used p (map (Took q) pieces)) other ∙ reads_unused p q pieces other

pub writes_unused : (p q : place.Place) (pieces : List (List ℕ)) → same_place p q ≡ false → is_used p (map (Gave q) pieces) ≡ false
writes_unused p q [] other = refl
writes_unused p q (piece ∷ pieces) other = ap (λ v. v || is_used p (map (Gave q) pieces)) other ∙ writes_unused p q pieces other

-- a place without an event: nothing was taken there or given, and it wasn't attached
pub record Unused (p : place.Place) (events : List Event) : Type 0 where
  pub bytes : taken p events ≡ []
  pub ends : (ended : Bool) → ended_from ended p events ≡ ended
  pub out : given p events ≡ []
  pub attached : is_attached p events ≡ false

pub neither : (a b : Bool) → (a || b) ≡ false → (a ≡ false) × (b ≡ false)
neither true b none = absurd (let no : true ≡ false = none in cc)
neither false b none = (refl, none)

pub unused : (p : place.Place) (events : List Event) → is_used p events ≡ false → Unused p events
unused p [] none = record { bytes = refl; ends = λ ended. refl; out = refl; attached = refl }
unused p (Attached q name ∷ events) none =
    let both = neither (same_place p q) (is_used p events) none in
    let rest = unused p events both.1 in
    record { bytes = rest.bytes; ends = rest.ends; out = rest.out; attached = ap (λ v. v || is_attached p events) both.0 ∙ rest.attached }
unused p (Missed q name ∷ events) none =
    let rest = unused p events (neither (same_place p q) (is_used p events) none).1 in
    record { bytes = rest.bytes; ends = rest.ends; out = rest.out; attached = rest.attached }
unused p (Took q piece ∷ events) none =
    let both = neither (same_place p q) (is_used p events) none in
    let rest = unused p events both.1 in
    record {
      bytes = ap (λ b. if b then piece ++ taken p events else taken p events) both.0 ∙ rest.bytes;
      ends = λ ended. ap (λ b. ended_from (if b then is_empty piece else ended) p events) both.0 ∙ rest.ends ended;
      out = rest.out;
      attached = rest.attached;
    }
unused p (Gave q piece ∷ events) none =
    let both = neither (same_place p q) (is_used p events) none in
    let rest = unused p events both.1 in
    record { bytes = rest.bytes; ends = rest.ends; out = ap (λ b. if b then piece ++ given p events else given p events) both.0 ∙ rest.out; attached = rest.attached }
