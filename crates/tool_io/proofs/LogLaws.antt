-- Laws of the log: one after another, calls make one log, and what each kind of log takes and gives.
use Rattle.std.proofs.Common.{◌≡◌, ℕ, Bool, true, false, if◌then◌else◌, Option, Some, None, List, [], ◌∷◌, ◌++◌, map, refl, sym, ◌∙◌, ap, append_assoc}
use Rattle.std.proofs.lemmas.List.{append-nil, map-append}
use Rattle.std.proofs.lemmas.List.Folds.{concat-append}
use Rattle.std.specs.List.{concat}
use Rattle.tool_io.specs.declared.host.Place.{Place}
use Rattle.tool_io.specs.declared.host.Place.TheVariants.{Spec}
use Rattle.tool_io.specs.Log.{Event, Attached, Missed, Took, Gave, IsProperFront, same_place, taken, given, is_empty, ended_from, names_of, Appends, OnLog, Reads, meets_end, Writes, WritesFront}

-- no event
pub Appends-none : (before : Option (List Event)) → Appends before before []
Appends-none None = tt
Appends-none (Some before) = ap Some (sym (append-nil before))

-- events after events
pub Appends-then : (before between now : Option (List Event)) (first second : List Event) → Appends before between first → Appends between now second → Appends before now (first ++ second)
Appends-then None between now first second a b = tt
Appends-then (Some before) None now first second a b = cc
Appends-then (Some before) (Some between) now first second a b =
    let same : between ≡ before ++ first = cc in
    b ∙ ap (λ events. Some (events ++ second)) same ∙ ap Some (append_assoc before first second)

-- a log of no call
pub OnLog-none : (before : Option (List Event)) (P : List Event → Type 0) → P [] → OnLog before before P
OnLog-none before P holds = record { events = []; appended = Appends-none before; holds = holds }

-- the log of one call and then of another
pub OnLog-then : {P Q : List Event → Type 0} (before between now : Option (List Event)) (R : List Event → Type 0) → OnLog before between P → OnLog between now Q → ((first second : List Event) → P first → Q second → R (first ++ second)) → OnLog before now R
OnLog-then before between now R a b join =
    record {
      events = a.events ++ b.events;
      appended = Appends-then before between now a.events b.events a.appended b.appended;
      holds = join a.events b.events a.holds b.holds;
    }

-- what follows for the same log
pub OnLog-map : {P : List Event → Type 0} (before now : Option (List Event)) (Q : List Event → Type 0) → OnLog before now P → ((events : List Event) → P events → Q events) → OnLog before now Q
OnLog-map before now Q a change = record { events = a.events; appended = a.appended; holds = change a.events a.holds }

-- a place is itself
pub same_place-self : (p : Place) → same_place p p ≡ true
same_place-self Spec = refl
same_place-self _ = refl

pub taken-append : (p : Place) (first second : List Event) → taken p (first ++ second) ≡ taken p first ++ taken p second
taken-append p [] second = refl
taken-append p (Took q bytes ∷ events) second =
    elim (same_place p q) as (λ v. (if v then bytes ++ taken p (events ++ second) else taken p (events ++ second)) ≡ (if v then bytes ++ taken p events else taken p events) ++ taken p second) [
      | true ↦ ap (λ rest. bytes ++ rest) (taken-append p events second) ∙ sym (append_assoc bytes (taken p events) (taken p second))
      | false ↦ taken-append p events second
    ]
taken-append p (Attached q name ∷ events) second = taken-append p events second
taken-append p (Missed q name ∷ events) second = taken-append p events second
taken-append p (Gave q bytes ∷ events) second = taken-append p events second

pub given-append : (p : Place) (first second : List Event) → given p (first ++ second) ≡ given p first ++ given p second
given-append p [] second = refl
given-append p (Gave q bytes ∷ events) second =
    elim (same_place p q) as (λ v. (if v then bytes ++ given p (events ++ second) else given p (events ++ second)) ≡ (if v then bytes ++ given p events else given p events) ++ given p second) [
      | true ↦ ap (λ rest. bytes ++ rest) (given-append p events second) ∙ sym (append_assoc bytes (given p events) (given p second))
      | false ↦ given-append p events second
    ]
given-append p (Attached q name ∷ events) second = given-append p events second
given-append p (Missed q name ∷ events) second = given-append p events second
given-append p (Took q bytes ∷ events) second = given-append p events second

pub names_of-append : (first second : List Event) → names_of (first ++ second) ≡ names_of first ++ names_of second
names_of-append [] second = refl
names_of-append (Attached q name ∷ events) second = ap (λ rest. (q, name) ∷ rest) (names_of-append events second)
names_of-append (Missed q name ∷ events) second = ap (λ rest. (q, name) ∷ rest) (names_of-append events second)
names_of-append (Took q bytes ∷ events) second = names_of-append events second
names_of-append (Gave q bytes ∷ events) second = names_of-append events second

pub ended_from-append : (ended : Bool) (p : Place) (first second : List Event) → ended_from ended p (first ++ second) ≡ ended_from (ended_from ended p first) p second
ended_from-append ended p [] second = refl
ended_from-append ended p (Took q piece ∷ events) second = ended_from-append (if same_place p q then is_empty piece else ended) p events second
ended_from-append ended p (Gave q piece ∷ events) second = ended_from-append ended p events second
ended_from-append ended p (Attached q name ∷ events) second = ended_from-append ended p events second
ended_from-append ended p (Missed q name ∷ events) second = ended_from-append ended p events second

pub meets_end-append : (ended : Bool) (first second : List (List ℕ)) → meets_end ended (first ++ second) ≡ meets_end (meets_end ended first) second
meets_end-append ended [] second = refl
meets_end-append ended (piece ∷ pieces) second = meets_end-append (is_empty piece) pieces second

-- reads after reads
pub Reads-then : (place : Place) (first second : List (List ℕ)) (a b : List Event) → Reads place first a → Reads place second b → Reads place (first ++ second) (a ++ b)
Reads-then place first second a b one two = ap (λ events. events ++ b) one ∙ ap (λ events. map (Took place) first ++ events) two ∙ sym (map-append (Took place) first second)

-- no write
pub Writes-none : (place : Place) → Writes place [] []
Writes-none place = record { pieces = []; are = refl; joined = refl }

-- one write
pub Writes-one : (place : Place) (bytes : List ℕ) → Writes place bytes (Gave place bytes ∷ [])
Writes-one place bytes = record { pieces = bytes ∷ []; are = refl; joined = sym (append-nil bytes) }

-- writes after writes
pub Writes-then : (place : Place) (x y : List ℕ) (a b : List Event) → Writes place x a → Writes place y b → Writes place (x ++ y) (a ++ b)
Writes-then place x y a b one two =
    record {
      pieces = one.pieces ++ two.pieces;
      are = ap (λ events. events ++ b) one.are ∙ ap (λ events. map (Gave place) one.pieces ++ events) two.are ∙ sym (map-append (Gave place) one.pieces two.pieces);
      joined = ap (λ bytes. bytes ++ y) one.joined ∙ ap (λ bytes. concat one.pieces ++ bytes) two.joined ∙ sym (concat-append one.pieces two.pieces);
    }

-- a front after whole bytes
pub WritesFront-then : (place : Place) (x y : List ℕ) (a b : List Event) → Writes place x a → WritesFront place y b → WritesFront place (x ++ y) (a ++ b)
WritesFront-then place x y a b one two =
    record {
      sent = x ++ two.sent;
      unsent = two.unsent;
      split = ap (λ bytes. x ++ bytes) two.split ∙ sym (append_assoc x two.sent two.unsent);
      misses = two.misses;
      writes = Writes-then place x two.sent a b one two.writes;
    }

-- what reads take, give, name and meet
took-taken : (place : Place) (pieces : List (List ℕ)) → taken place (map (Took place) pieces) ≡ concat pieces
took-taken place [] = refl
took-taken place (piece ∷ pieces) = rw (same_place-self place) (ap (λ rest. piece ++ rest) (took-taken place pieces))

pub Reads-taken : (place : Place) (pieces : List (List ℕ)) (events : List Event) → Reads place pieces events → taken place events ≡ concat pieces
Reads-taken place pieces events reads = ap (taken place) reads ∙ took-taken place pieces

took-given : (place p : Place) (pieces : List (List ℕ)) → given p (map (Took place) pieces) ≡ []
took-given place p [] = refl
took-given place p (piece ∷ pieces) = took-given place p pieces

pub Reads-given : (place p : Place) (pieces : List (List ℕ)) (events : List Event) → Reads place pieces events → given p events ≡ []
Reads-given place p pieces events reads = ap (given p) reads ∙ took-given place p pieces

took-names : (place : Place) (pieces : List (List ℕ)) → names_of (map (Took place) pieces) ≡ []
took-names place [] = refl
took-names place (piece ∷ pieces) = took-names place pieces

pub Reads-names : (place : Place) (pieces : List (List ℕ)) (events : List Event) → Reads place pieces events → names_of events ≡ []
Reads-names place pieces events reads = ap names_of reads ∙ took-names place pieces

took-ended : (ended : Bool) (place : Place) (pieces : List (List ℕ)) → ended_from ended place (map (Took place) pieces) ≡ meets_end ended pieces
took-ended ended place [] = refl
took-ended ended place (piece ∷ pieces) = ap (λ v. ended_from (if v then is_empty piece else ended) place (map (Took place) pieces)) (same_place-self place) ∙ took-ended (is_empty piece) place pieces

pub Reads-ended : (ended : Bool) (place : Place) (pieces : List (List ℕ)) (events : List Event) → Reads place pieces events → ended_from ended place events ≡ meets_end ended pieces
Reads-ended ended place pieces events reads = ap (ended_from ended place) reads ∙ took-ended ended place pieces

-- what writes give, take, name and meet
gave-given : (place : Place) (pieces : List (List ℕ)) → given place (map (Gave place) pieces) ≡ concat pieces
gave-given place [] = refl
gave-given place (piece ∷ pieces) = rw (same_place-self place) (ap (λ rest. piece ++ rest) (gave-given place pieces))

pub Writes-given : (place : Place) (bytes : List ℕ) (events : List Event) → Writes place bytes events → given place events ≡ bytes
Writes-given place bytes events writes = ap (given place) writes.are ∙ gave-given place writes.pieces ∙ sym writes.joined

-- the front that was written of these bytes misses some of them
pub WritesFront-misses : (place : Place) (bytes : List ℕ) (events : List Event) → WritesFront place bytes events → IsProperFront (given place events) bytes
WritesFront-misses place bytes events front = record {
  rest = front.unsent;
  split = front.split ∙ ap (λ sent. sent ++ front.unsent) (sym (Writes-given place front.sent events front.writes));
  misses = front.misses;
}

gave-elsewhere : (place p : Place) (pieces : List (List ℕ)) → same_place p place ≡ false → given p (map (Gave place) pieces) ≡ []
gave-elsewhere place p [] other = refl
gave-elsewhere place p (piece ∷ pieces) other = rw other (gave-elsewhere place p pieces other)

pub Writes-given_elsewhere : (place p : Place) (bytes : List ℕ) (events : List Event) → same_place p place ≡ false → Writes place bytes events → given p events ≡ []
Writes-given_elsewhere place p bytes events other writes = ap (given p) writes.are ∙ gave-elsewhere place p writes.pieces other

gave-taken : (place p : Place) (pieces : List (List ℕ)) → taken p (map (Gave place) pieces) ≡ []
gave-taken place p [] = refl
gave-taken place p (piece ∷ pieces) = gave-taken place p pieces

pub Writes-taken : (place p : Place) (bytes : List ℕ) (events : List Event) → Writes place bytes events → taken p events ≡ []
Writes-taken place p bytes events writes = ap (taken p) writes.are ∙ gave-taken place p writes.pieces

gave-names : (place : Place) (pieces : List (List ℕ)) → names_of (map (Gave place) pieces) ≡ []
gave-names place [] = refl
gave-names place (piece ∷ pieces) = gave-names place pieces

pub Writes-names : (place : Place) (bytes : List ℕ) (events : List Event) → Writes place bytes events → names_of events ≡ []
Writes-names place bytes events writes = ap names_of writes.are ∙ gave-names place writes.pieces

gave-ended : (ended : Bool) (place p : Place) (pieces : List (List ℕ)) → ended_from ended p (map (Gave place) pieces) ≡ ended
gave-ended ended place p [] = refl
gave-ended ended place p (piece ∷ pieces) = gave-ended ended place p pieces

pub Writes-ended : (ended : Bool) (place p : Place) (bytes : List ℕ) (events : List Event) → Writes place bytes events → ended_from ended p events ≡ ended
Writes-ended ended place p bytes events writes = ap (ended_from ended p) writes.are ∙ gave-ended ended place p writes.pieces
