-- Which times boxes cover when a row is taken.
use Rattle.std.proofs.Common.{◌≡◌, ℕ, suc, ◌+◌, ◌-◌, ◌<◌, ◌≤◌, Bool, true, false, ◌&&◌, ◌||◌, if◌then◌else◌, nat_le, List, [], ◌∷◌, ◌++◌, inl, inr, arith, refl, subst, sym, ap, ap₂, ◌∙◌, Some}
use Rattle.std.specs.List.{slice_get}
use Rattle.std.proofs.lemmas.Bool.{cases_lt, cases_Bool}
use Rattle.std.proofs.lemmas.Bool.Decides.{nat_tests}
use Rattle.std.proofs.lemmas.List.Folds.{list_any-append}
use Rattle.std.proofs.Math.Bool.{and-false, and-true, or-false, or_assoc}
use Rattle.mltl_base.specs.declared.interval.Interval.{Interval}
use Rattle.mltl_base.specs.Meaning.{within}
use Rattle.pt_boxes.specs.declared.boxes.Span.{Span}
use Rattle.pt_boxes.specs.Spans.{SpansLieApart, SpanSince, covers, in_some, meets, prolonged, since_after, stretch_at, with_stretch, without_ended}
use Rattle.pt_boxes.proofs.Sinces.{since_after_more}
use Rattle.pt_boxes.proofs.Stretches.{without_ended-lasting, without_ended-none, without_ended-past}

-- a box that ended covers no later time
covers_past : (s : Span) (u : ℕ) → s.last < u → covers s u ≡ false
covers_past s u h = grind (arith, nat_tests)

-- nor does one that has not begun
covers_before : (s : Span) (u : ℕ) → u < s.first → covers s u ≡ false
covers_before s u h = grind (arith, nat_tests)

covers_begun : (s : Span) (u : ℕ) → u ≤ s.last → covers s u ≡ nat_le s.first u
covers_begun s u h = grind (arith, nat_tests)

-- the box that ended is not missed
pub in_some-without_ended : (n u : ℕ) (boxes : List Span) → n ≤ u → in_some (without_ended n boxes) u ≡ in_some boxes u
in_some-without_ended n u [] h = ap (λ (xs : List Span). in_some xs u) (without_ended-none n)
in_some-without_ended n u (s ∷ ss) h = elim (cases_lt s.last n) [
  | inl ended ↦ ap (λ (xs : List Span). in_some xs u) (without_ended-past n s ss ended) ∙ sym (ap (λ (b : Bool). b || in_some ss u) (covers_past s u (omega arith)))
  | inr lasts ↦ ap (λ (xs : List Span). in_some xs u) (without_ended-lasting n s ss lasts)
]

-- boxes that start later do not cover a time
none_before : (i : Interval) (n low u : ℕ) (boxes : List Span) → SpansLieApart i n low boxes → u < low → in_some boxes u ≡ false
unfolding SpansLieApart
none_before i n low u [] a h = refl
none_before i n low u (s ∷ ss) a h =
    ap₂ (λ (x y : Bool). x || y) (covers_before s u (omega (arith, a.0))) (none_before i n (s.last + 2) u ss a.4 (omega (arith, a.0, a.1)))

-- at the last row's time the oldest box decides
pub in_some_first : (i : Interval) (n : ℕ) (boxes : List Span) (s : Span) → SpansLieApart i (n + 1) 0 boxes → slice_get boxes 0 ≡ Some s → nat_le s.first n ≡ in_some boxes n
unfolding SpansLieApart
in_some_first i n [] s a e = cc
in_some_first i n (t ∷ ts) s a e =
    let same : t ≡ s = cc in
    let rest : in_some ts n ≡ false = none_before i (n + 1) (t.last + 2) n ts a.4 (omega (arith, a.2)) in
    sym (ap₂ (λ (x y : Bool). x || y) (covers_begun t n (omega (arith, a.2))) rest ∙ or-false (nat_le t.first n) ∙ ap (λ (r : Span). nat_le r.first n) same)

-- two stretches that meet or touch are one
covers_joined : (s new : Span) (u : ℕ) → s.first ≤ new.first → s.last ≤ new.last → new.first ≤ s.last + 1 → covers (record { first = s.first; last = new.last }) u ≡ (covers s u || covers new u)
covers_joined s new u from to touch = grind (arith, nat_tests)

in_some-prolonged : (i : Interval) (n low : ℕ) (new : Span) (u : ℕ) (boxes : List Span) → SpansLieApart i n low boxes → new.last + 1 ≡ n + i.hi → n + i.lo ≡ new.first + 1 → i.lo ≤ i.hi → meets new.first boxes ≡ true
    → in_some (prolonged new.last boxes) u ≡ (in_some boxes u || covers new u)
unfolding SpansLieApart meets prolonged
in_some-prolonged i n low new u [] a last first ordered met = cc
in_some-prolonged i n low new u (s ∷ []) a last first ordered met =
    let touch : new.first ≤ s.last + 1 = grind (arith, nat_tests) in
    let joined = covers_joined s new u (omega (arith, a.1, a.3)) (omega (arith, a.3)) touch in
    or-false _ ∙ joined ∙ ap (λ (b : Bool). b || covers new u) (sym (or-false (covers s u)))
in_some-prolonged i n low new u (s ∷ s' ∷ ss) a last first ordered met =
    ap (λ (b : Bool). covers s u || b) (in_some-prolonged i n (s.last + 2) new u (s' ∷ ss) a.4 last first ordered met) ∙ sym (or_assoc (covers s u) (in_some (s' ∷ ss) u) (covers new u))

-- a stretch more covers its times too
pub in_some-with_stretch : (i : Interval) (n u : ℕ) (boxes : List Span) → i.lo ≤ i.hi → SpansLieApart i (n + 1) 0 boxes → n ≤ u
    → in_some (with_stretch (stretch_at i n) boxes) u ≡ (in_some boxes u || within i (u - n))
in_some-with_stretch i n u boxes ordered a h =
    let new : Span = stretch_at i n in
    let here : covers new u ≡ within i (u - n) = grind (arith, nat_tests) in
    let P : Bool → Type 0 = λ b. in_some (if b then prolonged new.last boxes else boxes ++ new ∷ []) u ≡ (in_some boxes u || within i (u - n)) in
    elim (cases_Bool (meets new.first boxes)) [
      | inl met ↦ subst P (sym met) (in_some-prolonged i (n + 1) 0 new u boxes a (omega arith) (omega arith) ordered met ∙ ap (λ (b : Bool). in_some boxes u || b) here)
      | inr apart ↦ subst P (sym apart) (list_any-append (λ s. covers s u) boxes (new ∷ []) ∙ ap (λ (b : Bool). in_some boxes u || b) (or-false (covers new u) ∙ here))
    ]

-- what the rows told, one row on, by the old boxes
after_right : (i : Interval) (p q : ℕ → Bool) (n u : ℕ) (aged new : List Span) (left right : Bool) → p n ≡ left → q n ≡ right → in_some aged u ≡ (since_after i p q n u && left)
    → in_some new u ≡ (in_some aged u || (within i (u - n) && right)) → in_some new u ≡ since_after i p q (suc n) u
after_right i p q n u aged new left right p_is q_is aged_is new_is =
    new_is
    ∙ ap (λ (b : Bool). b || (within i (u - n) && right)) aged_is
    ∙ ap₂ (λ (x y : Bool). (since_after i p q n u && x) || (within i (u - n) && y)) (sym p_is) (sym q_is)
    ∙ sym (since_after_more i p q n u)

-- what is left of the boxes where the left operand is false, and where it is true
in_some-aged : (i : Interval) (p q : ℕ → Bool) (n u : ℕ) (boxes : List Span) (left : Bool) → SpanSince i p q n boxes → n ≤ u
    → in_some (if left then without_ended n boxes else []) u ≡ (since_after i p q n u && left)
in_some-aged i p q n u boxes true t h = in_some-without_ended n u boxes h ∙ t.each u (omega arith) ∙ sym (and-true (since_after i p q n u))
in_some-aged i p q n u boxes false t h = sym (and-false (since_after i p q n u))

in_some-opened : (i : Interval) (n u : ℕ) (boxes : List Span) (right : Bool) → i.lo ≤ i.hi → SpansLieApart i (n + 1) 0 boxes → n ≤ u
    → in_some (if right then with_stretch (stretch_at i n) boxes else boxes) u ≡ (in_some boxes u || (within i (u - n) && right))
in_some-opened i n u boxes true ordered a h = in_some-with_stretch i n u boxes ordered a h ∙ ap (λ (b : Bool). in_some boxes u || b) (sym (and-true (within i (u - n))))
in_some-opened i n u boxes false ordered a h = sym (ap (λ (b : Bool). in_some boxes u || b) (and-false (within i (u - n))) ∙ or-false (in_some boxes u))

-- the boxes after a row tell what one row more tells
pub tells_more : (i : Interval) (n : ℕ) (old aged new : List Span) (left right : Bool) → i.lo ≤ i.hi → SpansLieApart i (n + 1) 0 aged
    → aged ≡ (if left then without_ended n old else []) → new ≡ (if right then with_stretch (stretch_at i n) aged else aged)
    → (p q : ℕ → Bool) → SpanSince i p q n old → p n ≡ left → q n ≡ right → SpanSince i p q (n + 1) new
tells_more i n old aged new left right ordered apart aged_is new_is p q t p_is q_is = record {
  each = λ u h.
      let from : n ≤ u = omega arith in
      let more : suc n ≡ n + 1 = omega arith in
      subst (λ (m : ℕ). in_some new u ≡ since_after i p q m u) more
      (after_right i p q n u aged new left right p_is q_is
      (ap (λ (xs : List Span). in_some xs u) aged_is ∙ in_some-aged i p q n u old left t from)
      (ap (λ (xs : List Span). in_some xs u) new_is ∙ in_some-opened i n u aged right ordered apart from));
}
