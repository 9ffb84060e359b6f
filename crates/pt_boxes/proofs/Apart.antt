-- Boxes stay apart, and few, when a row is taken.
use Rattle.std.proofs.Common.{◌≡◌, ℕ, ◌+◌, ◌-◌, ◌<◌, ◌≤◌, Bool, false, if◌then◌else◌, List, [], ◌∷◌, ◌++◌, length, map, inl, inr, arith, subst, sym}
use Rattle.std.proofs.lemmas.Bool.{cases_lt, cases_Bool}
use Rattle.std.proofs.lemmas.Bool.Decides.{nat_tests}
use Rattle.std.proofs.lemmas.List.{length-map}
use Rattle.mltl_base.specs.declared.interval.Interval.{Interval}
use Rattle.mltl_base.specs.Queues.{AreApart as EndApart, boxes as box_count}
use Rattle.pt_boxes.specs.declared.boxes.Span.{Span}
use Rattle.pt_boxes.specs.Spans.{SpansLieApart, meets, prolonged, stretch_at, with_stretch, without_ended}
use Rattle.pt_boxes.proofs.Stretches.{without_ended-lasting, without_ended-none, without_ended-past}

module _ (i : Interval) where
  -- a lower start for the first
  lower : (n low low' : ℕ) (boxes : List Span) → low' ≤ low → SpansLieApart i n low boxes → SpansLieApart i n low' boxes
  unfolding SpansLieApart
  lower n low low' [] h a = tt
  lower n low low' (s ∷ ss) h a = (omega (arith, a.0), a.1, a.2, a.3, a.4)

  -- boxes that start late enough end late enough for one more row
  later : (n low : ℕ) (boxes : List Span) → n ≤ low → SpansLieApart i n low boxes → SpansLieApart i (n + 1) low boxes
  unfolding SpansLieApart
  later n low [] h a = tt
  later n low (s ∷ ss) h a =
      (a.0, a.1, omega (arith, a.0, a.1), omega (arith, a.3), later n (s.last + 2) ss (omega (arith, a.0, a.1)) a.4)

  -- without the one that ended
  pub apart_without_ended : (n : ℕ) (boxes : List Span) → SpansLieApart i n 0 boxes → SpansLieApart i (n + 1) 0 (without_ended n boxes)
  unfolding SpansLieApart
  apart_without_ended n [] a = subst (λ (xs : List Span). SpansLieApart i (n + 1) 0 xs) (sym (without_ended-none n)) tt
  apart_without_ended n (s ∷ ss) a = elim (cases_lt s.last n) [
    | inl ended ↦
        subst (λ (xs : List Span). SpansLieApart i (n + 1) 0 xs) (sym (without_ended-past n s ss ended))
        (lower (n + 1) (s.last + 2) 0 ss (omega arith) (later n (s.last + 2) ss (omega (arith, a.2)) a.4))
    | inr lasts ↦
        subst (λ (xs : List Span). SpansLieApart i (n + 1) 0 xs) (sym (without_ended-lasting n s ss lasts))
        (omega arith, a.1, omega arith, omega (arith, a.3), later n (s.last + 2) ss (omega arith) a.4)
  ]

  -- with a later end of the newest
  apart_prolonged : (n low last : ℕ) (boxes : List Span) → last + 1 ≡ n + i.hi → n ≤ last + 1 → SpansLieApart i n low boxes → SpansLieApart i n low (prolonged last boxes)
  unfolding SpansLieApart prolonged
  apart_prolonged n low last [] e from a = tt
  apart_prolonged n low last (s ∷ []) e from a = (a.0, omega (arith, a.1, a.3), from, omega arith, tt)
  apart_prolonged n low last (s ∷ s' ∷ ss) e from a = (a.0, a.1, a.2, a.3, apart_prolonged n (s.last + 2) last (s' ∷ ss) e from a.4)

  -- with one more after
  apart_push : (n low : ℕ) (new s : Span) (ss : List Span) → new.first + (i.hi - i.lo) ≤ new.last → n ≤ new.last + 1 → new.last < n + i.hi → meets new.first (s ∷ ss) ≡ false
      → SpansLieApart i n low (s ∷ ss) → SpansLieApart i n low ((s ∷ ss) ++ new ∷ [])
  unfolding SpansLieApart meets
  apart_push n low new s [] long from to apart a =
      let gap : s.last + 2 ≤ new.first = grind (arith, nat_tests) in
      (a.0, a.1, a.2, a.3, (gap, long, from, to, tt))
  apart_push n low new s (s' ∷ ss) long from to apart a = (a.0, a.1, a.2, a.3, apart_push n (s.last + 2) new s' ss long from to apart a.4)

  apart_after : (n : ℕ) (new : Span) (boxes : List Span) → new.first + (i.hi - i.lo) ≤ new.last → n ≤ new.last + 1 → new.last < n + i.hi → meets new.first boxes ≡ false
      → SpansLieApart i n 0 boxes → SpansLieApart i n 0 (boxes ++ new ∷ [])
  unfolding SpansLieApart
  apart_after n new [] long from to apart a = (omega arith, long, from, to, tt)
  apart_after n new (s ∷ ss) long from to apart a = apart_push n 0 new s ss long from to apart a

  -- with the stretch of a row
  pub apart_with_stretch : (n : ℕ) (boxes : List Span) → i.lo ≤ i.hi → SpansLieApart i (n + 1) 0 boxes → SpansLieApart i (n + 1) 0 (with_stretch (stretch_at i n) boxes)
  apart_with_stretch n boxes ordered a =
      let new : Span = stretch_at i n in
      let P : Bool → Type 0 = λ b. SpansLieApart i (n + 1) 0 (if b then prolonged new.last boxes else boxes ++ new ∷ []) in
      elim (cases_Bool (meets new.first boxes)) [
        | inl met ↦ subst P (sym met) (apart_prolonged (n + 1) 0 new.last boxes (omega arith) (omega arith) a)
        | inr apart ↦ subst P (sym apart) (apart_after (n + 1) new boxes (omega arith) (omega arith) (omega arith) apart a)
      ]

  -- their ends are apart
  ends_apart : (n low b : ℕ) (boxes : List Span) → SpansLieApart i (n + 1) low boxes → ((s : Span) → low ≤ s.first → s.first + (i.hi - i.lo) ≤ s.last → n ≤ s.last → b ≤ s.last) → EndApart (i.hi - i.lo + 2) b (n + i.hi) (map (λ s. s.last) boxes)
  unfolding SpansLieApart EndApart
  ends_apart n low b [] a h = tt
  ends_apart n low b (s ∷ ss) a h =
      (h s a.0 a.1 (omega (arith, a.2)), omega (arith, a.3), ends_apart n (s.last + 2) (s.last + (i.hi - i.lo + 2)) ss a.4 (λ t from long lasts. omega (arith, from, long)))

  -- so there are few, by the law of ends
  pub few_apart : (n : ℕ) (boxes : List Span) → i.lo ≤ i.hi → ((i : Interval) (low : ℕ) (ends : List ℕ) → i.lo ≤ i.hi → EndApart (i.hi - i.lo + 2) low (low + i.hi) ends → length ends ≤ box_count i)
      → SpansLieApart i (n + 1) 0 boxes → length boxes ≤ box_count i
  few_apart n boxes ordered law a =
      let few : length (map (λ (s : Span). s.last) boxes) ≤ box_count i = law i n (map (λ s. s.last) boxes) ordered (ends_apart n 0 n boxes a (λ s from long lasts. lasts)) in
      let same : length (map (λ (s : Span). s.last) boxes) ≡ length boxes = length-map boxes (λ s. s.last) in
      subst (λ (k : ℕ). k ≤ box_count i) same few

  -- no boxes are apart
  pub none_apart : (n : ℕ) → SpansLieApart i n 0 []
  unfolding SpansLieApart
  none_apart n = tt
