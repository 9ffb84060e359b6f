-- Where names stand, when one more is put after them.
use Rattle.std.proofs.Common.{◌≡◌, ◌≤◌, ◌+◌, inl, inr, ℕ, suc, Bool, true, false, cond, List, [], ◌∷◌, ◌++◌, length, Option, None, Some, is_some, refl, arith, sym, ◌∙◌, ap, ◌==◌}
use Rattle.std.specs.Prelude.{nat_lt, not, ◌||◌}
use Rattle.std.specs.Str.{bytes_eq}
use Rattle.std.proofs.lemmas.Bool.{cases_Bool, cases_lt, lt-ltb, le-ltb, ltb-true, false_from_ne_true, ne_eqb}
use Rattle.std.proofs.lemmas.List.Sums.{sum_by_push, sum_by-cons}
use Rattle.std.proofs.lemmas.Slice.Eq.{bytes_eq-Decides}
use Rattle.std.proofs.Math.Bool.{or-true, or-false}
use Rattle.mltl_base.specs.Tables.{Table, entry_of, is_named}
use Rattle.trace_columns.specs.Header.{first_place, times}
use Rattle.trace_columns.specs.Places.{AreColumnPlaces, column_of}
use Rattle.trace_columns.specs.declared.names.Places.{Places}

-- tables with one more entry
entry_step : {V : Type 0} (x : List ℕ) (d e : List ℕ × V) (es : Table V) (b : Bool) → entry_of x (es ++ e ∷ []) ≡ cond (is_some (entry_of x es)) (entry_of x es) (cond (bytes_eq x e.0) (Some e.1) None)
    → cond b (Some d.1) (entry_of x (es ++ e ∷ [])) ≡ cond (is_some (cond b (Some d.1) (entry_of x es))) (cond b (Some d.1) (entry_of x es)) (cond (bytes_eq x e.0) (Some e.1) None)
entry_step x d e es true rest = refl
entry_step x d e es false rest = rest

entry_push : {V : Type 0} (x : List ℕ) (es : Table V) (e : List ℕ × V) → entry_of x (es ++ e ∷ []) ≡ cond (is_some (entry_of x es)) (entry_of x es) (cond (bytes_eq x e.0) (Some e.1) None)
entry_push x [] e = refl
entry_push x (d ∷ es) e = entry_step x d e es (bytes_eq x d.0) (entry_push x es e)

-- how often a name stands
times_push : (names : List (List ℕ)) (n x : List ℕ) → times (names ++ n ∷ []) x ≡ times names x + cond (bytes_eq x n) 1 0
times_push names n x = sum_by_push (λ m. cond (bytes_eq x m) 1 0) names n

pub times_cons : (m : List ℕ) (names : List (List ℕ)) (x : List ℕ) → times (m ∷ names) x ≡ cond (bytes_eq x m) 1 0 + times names x
times_cons m names x = sum_by-cons (λ k. cond (bytes_eq x k) 1 0) m names

-- where a name stands that stood there before
first_old_step : (m : List ℕ) (names : List (List ℕ)) (n x : List ℕ) → (1 ≤ times names x → first_place (names ++ n ∷ []) x ≡ first_place names x) → (b : Bool) → bytes_eq x m ≡ b
    → 1 ≤ cond b 1 0 + times names x → cond (not b) (1 + first_place (names ++ n ∷ []) x) 0 ≡ cond (not b) (1 + first_place names x) 0
first_old_step m names n x rest true e some = refl
first_old_step m names n x rest false e some = ap (λ k. 1 + k) (rest (omega arith))

first_old : (names : List (List ℕ)) (n x : List ℕ) → 1 ≤ times names x → first_place (names ++ n ∷ []) x ≡ first_place names x
first_old [] n x some = absurd (omega arith)
first_old (m ∷ names) n x some = first_old_step m names n x (first_old names n x) (bytes_eq x m) refl (omega (arith, times_cons m names x))

-- and one that did not
first_new_step : (m : List ℕ) (names : List (List ℕ)) (n x : List ℕ) → (times names x ≡ 0 → first_place (names ++ n ∷ []) x ≡ length names) → (b : Bool) → bytes_eq x m ≡ b
    → cond b 1 0 + times names x ≡ 0 → cond (not b) (1 + first_place (names ++ n ∷ []) x) 0 ≡ suc (length names)
first_new_step m names n x rest true e none = absurd (omega arith)
first_new_step m names n x rest false e none = let r = rest (omega arith) in omega arith

first_new : (names : List (List ℕ)) (n x : List ℕ) → times names x ≡ 0 → bytes_eq x n ≡ true → first_place (names ++ n ∷ []) x ≡ length names
first_new [] n x none same = rw same refl
first_new (m ∷ names) n x none same = first_new_step m names n x (λ none'. first_new names n x none' same) (bytes_eq x m) refl (let t = times_cons m names x in omega arith)

-- the first place by the number of times
place_none : (names : List (List ℕ)) (x : List ℕ) → times names x ≡ 0 → column_of names x ≡ None
place_none names x none = rw none refl

place_some : (names : List (List ℕ)) (x : List ℕ) → 1 ≤ times names x → column_of names x ≡ Some (first_place names x)
place_some names x some = let more : (times names x == 0) ≡ false = ne_eqb (times names x) 0 (λ e. omega arith) in rw more refl

-- a name that is told to stand nowhere, or somewhere
stands_nowhere : (names : List (List ℕ)) (x : List ℕ) → is_some (column_of names x) ≡ false → times names x ≡ 0
stands_nowhere names x none = elim (cases_lt 0 (times names x)) [ inl some ↦ absurd (let h = place_some names x some in cc) | inr few ↦ omega arith ]

stands_somewhere : (names : List (List ℕ)) (x : List ℕ) → is_some (column_of names x) ≡ true → 1 ≤ times names x
stands_somewhere names x some = elim (cases_lt 0 (times names x)) [ inl more ↦ omega arith | inr few ↦ absurd (let none : times names x ≡ 0 = omega arith in let h = place_none names x none in cc) ]

place_old : (names : List (List ℕ)) (n x : List ℕ) → 1 ≤ times names x → column_of (names ++ n ∷ []) x ≡ column_of names x
place_old names n x some =
    place_some (names ++ n ∷ []) x (omega (arith, times_push names n x)) ∙ (ap Some (first_old names n x some) ∙ sym (place_some names x some))

-- the first place, after a name that stands already, or another name
place_stays : (names : List (List ℕ)) (n x : List ℕ) → (bytes_eq x n ≡ true → 1 ≤ times names x) → column_of (names ++ n ∷ []) x ≡ column_of names x
place_stays names n x known =
    elim (cases_lt 0 (times names x)) [
      | inl some ↦ place_old names n x (omega arith)
      | inr few ↦ elim (cases_Bool (bytes_eq x n)) [
        | inl same ↦ absurd (let k = known same in omega arith)
        | inr other ↦ let count : times (names ++ n ∷ []) x ≡ times names x + 0 = times_push names n x ∙ ap (λ b. times names x + cond b 1 0) other in
            place_none (names ++ n ∷ []) x (omega arith) ∙ sym (place_none names x (omega arith))
      ]
    ]

-- and after a name that didn't stand
place_more : (names : List (List ℕ)) (n x : List ℕ) → cond (is_some (column_of names x)) (column_of names x) (cond (bytes_eq x n) (Some (length names)) None) ≡ column_of (names ++ n ∷ []) x
place_more names n x =
    let rest : Option ℕ = cond (bytes_eq x n) (Some (length names)) None in
    elim (cases_lt 0 (times names x)) [
      | inl some ↦ let old : column_of names x ≡ Some (first_place names x) = place_some names x (omega arith) in
          ap (λ o. cond (is_some o) o rest) old ∙ (sym old ∙ sym (place_old names n x (omega arith)))
      | inr few ↦ let none : times names x ≡ 0 = omega arith in
          ap (λ o. cond (is_some o) o rest) (place_none names x none) ∙ elim (cases_Bool (bytes_eq x n)) [
            | inl same ↦ let count : times (names ++ n ∷ []) x ≡ times names x + 1 = times_push names n x ∙ ap (λ b. times names x + cond b 1 0) same in
                ap (λ b. cond b (Some (length names)) None) same ∙ (ap Some (sym (first_new names n x none same)) ∙ sym (place_some (names ++ n ∷ []) x (omega arith)))
            | inr other ↦ let count : times (names ++ n ∷ []) x ≡ times names x + 0 = times_push names n x ∙ ap (λ b. times names x + cond b 1 0) other in
                ap (λ b. cond b (Some (length names)) None) other ∙ sym (place_none (names ++ n ∷ []) x (omega arith))
          ]
    ]

-- whether a name stands again, when the names after are counted
again_other : (names : List (List ℕ)) (n x : List ℕ) → bytes_eq x n ≡ false → nat_lt 1 (times names x) ≡ nat_lt 1 (times (names ++ n ∷ []) x)
again_other names n x other =
    let count : times (names ++ n ∷ []) x ≡ times names x + 0 = times_push names n x ∙ ap (λ b. times names x + cond b 1 0) other in
    let same : times names x ≡ times (names ++ n ∷ []) x = omega arith in
    ap (nat_lt 1) same

one_more : (names : List (List ℕ)) (n x : List ℕ) → bytes_eq x n ≡ true → times (names ++ n ∷ []) x ≡ times names n + 1
one_more names n x same = times_push names n x ∙ (ap (λ b. times names x + cond b 1 0) same ∙ ap (λ m. times names m + 1) ((bytes_eq-Decides x n).0 same))

the_same : (names : List (List ℕ)) (n x : List ℕ) → bytes_eq x n ≡ true → times names x ≡ times names n
the_same names n x same = ap (times names) ((bytes_eq-Decides x n).0 same)

again_new : (names : List (List ℕ)) (n x : List ℕ) → times names n ≡ 0 → nat_lt 1 (times names x) ≡ nat_lt 1 (times (names ++ n ∷ []) x)
again_new names n x none = elim (cases_Bool (bytes_eq x n)) [
  | inl same ↦ let now = one_more names n x same in let before = the_same names n x same in
      le-ltb 1 (times names x) (omega arith) ∙ sym (le-ltb 1 (times (names ++ n ∷ []) x) (omega arith))
  | inr other ↦ again_other names n x other
]

again_first : (names : List (List ℕ)) (n x : List ℕ) → 1 ≤ times names n → (nat_lt 1 (times names x) || bytes_eq x n) ≡ nat_lt 1 (times (names ++ n ∷ []) x)
again_first names n x one = elim (cases_Bool (bytes_eq x n)) [
  | inl same ↦ let now = one_more names n x same in
      ap (λ b. nat_lt 1 (times names x) || b) same ∙ (or-true (nat_lt 1 (times names x)) ∙ sym (lt-ltb 1 (times (names ++ n ∷ []) x) (omega arith)))
  | inr other ↦ ap (λ b. nat_lt 1 (times names x) || b) other ∙ (or-false (nat_lt 1 (times names x)) ∙ again_other names n x other)
]

again_kept : (names : List (List ℕ)) (n x : List ℕ) → 2 ≤ times names n → nat_lt 1 (times names x) ≡ nat_lt 1 (times (names ++ n ∷ []) x)
again_kept names n x two = elim (cases_Bool (bytes_eq x n)) [
  | inl same ↦ let now = one_more names n x same in let before = the_same names n x same in
      lt-ltb 1 (times names x) (omega arith) ∙ sym (lt-ltb 1 (times (names ++ n ∷ []) x) (omega arith))
  | inr other ↦ again_other names n x other
]

named_push : {V : Type 0} (x : List ℕ) (es : Table V) (e : List ℕ × V) → is_named x (es ++ e ∷ []) ≡ (is_named x es || bytes_eq x e.0)
named_push x es e = ap is_some (entry_push x es e) ∙ join (entry_of x es) (bytes_eq x e.0) e.1
  where
    join : {V : Type 0} (o : Option V) (b : Bool) (v : V) → is_some (cond (is_some o) o (cond b (Some v) None)) ≡ (is_some o || b)
    join None true v = refl
    join None false v = refl
    join (Some w) b v = refl

-- the tables after one more column: of a new name, of one that stands a second time, and of one that stands more often
pub places_new : (names : List (List ℕ)) (p : Places) (n : List ℕ) (column : ℕ) (first : Table ℕ) → AreColumnPlaces names p → 1 ≤ length n → length n ≤ 64 → length names ≡ column
    → is_named n p.first ≡ false → first ≡ p.first ++ (n, column) ∷ [] → AreColumnPlaces (names ++ n ∷ []) (record { first = first; again = p.again })
places_new names p n column first h lo hi size unknown is =
    let none : times names n ≡ 0 = stands_nowhere names n (ap is_some (sym (h.first n lo hi)) ∙ unknown) in
    record {
      first = λ x xlo xhi. ap (entry_of x) is ∙ (entry_push x p.first (n, column)
          ∙ (ap (λ (o : Option ℕ). cond (is_some o) o (cond (bytes_eq x n) (Some column) None)) (h.first x xlo xhi)
          ∙ (ap (λ c. cond (is_some (column_of names x)) (column_of names x) (cond (bytes_eq x n) (Some c) None)) (sym size) ∙ place_more names n x)));
      again = λ x xlo xhi. h.again x xlo xhi ∙ again_new names n x none;
    }

known_place : (names : List (List ℕ)) (p : Places) (n : List ℕ) → AreColumnPlaces names p → 1 ≤ length n → length n ≤ 64 → is_named n p.first ≡ true → 1 ≤ times names n
known_place names p n h lo hi known = stands_somewhere names n (ap is_some (sym (h.first n lo hi)) ∙ known)

pub places_again : (names : List (List ℕ)) (p : Places) (n : List ℕ) (column : ℕ) (again : Table ℕ) → AreColumnPlaces names p → 1 ≤ length n → length n ≤ 64
    → is_named n p.first ≡ true → again ≡ p.again ++ (n, column) ∷ [] → AreColumnPlaces (names ++ n ∷ []) (record { first = p.first; again = again })
places_again names p n column again h lo hi known is =
    let some : 1 ≤ times names n = known_place names p n h lo hi known in
    record {
      first = λ x xlo xhi. h.first x xlo xhi ∙ sym (place_stays names n x (λ same. let t = the_same names n x same in omega arith));
      again = λ x xlo xhi. ap (is_named x) is ∙ (named_push x p.again (n, column) ∙ (ap (λ b. b || bytes_eq x n) (h.again x xlo xhi) ∙ again_first names n x some));
    }

pub places_kept : (names : List (List ℕ)) (p : Places) (n : List ℕ) → AreColumnPlaces names p → 1 ≤ length n → length n ≤ 64
    → is_named n p.first ≡ true → is_named n p.again ≡ true → AreColumnPlaces (names ++ n ∷ []) p
places_kept names p n h lo hi known twice =
    let two : 2 ≤ times names n = let more = ltb-true 1 (times names n) (sym (h.again n lo hi) ∙ twice) in omega arith in
    record {
      first = λ x xlo xhi. h.first x xlo xhi ∙ sym (place_stays names n x (λ same. let t = the_same names n x same in omega arith));
      again = λ x xlo xhi. h.again x xlo xhi ∙ again_kept names n x two;
    }

-- a column without a name that a signal may have
pub places_other : (names : List (List ℕ)) (p : Places) (n : List ℕ) → AreColumnPlaces names p → ((1 ≤ length n) × (length n ≤ 64) → ⊥) → AreColumnPlaces (names ++ n ∷ []) p
places_other names p n h odd = record {
  first = λ x xlo xhi. h.first x xlo xhi ∙ sym (place_stays names n x (λ same. absurd (odd (fit x xlo xhi same))));
  again = λ x xlo xhi. h.again x xlo xhi ∙ again_other names n x (false_from_ne_true (bytes_eq x n) (λ same. odd (fit x xlo xhi same)));
}
  where
    fit : (x : List ℕ) → 1 ≤ length x → length x ≤ 64 → bytes_eq x n ≡ true → (1 ≤ length n) × (length n ≤ 64)
    fit x xlo xhi same = let size = ap length ((bytes_eq-Decides x n).0 same) in (omega arith, omega arith)
