-- The places of a struct's fields, one name after the other.

use Rattle.std.proofs.Common.{◌≡◌, ℕ, ◌+◌, ◌<◌, take, slice_get, true, false, Bool, Option, Some, None, is_some, List, [], ◌∷◌, ◌++◌, length, cond, position, refl, sym, subst, ap, ◌∙◌, arith}
use Rattle.std.specs.Str.{bytes_eq}
use Rattle.std.specs.List.{position_from}
use Rattle.std.proofs.lemmas.Iterator.Adapters.{position_from-zero}
use Rattle.std.proofs.lemmas.List.{take_more}
use Rattle.std.proofs.lemmas.Option.{get_or_from_slice_get, slice_get_within}
use Rattle.std.proofs.lemmas.Slice.Eq.{bytes_eq-Decides}
use Rattle.mltl_base.specs.Tables.{entry_of, is_named}
use Rattle.c2po_types.specs.Fields.{ArePlaces}
use Rattle.c2po_types.proofs.Summarizing.{or_entry, entry_push}

-- the place of a name among names that get one more
place_from : (p : List ℕ → Bool) (x : List ℕ) (i : ℕ) (xs : List (List ℕ)) →
    position_from p i (xs ++ x ∷ []) ≡ or_entry (position_from p i xs) (cond (p x) (Some (i + length xs)) None)
unfolding or_entry
place_from p x i [] = ap (λ n. cond (p x) (Some n) None) (omega arith)
place_from p x i (y ∷ ys) =
    by (p y) (place_from p x (i + 1) ys ∙ ap (λ n. or_entry (position_from p (i + 1) ys) (cond (p x) (Some n) None)) (omega arith))
  where
    by : (b : Bool) → position_from p (i + 1) (ys ++ x ∷ []) ≡ or_entry (position_from p (i + 1) ys) (cond (p x) (Some (i + length (y ∷ ys))) None)
        → cond b (Some i) (position_from p (i + 1) (ys ++ x ∷ []))
        ≡ or_entry (cond b (Some i) (position_from p (i + 1) ys)) (cond (p x) (Some (i + length (y ∷ ys))) None)
    by true rest = refl
    by false rest = rest

place_push : (p : List ℕ → Bool) (x : List ℕ) (xs : List (List ℕ)) →
    position p (xs ++ x ∷ []) ≡ or_entry (position p xs) (cond (p x) (Some (length xs)) None)
place_push p x xs =
    position_from-zero p (xs ++ x ∷ []) ∙ (place_from p x 0 xs
    ∙ (ap (λ n. or_entry (position_from p 0 xs) (cond (p x) (Some n) None)) (omega arith)
    ∙ ap (λ o. or_entry o (cond (p x) (Some (length xs)) None)) (sym (position_from-zero p xs))))

-- a name that isn't there yet gets the next place
pub places_new : (table new : List (List ℕ × ℕ)) (xs : List (List ℕ)) (x : List ℕ) (n : ℕ) → ArePlaces table xs →
    new ≡ table ++ (x, n) ∷ [] → n ≡ length xs → ArePlaces new (xs ++ x ∷ [])
places_new table new xs x n h same at = record {
  found = λ y. ap (entry_of y) same ∙ (entry_push y x n table
      ∙ (ap (λ o. or_entry o (cond (bytes_eq y x) (Some n) None)) (h.found y)
      ∙ (ap (λ k. or_entry (position (bytes_eq y) xs) (cond (bytes_eq y x) (Some k) None)) at
      ∙ sym (place_push (bytes_eq y) x xs))));
}

or_nothing : (o : Option ℕ) → or_entry o None ≡ o
unfolding or_entry
or_nothing (Some n) = refl
or_nothing None = refl

or_something : (o w : Option ℕ) → is_some o ≡ true → or_entry o w ≡ o
unfolding or_entry
or_something (Some n) w h = refl
or_something None w h = absurd (cc)

-- a name that is there already keeps its place
pub places_known : (table : List (List ℕ × ℕ)) (xs : List (List ℕ)) (x : List ℕ) → ArePlaces table xs →
    is_named x table ≡ true → ArePlaces table (xs ++ x ∷ [])
places_known table xs x h k = record {
  found = λ y. h.found y ∙ sym (place_push (bytes_eq y) x xs ∙ by y (bytes_eq y x) refl);
}
  where
    by : (y : List ℕ) (b : Bool) → bytes_eq y x ≡ b →
        or_entry (position (bytes_eq y) xs) (cond b (Some (length xs)) None) ≡ position (bytes_eq y) xs
    by y true e = or_something (position (bytes_eq y) xs) (Some (length xs)) (subst (λ o. is_some o ≡ true) (h.found y)
        (subst (λ z. is_some (entry_of z table) ≡ true) (sym ((bytes_eq-Decides y x).0 e)) k))
    by y false e = or_nothing (position (bytes_eq y) xs)

-- one more of the first names
pub first_names : (xs : List (List ℕ)) (i : ℕ) (x : List ℕ) → slice_get xs i ≡ Some x → take (i + 1) xs ≡ take i xs ++ x ∷ []
first_names xs i x h =
    let inside : i < length xs = slice_get_within xs i x h in
    take_more xs i x inside ∙ ap (λ y. take i xs ++ y ∷ []) (get_or_from_slice_get xs i x x h)

-- the first name has the place 0
pub first_place : (x y : List ℕ) (xs : List (List ℕ)) → slice_get xs 0 ≡ Some x → bytes_eq y x ≡ true → position (bytes_eq y) xs ≡ Some 0
first_place x y [] h same = absurd (cc)
first_place x y (z ∷ xs) h same =
    position_from-zero (bytes_eq y) (z ∷ xs)
    ∙ ap (λ b. cond b (Some 0) (position_from (bytes_eq y) 1 xs)) (subst (λ w. bytes_eq y w ≡ true) (sym is) same)
  where
    is : z ≡ x
    is = cc
