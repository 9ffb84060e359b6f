-- Lists to which only what is new is added: what is listed stays, and is found at its place.

use Rattle.std.proofs.Common.{◌≡◌, ℕ, suc, Bool, true, false, ◌||◌, if◌then◌else◌, Some, List, [], ◌∷◌, ◌++◌, slice_get, refl, sym, ap}
use Rattle.mltl_base.specs.Subformulas.{listed, place_of, add_new}

or_more : (a b c : Bool) → (b ≡ true → c ≡ true) → (a || b) ≡ true → (a || c) ≡ true
or_more true b c h e = refl
or_more false b c h e = h e

or_last : (a b : Bool) → b ≡ true → (a || b) ≡ true
or_last true b e = refl
or_last false b e = e

first_place : (a b c : Bool) (m n : ℕ) → (b ≡ true → m ≡ n) → (a || b) ≡ true → (if a then 0 else suc m) ≡ (if a then 0 else suc n)
first_place true b c m n h e = refl
first_place false b c m n h e = ap suc (h e)

module _ {X : Type 0} (alike : X → X → Bool) (sound : (x y : X) → alike x y ≡ true → x ≡ y) (self : (x : X) → alike x x ≡ true) where
  pub listed_append : (x : X) (xs ys : List X) → listed alike x xs ≡ true → listed alike x (xs ++ ys) ≡ true
  unfolding listed
  listed_append x [] ys e = cc
  listed_append x (z ∷ xs) ys e = or_more (alike x z) (listed alike x xs) (listed alike x (xs ++ ys)) (listed_append x xs ys) e

  pub listed_end : (x : X) (xs : List X) → listed alike x (xs ++ x ∷ []) ≡ true
  unfolding listed
  listed_end x [] = rw (self x) refl
  listed_end x (z ∷ xs) = or_last (alike x z) (listed alike x (xs ++ x ∷ [])) (listed_end x xs)

  pub added_has : (x : X) (xs : List X) → listed alike x (add_new alike x xs) ≡ true
  added_has x xs = go (listed alike x xs) refl
    where
      go : (b : Bool) → listed alike x xs ≡ b → listed alike x (if b then xs else xs ++ x ∷ []) ≡ true
      go true e = e
      go false e = listed_end x xs

  pub added_keeps : (x y : X) (xs : List X) → listed alike y xs ≡ true → listed alike y (add_new alike x xs) ≡ true
  added_keeps x y xs e = go (listed alike x xs)
    where
      go : (b : Bool) → listed alike y (if b then xs else xs ++ x ∷ []) ≡ true
      go true = e
      go false = listed_append y xs (x ∷ []) e

  pub place_append : (x : X) (xs ys : List X) → listed alike x xs ≡ true → place_of alike x (xs ++ ys) ≡ place_of alike x xs
  unfolding listed place_of
  place_append x [] ys e = cc
  place_append x (z ∷ xs) ys e = first_place (alike x z) (listed alike x xs) true (place_of alike x (xs ++ ys)) (place_of alike x xs) (place_append x xs ys) e

  pub place_get : (x : X) (xs : List X) → listed alike x xs ≡ true → slice_get xs (place_of alike x xs) ≡ Some x
  unfolding listed place_of
  place_get x [] e = cc
  place_get x (z ∷ xs) e = go (alike x z) refl e (place_get x xs)
    where
      go : (b : Bool) → alike x z ≡ b → (b || listed alike x xs) ≡ true → (listed alike x xs ≡ true → slice_get xs (place_of alike x xs) ≡ Some x) →
          slice_get (z ∷ xs) (if b then 0 else suc (place_of alike x xs)) ≡ Some x
      go true e f h = ap Some (sym (sound x z e))
      go false e f h = h f
