-- What each member of a list has, and where members stand.

use Rattle.std.proofs.Common.{◌≡◌, zero, suc, Some, List, [], ◌∷◌, ◌++◌, All, length, slice_get, refl, arith}
use Rattle.mltl_base.proofs.Unfolding.{Each}

pub all_from_each : {X : Type 0} (P : X → Type 0) (xs : List X) → Each P xs → All P xs
all_from_each P [] h k d l = absurd (omega arith)
all_from_each P (x ∷ xs) h zero d l = h.0
all_from_each P (x ∷ xs) h (suc k) d l = all_from_each P xs h.1 k d (omega arith)

pub each_append : {X : Type 0} (P : X → Type 0) (xs ys : List X) → Each P xs → Each P ys → Each P (xs ++ ys)
each_append P [] ys h g = g
each_append P (x ∷ xs) ys h g = (h.0, each_append P xs ys h.1 g)

pub each_left : {X : Type 0} (P : X → Type 0) (xs ys : List X) → Each P (xs ++ ys) → Each P xs
each_left P [] ys h = tt
each_left P (x ∷ xs) ys h = (h.0, each_left P xs ys h.1)

pub each_right : {X : Type 0} (P : X → Type 0) (xs ys : List X) → Each P (xs ++ ys) → Each P ys
each_right P [] ys h = h
each_right P (x ∷ xs) ys h = each_right P xs ys h.1

-- the member after some others
pub get_after : {X : Type 0} (before rest : List X) (x : X) → slice_get (before ++ x ∷ rest) (length before) ≡ Some x
get_after [] rest x = refl
get_after (y ∷ before) rest x = get_after before rest x
