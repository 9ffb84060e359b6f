-- The longest known list of values: what its length and its members say.

use Rattle.std.proofs.Common.{◌≡◌, ℕ, zero, suc, ◌+◌, ◌<◌, ◌≤◌, ◌⊎◌, inl, inr, Option, Some, None, List, [], ◌∷◌, ◌++◌, length, slice_get, refl, ap, arith}
use Rattle.std.proofs.lemmas.Bool.{cases_lt}
use Rattle.mltl_base.specs.Verdicts.{followed, known_front}
use Rattle.mltl_base.specs.Settled.{IsPrefix}
use Rattle.mltl_base.proofs.Order.{Below, Found}

followed_fits : {X : Type 0} (x : Option X) (vs : List X) (n : ℕ) → length vs ≤ n → length (followed x vs) ≤ suc n
followed_fits None vs n h = omega arith
followed_fits (Some v) vs n h = omega arith

pub front_fits : {X : Type 0} (k : ℕ → Option X) (n : ℕ) → length (known_front k n) ≤ n
unfolding known_front
front_fits k zero = omega arith
front_fits k (suc n) = followed_fits (k 0) (known_front (λ t. k (suc t)) n) n (front_fits (λ t. k (suc t)) n)

-- a value of the list is a value of k
followed_below : {X : Type 0} (x y : Option X) (vs : List X) (k : ℕ → Option X) (t : ℕ) → y ≡ x → ((t : ℕ) → Below (slice_get vs t) (k t)) → Below (slice_get (followed x vs) (suc t)) (k t)
followed_below None y vs k t e h = tt
followed_below (Some v) y vs k t e h = h t

followed_first : {X : Type 0} (x y : Option X) (vs : List X) → y ≡ x → Below (slice_get (followed x vs) 0) y
followed_first None y vs e = tt
followed_first (Some v) y vs e = e

pub front_below : {X : Type 0} (k : ℕ → Option X) (n t : ℕ) → Below (slice_get (known_front k n) t) (k t)
unfolding known_front
front_below k zero t = tt
front_below k (suc n) zero = followed_first (k 0) (k 0) (known_front (λ t. k (suc t)) n) refl
front_below k (suc n) (suc t) = followed_below (k 0) (k 0) (known_front (λ t. k (suc t)) n) (λ t. k (suc t)) t refl (λ s. front_below (λ t. k (suc t)) n s)

-- a place within the list has a value, and one past it has none
pub found_within : {X : Type 0} (vs : List X) (t : ℕ) → t < length vs → Found (slice_get vs t)
found_within [] t l = omega arith
found_within (v ∷ vs) zero l = tt
found_within (v ∷ vs) (suc t) l = found_within vs t (omega arith)

-- more is known by k than by l, and over more places: then the list of l begins that of k
followed_prefix : {X : Type 0} (x y : Option X) (us vs : List X) → Below x y → IsPrefix us vs → IsPrefix (followed x us) (followed y vs)
followed_prefix None y us vs h p = (followed y vs, refl)
followed_prefix (Some v) y us vs h p = (p.0, rw h (ap (◌∷◌ v) p.1))

pub front_prefix : {X : Type 0} (k l : ℕ → Option X) (n m : ℕ) → ((t : ℕ) → Below (k t) (l t)) → n ≤ m → IsPrefix (known_front k n) (known_front l m)
unfolding known_front
front_prefix k l zero m h e = (known_front l m, refl)
front_prefix k l (suc n) zero h e = absurd (omega arith)
front_prefix k l (suc n) (suc m) h e = followed_prefix (k 0) (l 0) (known_front (λ t. k (suc t)) n) (known_front (λ t. l (suc t)) m) (h 0) (front_prefix (λ t. k (suc t)) (λ t. l (suc t)) n m (λ t. h (suc t)) (omega arith))

pub prefix_below : {X : Type 0} (xs ys : List X) (t : ℕ) → IsPrefix xs ys → Below (slice_get xs t) (slice_get ys t)
prefix_below [] ys t p = tt
prefix_below (x ∷ xs) ys zero p = ap (λ l. slice_get l 0) p.1
prefix_below (x ∷ xs) ys (suc t) p = rw p.1 (prefix_below xs (xs ++ p.0) t (p.0, refl))

-- known at each time that is d below n: then the list has all but d of the n values
followed_within : {X : Type 0} (x : Option X) (vs : List X) (n d : ℕ) → Found x → n ≤ length vs + d → suc n ≤ length (followed x vs) + d
followed_within None vs n d f h = absurd f
followed_within (Some v) vs n d f h = omega arith

within_cases : {X : Type 0} (x : Option X) (vs : List X) (n d : ℕ) → (n < d) ⊎ (d ≤ n) → (d ≤ n → Found x) → n ≤ length vs + d → suc n ≤ length (followed x vs) + d
within_cases x vs n d (inl l) f h = omega arith
within_cases x vs n d (inr l) f h = followed_within x vs n d (f l) h

pub front_within : {X : Type 0} (k : ℕ → Option X) (n d : ℕ) → ((t : ℕ) → t + d < n → Found (k t)) → n ≤ length (known_front k n) + d
unfolding known_front
front_within k zero d h = omega arith
front_within k (suc n) d h =
    within_cases (k 0) (known_front (λ t. k (suc t)) n) n d (cases_lt n d) (λ l. h 0 (omega arith))
    (front_within (λ t. k (suc t)) n d (λ t l. h (suc t) (omega arith)))

-- unknown at a time: then the list ends there
followed_ends : {X : Type 0} (x : Option X) (vs : List X) (m : ℕ) → length vs ≤ m → length (followed x vs) ≤ suc m
followed_ends None vs m h = omega arith
followed_ends (Some v) vs m h = omega arith

pub front_ends : {X : Type 0} (k : ℕ → Option X) (n m : ℕ) → k m ≡ None → length (known_front k n) ≤ m
unfolding known_front
front_ends k zero m e = omega arith
front_ends k (suc n) zero e = rw e (omega arith)
front_ends k (suc n) (suc m) e = followed_ends (k 0) (known_front (λ t. k (suc t)) n) m (front_ends (λ t. k (suc t)) n m e)
