-- A list of known values is fixed by what is known: the longest known list is one, and two ways to know that agree as
-- far as both reach have one list.

use Rattle.std.proofs.Common.{◌≡◌, ℕ, zero, suc, ◌<◌, ◌≤◌, Option, Some, None, List, [], ◌∷◌, length, slice_get, refl, ap, ap₂, arith}
use Rattle.mltl_base.specs.Verdicts.{followed, known_front, IsLongestKnown}
use Rattle.mltl_base.proofs.Order.{Below, Found}
use Rattle.mltl_base.proofs.Fronts.{front_fits, front_below, found_within}

-- l knows what k knows, and the first time that k doesn't know isn't known to l either: then the lists are one
same_cases : {X : Type 0} (x y : Option X) (us vs : List X) → Below x y → (Found y → Found x) → (Found y → us ≡ vs) → followed x us ≡ followed y vs
same_cases None None us vs b f e = refl
same_cases None (Some w) us vs b f e = absurd (f tt)
same_cases (Some v) None us vs b f e = cc
same_cases (Some v) (Some w) us vs b f e = let h : us ≡ vs = e tt in cc

found_first : {X : Type 0} (l : ℕ → Option X) → Found (l 0) → (s : ℕ) → s ≤ 0 → Found (l s)
found_first l h zero c = h
found_first l h (suc s) c = absurd (omega arith)

found_next : {X : Type 0} (l : ℕ → Option X) → Found (l 0) → (t : ℕ) → ((s : ℕ) → s ≤ t → Found (l (suc s))) → (s : ℕ) → s ≤ suc t → Found (l s)
found_next l h t g zero c = h
found_next l h t g (suc s) c = g s (omega arith)

pub front_same : {X : Type 0} (k l : ℕ → Option X) (n : ℕ) → ((t : ℕ) → t < n → Below (k t) (l t)) → ((t : ℕ) → t < n → ((s : ℕ) → s ≤ t → Found (l s)) → Found (k t)) → known_front k n ≡ known_front l n
unfolding known_front
front_same k l zero b f = refl
front_same k l (suc n) b f =
    same_cases (k 0) (l 0) (known_front (λ t. k (suc t)) n) (known_front (λ t. l (suc t)) n) (b 0 (omega arith)) (λ h. f 0 (omega arith) (found_first l h))
    (λ h. front_same (λ t. k (suc t)) (λ t. l (suc t)) n (λ t c. b (suc t) (omega arith)) (λ t c g. f (suc t) (omega arith) (found_next l h t g)))

-- what is known at each of the n times is one: then the lists are one
pub front_equal : {X : Type 0} (k l : ℕ → Option X) (n : ℕ) → ((t : ℕ) → t < n → k t ≡ l t) → known_front k n ≡ known_front l n
unfolding known_front
front_equal k l zero h = refl
front_equal k l (suc n) h =
    ap₂ followed (h 0 (omega arith)) (front_equal (λ t. k (suc t)) (λ t. l (suc t)) n (λ t c. h (suc t) (omega arith)))

-- a list is the longest that is known by its own places
pub front_self : {X : Type 0} (vs : List X) (n : ℕ) → length vs ≤ n → known_front (slice_get vs) n ≡ vs
unfolding known_front
front_self [] zero h = refl
front_self [] (suc n) h = refl
front_self (v ∷ vs) zero h = absurd (omega arith)
front_self (v ∷ vs) (suc n) h = ap (◌∷◌ v) (front_self vs n (omega arith))

-- the values of the list, and that it ends only where k isn't known
pub same_value : {X : Type 0} (x y : Option X) → Found x → Below x y → y ≡ x
same_value None y f h = absurd f
same_value (Some v) y f h = h

pub front_value : {X : Type 0} (k : ℕ → Option X) (n t : ℕ) → t < length (known_front k n) → k t ≡ slice_get (known_front k n) t
front_value k n t l = same_value (slice_get (known_front k n) t) (k t) (found_within (known_front k n) t l) (front_below k n t)

ends_cases : {X : Type 0} (x : Option X) (vs : List X) (k : ℕ → Option X) (n : ℕ) → k 0 ≡ x → (length vs < n → k (suc (length vs)) ≡ None) → length (followed x vs) < suc n → k (length (followed x vs)) ≡ None
ends_cases None vs k n e h l = e
ends_cases (Some v) vs k n e h l = h (omega arith)

pub front_unknown : {X : Type 0} (k : ℕ → Option X) (n : ℕ) → length (known_front k n) < n → k (length (known_front k n)) ≡ None
unfolding known_front
front_unknown k zero l = absurd (omega arith)
front_unknown k (suc n) l = ends_cases (k 0) (known_front (λ t. k (suc t)) n) k n refl (front_unknown (λ t. k (suc t)) n) l

pub front_longest : {X : Type 0} (k : ℕ → Option X) (n : ℕ) → IsLongestKnown k n (known_front k n)
front_longest k n = record { fits = front_fits k n; values = front_value k n; longest = front_unknown k n }

-- the list is the known one where it gives k's value at each of its places, and k knows no more
pub known_only : {X : Type 0} (k : ℕ → Option X) (n : ℕ) (vs : List X) → length vs ≤ n → ((t : ℕ) → t < length vs → k t ≡ slice_get vs t) → (length vs < n → k (length vs) ≡ None) → vs ≡ known_front k n
unfolding known_front
known_only k zero [] l f e = refl
known_only k zero (v ∷ vs) l f e = absurd (omega arith)
known_only k (suc n) [] l f e = let g : k 0 ≡ None = e (omega arith) in rw g refl
known_only k (suc n) (v ∷ vs) l f e =
    let g : k 0 ≡ Some v = f 0 (omega arith) in
    rw g (ap (◌∷◌ v) (known_only (λ t. k (suc t)) n vs (omega arith) (λ t c. f (suc t) (omega arith)) (λ c. e (omega arith))))

pub longest_only : {X : Type 0} (k : ℕ → Option X) (n : ℕ) (vs : List X) → IsLongestKnown k n vs → vs ≡ known_front k n
longest_only k n vs h = known_only k n vs h.fits h.values h.longest
