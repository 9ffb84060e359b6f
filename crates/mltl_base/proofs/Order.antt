-- The order of knowledge: what is known stays, and what is unknown may become known.

use Rattle.std.specs.Prelude.{⊤}
use Rattle.std.proofs.Common.{◌≡◌, ℕ, zero, suc, ◌<◌, Bool, true, false, not, ◌&&◌, ◌||◌, Option, Some, None, refl, ap, ◌∙◌, arith}
use Rattle.mltl_base.specs.Kleene.{some_below, every_below, k_not, k_and, k_or, k_implies, k_some_below, k_every_below}

-- what x knows, y knows too
abbrev pub Below : {X : Type 0} → Option X → Option X → Type 0
Below None y = ⊤
Below (Some v) y = y ≡ Some v

pub below_self : {X : Type 0} (x : Option X) → Below x x
below_self None = tt
below_self (Some v) = refl

pub below_trans : {X : Type 0} (x y z : Option X) → Below x y → Below y z → Below x z
below_trans None y z p q = tt
below_trans (Some v) None z p q = cc
below_trans (Some v) (Some w) z p q = cc

pub below_not : (x y : Option Bool) → Below x y → Below (k_not x) (k_not y)
unfolding k_not
below_not None y h = tt
below_not (Some v) y h = ap k_not h

-- one false operand decides
pub and_false : (x : Option Bool) → k_and x (Some false) ≡ Some false
unfolding k_and
and_false None = refl
and_false (Some true) = refl
and_false (Some false) = refl

pub below_and : (x y u v : Option Bool) → Below x u → Below y v → Below (k_and x y) (k_and u v)
unfolding k_and
below_and None None u v p q = tt
below_and None (Some true) u v p q = tt
below_and None (Some false) u v p q = rw q (and_false u)
below_and (Some true) y u v p q = rw p q
below_and (Some false) y u v p q = rw p refl

pub below_or : (x y u v : Option Bool) → Below x u → Below y v → Below (k_or x y) (k_or u v)
unfolding k_or
below_or x y u v p q =
    below_not (k_and (k_not x) (k_not y)) (k_and (k_not u) (k_not v))
    (below_and (k_not x) (k_not y) (k_not u) (k_not v) (below_not x u p) (below_not y v q))

pub below_implies : (x y u v : Option Bool) → Below x u → Below y v → Below (k_implies x y) (k_implies u v)
below_implies x y u v p q =
    below_not (k_and x (k_not y)) (k_and u (k_not v)) (below_and x (k_not y) u (k_not v) p (below_not y v q))

pub below_some : (n : ℕ) (f g : ℕ → Option Bool) → ((k : ℕ) → Below (f k) (g k)) → Below (k_some_below n f) (k_some_below n g)
unfolding k_some_below
below_some zero f g h = refl
below_some (suc n) f g h = below_or (k_some_below n f) (f n) (k_some_below n g) (g n) (below_some n f g h) (h n)

pub below_every : (n : ℕ) (f g : ℕ → Option Bool) → ((k : ℕ) → Below (f k) (g k)) → Below (k_every_below n f) (k_every_below n g)
unfolding k_every_below
below_every zero f g h = refl
below_every (suc n) f g h = below_and (k_every_below n f) (f n) (k_every_below n g) (g n) (below_every n f g h) (h n)

-- what is known over truths is the truth
pub not_truth : (v : Bool) → k_not (Some v) ≡ Some (not v)
unfolding k_not
not_truth v = refl

pub and_truth : (v w : Bool) → k_and (Some v) (Some w) ≡ Some (v && w)
unfolding k_and
and_truth true w = refl
and_truth false w = refl

pub or_truth : (v w : Bool) → k_or (Some v) (Some w) ≡ Some (v || w)
unfolding k_or k_not k_and
or_truth true true = refl
or_truth true false = refl
or_truth false true = refl
or_truth false false = refl

pub implies_truth : (v w : Bool) → k_implies (Some v) (Some w) ≡ Some (not v || w)
unfolding k_not k_and
implies_truth true true = refl
implies_truth true false = refl
implies_truth false true = refl
implies_truth false false = refl

pub some_truth : (n : ℕ) (f : ℕ → Bool) → k_some_below n (λ k. Some (f k)) ≡ Some (some_below n f)
unfolding k_some_below some_below
some_truth zero f = refl
some_truth (suc n) f = ap (λ x. k_or x (Some (f n))) (some_truth n f) ∙ or_truth (some_below n f) (f n)

pub every_truth : (n : ℕ) (f : ℕ → Bool) → k_every_below n (λ k. Some (f k)) ≡ Some (every_below n f)
unfolding k_every_below every_below
every_truth zero f = refl
every_truth (suc n) f = ap (λ x. k_and x (Some (f n))) (every_truth n f) ∙ and_truth (every_below n f) (f n)

-- the same, over operands that know some of the truths
pub right_not : (x : Option Bool) (v : Bool) → Below x (Some v) → Below (k_not x) (Some (not v))
right_not x v p = rw (not_truth v) at (below_not x (Some v) p)

pub right_and : (x y : Option Bool) (v w : Bool) → Below x (Some v) → Below y (Some w) → Below (k_and x y) (Some (v && w))
right_and x y v w p q = rw (and_truth v w) at (below_and x y (Some v) (Some w) p q)

pub right_or : (x y : Option Bool) (v w : Bool) → Below x (Some v) → Below y (Some w) → Below (k_or x y) (Some (v || w))
right_or x y v w p q = rw (or_truth v w) at (below_or x y (Some v) (Some w) p q)

pub right_implies : (x y : Option Bool) (v w : Bool) → Below x (Some v) → Below y (Some w) → Below (k_implies x y) (Some (not v || w))
right_implies x y v w p q = rw (implies_truth v w) at (below_implies x y (Some v) (Some w) p q)

pub right_some : (n : ℕ) (f : ℕ → Option Bool) (g : ℕ → Bool) → ((k : ℕ) → Below (f k) (Some (g k))) → Below (k_some_below n f) (Some (some_below n g))
right_some n f g h = rw (some_truth n g) at (below_some n f (λ k. Some (g k)) h)

pub right_every : (n : ℕ) (f : ℕ → Option Bool) (g : ℕ → Bool) → ((k : ℕ) → Below (f k) (Some (g k))) → Below (k_every_below n f) (Some (every_below n g))
right_every n f g h = rw (every_truth n g) at (below_every n f (λ k. Some (g k)) h)

-- a value that is known
abbrev pub Found : {X : Type 0} → Option X → Type 0
Found None = ⊥
Found (Some v) = ⊤

pub found_not : (x : Option Bool) → Found x → Found (k_not x)
unfolding k_not
found_not None h = h
found_not (Some v) h = tt

pub found_and : (x y : Option Bool) → Found x → Found y → Found (k_and x y)
unfolding k_and
found_and None y p q = absurd p
found_and (Some true) y p q = q
found_and (Some false) y p q = tt

pub found_or : (x y : Option Bool) → Found x → Found y → Found (k_or x y)
unfolding k_or
found_or x y p q = found_not (k_and (k_not x) (k_not y)) (found_and (k_not x) (k_not y) (found_not x p) (found_not y q))

pub found_implies : (x y : Option Bool) → Found x → Found y → Found (k_implies x y)
found_implies x y p q = found_not (k_and x (k_not y)) (found_and x (k_not y) p (found_not y q))

pub found_some : (n : ℕ) (f : ℕ → Option Bool) → ((k : ℕ) → k < n → Found (f k)) → Found (k_some_below n f)
unfolding k_some_below
found_some zero f h = tt
found_some (suc n) f h = found_or (k_some_below n f) (f n) (found_some n f (λ k l. h k (omega arith))) (h n (omega arith))

pub found_every : (n : ℕ) (f : ℕ → Option Bool) → ((k : ℕ) → k < n → Found (f k)) → Found (k_every_below n f)
unfolding k_every_below
found_every zero f h = tt
found_every (suc n) f h = found_and (k_every_below n f) (f n) (found_every n f (λ k l. h k (omega arith))) (h n (omega arith))

-- nothing known gives nothing known
pub unknown_some : (n : ℕ) (f : ℕ → Option Bool) → ((k : ℕ) → k < suc n → f k ≡ None) → k_some_below (suc n) f ≡ None
unfolding k_some_below k_or k_not k_and
unknown_some zero f h = ap (k_or (Some false)) (h 0 (omega arith))
unknown_some (suc n) f h = ap (λ x. k_or x (f (suc n))) (unknown_some n f (λ k l. h k (omega arith))) ∙ ap (k_or None) (h (suc n) (omega arith))

-- unknown and a value that isn't false is unknown
abbrev pub NotFalse : Option Bool → Type 0
NotFalse None = ⊤
NotFalse (Some true) = ⊤
NotFalse (Some false) = ⊥

pub unknown_and : (x : Option Bool) → NotFalse x → k_and None x ≡ None
unfolding k_and
unknown_and None h = refl
unknown_and (Some true) h = refl
unknown_and (Some false) h = absurd h

pub not_false_and : (x y : Option Bool) → NotFalse x → y ≡ None → NotFalse (k_and x y)
unfolding k_and
not_false_and None y h e = rw e tt
not_false_and (Some true) y h e = rw e tt
not_false_and (Some false) y h e = absurd h

pub not_false_every : (n : ℕ) (f : ℕ → Option Bool) → ((k : ℕ) → k < n → f k ≡ None) → NotFalse (k_every_below n f)
unfolding k_every_below
not_false_every zero f h = tt
not_false_every (suc n) f h = not_false_and (k_every_below n f) (f n) (not_false_every n f (λ k l. h k (omega arith))) (h n (omega arith))
