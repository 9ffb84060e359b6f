-- When the strong Kleene value of an operator is true, false or unknown.
use Rattle.std.proofs.Common.{◌≡◌, ℕ, zero, suc, ◌+◌, ◌-◌, ◌<◌, ◌≤◌, Bool, true, false, arith, refl, subst, inl, inr, Option, Some, None}
use Rattle.std.proofs.lemmas.Bool.{cases_eq}
use Rattle.mltl_base.specs.declared.interval.Interval.{Interval}
use Rattle.mltl_base.specs.Kleene.{k_not, k_and, k_or, k_some_below, k_every_below, k_every_in}
use Rattle.mltl_base.specs.Verdicts.{Known, k_until}
use Rattle.mltl_base.proofs.CoreVerdicts.{every_known}

-- two values
pub and_false_left : (x y : Option Bool) → x ≡ Some false → k_and x y ≡ Some false
unfolding k_and
and_false_left x y e = rw e

pub and_false_right : (x y : Option Bool) → y ≡ Some false → k_and x y ≡ Some false
unfolding k_and
and_false_right None y e = rw e
and_false_right (Some true) y e = e
and_false_right (Some false) y e = refl

pub and_true : (x y : Option Bool) → x ≡ Some true → k_and x y ≡ y
unfolding k_and
and_true x y e = rw e

-- what isn't false is unknown beside what is unknown
pub and_none_right : (x y : Option Bool) → (x ≡ Some false → ⊥) → y ≡ None → k_and x y ≡ None
unfolding k_and
and_none_right None y live e = rw e
and_none_right (Some true) y live e = e
and_none_right (Some false) y live e = absurd (live refl)

pub and_none_left : (x y : Option Bool) → x ≡ None → (y ≡ Some false → ⊥) → k_and x y ≡ None
unfolding k_and
and_none_left x (Some false) e live = absurd (live refl)
and_none_left x _ e live = rw e

-- unknown and anything isn't true
pub and_unknown : (x y : Option Bool) → x ≡ None → k_and x y ≡ Some true → ⊥
unfolding k_and
and_unknown x (Some true) e f = let h : k_and None (Some true) ≡ Some true = subst (λ (v : Option Bool). k_and v (Some true) ≡ Some true) e f in cc
and_unknown x y e f = let h : k_and None y ≡ Some true = subst (λ (v : Option Bool). k_and v y ≡ Some true) e f in cc

-- nothing is true beside what is unknown
pub and_never_true : (x y : Option Bool) → (y ≡ Some true → ⊥) → k_and x y ≡ Some true → ⊥
unfolding k_and
and_never_true None (Some true) live e = cc
and_never_true (Some true) y live e = live e
and_never_true _ _ live e = cc

or_true_left : (x y : Option Bool) → x ≡ Some true → k_or x y ≡ Some true
unfolding k_or k_not k_and
or_true_left x y e = rw e

or_true_right : (x y : Option Bool) → y ≡ Some true → k_or x y ≡ Some true
unfolding k_or k_not k_and
or_true_right (Some true) y e = refl
or_true_right _ y e = rw e

or_false : (x y : Option Bool) → x ≡ Some false → y ≡ Some false → k_or x y ≡ Some false
unfolding k_or k_not k_and
or_false x y e f = rw (e, f)

or_never_true : (x y : Option Bool) → (x ≡ Some true → ⊥) → (y ≡ Some true → ⊥) → k_or x y ≡ Some true → ⊥
unfolding k_or k_not k_and
or_never_true None (Some true) a b e = b refl
or_never_true (Some true) y a b e = a refl
or_never_true (Some false) (Some true) a b e = b refl
or_never_true _ _ a b e = cc

or_none_left : (x y : Option Bool) → x ≡ None → (y ≡ Some true → ⊥) → k_or x y ≡ None
unfolding k_or k_not k_and
or_none_left x (Some true) e live = absurd (live refl)
or_none_left x _ e live = rw e

or_none_right : (x y : Option Bool) → (x ≡ Some true → ⊥) → y ≡ None → k_or x y ≡ None
unfolding k_or k_not k_and
or_none_right (Some true) y live e = absurd (live refl)
or_none_right _ y live e = rw e

-- some time below n
pub some_true : (n : ℕ) (f : ℕ → Option Bool) (i : ℕ) → i < n → f i ≡ Some true → k_some_below n f ≡ Some true
unfolding k_some_below
some_true zero f i i_in e = absurd (omega arith)
some_true (suc n) f i i_in e = elim (cases_eq i n) [
  | inl here ↦ or_true_right _ _ (subst (λ (j : ℕ). f j ≡ Some true) here e)
  | inr below ↦ or_true_left _ _ (some_true n f i (omega arith) e)
]

pub some_false : (n : ℕ) (f : ℕ → Option Bool) → ((i : ℕ) → i < n → f i ≡ Some false) → k_some_below n f ≡ Some false
unfolding k_some_below
some_false zero f each = refl
some_false (suc n) f each = or_false _ _ (some_false n f (λ i h. each i (omega arith))) (each n (omega arith))

some_never_true : (n : ℕ) (f : ℕ → Option Bool) → ((i : ℕ) → i < n → f i ≡ Some true → ⊥) → k_some_below n f ≡ Some true → ⊥
unfolding k_some_below
some_never_true zero f each e = cc
some_never_true (suc n) f each e = or_never_true _ _ (some_never_true n f (λ i h. each i (omega arith))) (each n (omega arith)) e

pub some_none : (n : ℕ) (f : ℕ → Option Bool) (i : ℕ) → i < n → f i ≡ None → ((j : ℕ) → j < n → f j ≡ Some true → ⊥) → k_some_below n f ≡ None
unfolding k_some_below
some_none zero f i i_in e each = absurd (omega arith)
some_none (suc n) f i i_in e each = elim (cases_eq i n) [
  | inl here ↦ or_none_right _ _ (some_never_true n f (λ j h. each j (omega arith))) (subst (λ (j : ℕ). f j ≡ None) here e)
  | inr below ↦ or_none_left _ _ (some_none n f i (omega arith) e (λ j h. each j (omega arith))) (each n (omega arith))
]

-- every time below n
pub every_false : (n : ℕ) (f : ℕ → Option Bool) (i : ℕ) → i < n → f i ≡ Some false → k_every_below n f ≡ Some false
unfolding k_every_below
every_false zero f i i_in e = absurd (omega arith)
every_false (suc n) f i i_in e = elim (cases_eq i n) [
  | inl here ↦ and_false_right _ _ (subst (λ (j : ℕ). f j ≡ Some false) here e)
  | inr below ↦ and_false_left _ _ (every_false n f i (omega arith) e)
]

and_never_false : (x y : Option Bool) → (x ≡ Some false → ⊥) → (y ≡ Some false → ⊥) → k_and x y ≡ Some false → ⊥
unfolding k_and
and_never_false None (Some false) a b e = b refl
and_never_false (Some true) y a b e = b e
and_never_false (Some false) y a b e = a refl
and_never_false _ _ a b e = cc

every_never_false : (n : ℕ) (f : ℕ → Option Bool) → ((i : ℕ) → i < n → f i ≡ Some false → ⊥) → k_every_below n f ≡ Some false → ⊥
unfolding k_every_below
every_never_false zero f each e = cc
every_never_false (suc n) f each e = and_never_false _ _ (every_never_false n f (λ i h. each i (omega arith))) (each n (omega arith)) e

pub every_none : (n : ℕ) (f : ℕ → Option Bool) (i : ℕ) → i < n → f i ≡ None → ((j : ℕ) → j < n → f j ≡ Some false → ⊥) → k_every_below n f ≡ None
unfolding k_every_below
every_none zero f i i_in e each = absurd (omega arith)
every_none (suc n) f i i_in e each = elim (cases_eq i n) [
  | inl here ↦ and_none_right _ _ (every_never_false n f (λ j h. each j (omega arith))) (subst (λ (j : ℕ). f j ≡ None) here e)
  | inr below ↦ and_none_left _ _ (every_none n f i (omega arith) e (λ j h. each j (omega arith))) (each n (omega arith))
]

-- p holds at t + j from the lower end on and before k
pub before_true : (i : Interval) (p : Known) (t k : ℕ) → ((j : ℕ) → i.lo ≤ j → j < k → p (t + j) ≡ Some true) → k_every_in i.lo k (λ j. p (t + j)) ≡ Some true
before_true i p t k each = every_known (k - i.lo) (λ j. p (t + (i.lo + j))) (λ j h. each (i.lo + j) (omega arith) (omega arith))

pub before_false : (i : Interval) (p : Known) (t k j : ℕ) → i.lo ≤ j → j < k → p (t + j) ≡ Some false → k_every_in i.lo k (λ m. p (t + m)) ≡ Some false
before_false i p t k j from to e =
    let same : j ≡ i.lo + (j - i.lo) = omega arith in
    every_false (k - i.lo) (λ m. p (t + (i.lo + m))) (j - i.lo) (omega arith) (subst (λ (m : ℕ). p (t + m) ≡ Some false) same e)

pub before_none : (i : Interval) (p : Known) (t k j : ℕ) → i.lo ≤ j → j < k → p (t + j) ≡ None → ((m : ℕ) → i.lo ≤ m → m < k → p (t + m) ≡ Some false → ⊥) → k_every_in i.lo k (λ m. p (t + m)) ≡ None
before_none i p t k j from to e each =
    let same : j ≡ i.lo + (j - i.lo) = omega arith in
    every_none (k - i.lo) (λ m. p (t + (i.lo + m))) (j - i.lo) (omega arith) (subst (λ (m : ℕ). p (t + m) ≡ None) same e) (λ m h. each (i.lo + m) (omega arith) (omega arith))

-- one way in which the until may hold: the right operand at t + k, and the left one before
abbrev pub way : Interval → Known → Known → ℕ → ℕ → Option Bool
way i p q t k = k_and (q (t + k)) (k_every_in i.lo k (λ j. p (t + j)))

pub until_true : (i : Interval) (p q : Known) (t k : ℕ) → i.lo ≤ k → k ≤ i.hi → way i p q t k ≡ Some true → k_until i p q t ≡ Some true
until_true i p q t k from to e =
    let same : k ≡ i.lo + (k - i.lo) = omega arith in
    some_true (suc i.hi - i.lo) (λ m. way i p q t (i.lo + m)) (k - i.lo) (omega arith) (subst (λ (m : ℕ). way i p q t m ≡ Some true) same e)

pub until_false : (i : Interval) (p q : Known) (t : ℕ) → ((k : ℕ) → i.lo ≤ k → k ≤ i.hi → way i p q t k ≡ Some false) → k_until i p q t ≡ Some false
until_false i p q t each = some_false (suc i.hi - i.lo) (λ m. way i p q t (i.lo + m)) (λ m h. each (i.lo + m) (omega arith) (omega arith))

pub until_none : (i : Interval) (p q : Known) (t k : ℕ) → i.lo ≤ k → k ≤ i.hi → way i p q t k ≡ None → ((m : ℕ) → i.lo ≤ m → m ≤ i.hi → way i p q t m ≡ Some true → ⊥) → k_until i p q t ≡ None
until_none i p q t k from to e each =
    let same : k ≡ i.lo + (k - i.lo) = omega arith in
    some_none (suc i.hi - i.lo) (λ m. way i p q t (i.lo + m)) (k - i.lo) (omega arith) (subst (λ (m : ℕ). way i p q t m ≡ None) same e) (λ m h. each (i.lo + m) (omega arith) (omega arith))
