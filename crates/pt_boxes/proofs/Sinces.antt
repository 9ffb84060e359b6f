-- What the first rows tell of a Since.
use Rattle.std.proofs.Common.{◌≡◌, ℕ, zero, suc, ◌+◌, ◌-◌, ◌<◌, ◌≤◌, Bool, true, false, ◌&&◌, ◌||◌, arith, refl, ap, ap₂, ◌∙◌}
use Rattle.std.proofs.Math.Bool.{and-true}
use Rattle.mltl_base.specs.declared.interval.Interval.{Interval}
use Rattle.mltl_base.specs.Kleene.{some_below, every_below, every_in}
use Rattle.mltl_base.specs.Meaning.{within}
use Rattle.pt_boxes.specs.Spans.{since_after}

-- functions that agree below n
pub some_same : (n : ℕ) (f g : ℕ → Bool) → ((k : ℕ) → k < n → f k ≡ g k) → some_below n f ≡ some_below n g
unfolding some_below
some_same zero f g h = refl
some_same (suc n) f g h = ap₂ (λ (x y : Bool). x || y) (some_same n f g (λ k l. h k (omega arith))) (h n (omega arith))

pub every_same : (n : ℕ) (f g : ℕ → Bool) → ((k : ℕ) → k < n → f k ≡ g k) → every_below n f ≡ every_below n g
unfolding every_below
every_same zero f g h = refl
every_same (suc n) f g h = ap₂ (λ (x y : Bool). x && y) (every_same n f g (λ k l. h k (omega arith))) (h n (omega arith))

-- of p and q the rows tell by their values at the rows alone
pub since_after_same : (i : Interval) (p p' q q' : ℕ → Bool) (n u : ℕ) → ((t : ℕ) → t < n → p t ≡ p' t) → ((t : ℕ) → t < n → q t ≡ q' t) → since_after i p q n u ≡ since_after i p' q' n u
since_after_same i p p' q q' n u same_p same_q =
    some_same n _ _ (λ m m_in. ap₂ (λ (x y : Bool). within i (u - m) && (x && y)) (same_q m m_in) (every_same (n - suc m) _ _ (λ k k_in. same_p (suc m + k) (omega arith))))

-- one more time
every_more : (lo n : ℕ) (p : ℕ → Bool) → lo ≤ n → every_in lo (suc n) p ≡ (every_in lo n p && p n)
unfolding every_below
every_more lo n p h =
    let more : suc n - lo ≡ suc (n - lo) = omega arith in
    let end : lo + (n - lo) ≡ n = omega arith in
    ap (λ (m : ℕ). every_below m (λ k. p (lo + k))) more ∙ ap (λ (t : ℕ). every_below (n - lo) (λ k. p (lo + k)) && p t) end

every_none : (n : ℕ) (p : ℕ → Bool) → every_in n n p ≡ true
unfolding every_below
every_none n p =
    let none : n - n ≡ 0 = omega arith in
    ap (λ (m : ℕ). every_below m (λ k. p (n + k))) none

and_or : (x y b : Bool) → ((x && b) || (y && b)) ≡ ((x || y) && b)
and_or true y true = refl
and_or false y true = refl
and_or true true false = refl
and_or true false false = refl
and_or false y false = refl

and_and : (w x y b : Bool) → (w && (x && (y && b))) ≡ ((w && (x && y)) && b)
and_and true true y b = refl
and_and true false y b = refl
and_and false x y b = refl

some_and : (n : ℕ) (f : ℕ → Bool) (b : Bool) → some_below n (λ k. f k && b) ≡ (some_below n f && b)
unfolding some_below
some_and zero f b = refl
some_and (suc n) f b = ap (λ (x : Bool). x || (f n && b)) (some_and n f b) ∙ and_or (some_below n f) (f n) b

-- one more row keeps what was told where p holds, and adds the stretch that q opens
pub since_after_more : (i : Interval) (p q : ℕ → Bool) (n u : ℕ) → since_after i p q (suc n) u ≡ ((since_after i p q n u && p n) || (within i (u - n) && q n))
unfolding some_below
since_after_more i p q n u =
    let earlier : some_below n (λ m. within i (u - m) && (q m && every_in (suc m) (suc n) p)) ≡ (since_after i p q n u && p n) =
    some_same n _ _ (λ m m_in. ap (λ (x : Bool). within i (u - m) && (q m && x)) (every_more (suc m) n p (omega arith)) ∙ and_and (within i (u - m)) (q m) (every_in (suc m) n p) (p n))
    ∙ some_and n (λ m. within i (u - m) && (q m && every_in (suc m) n p)) (p n) in
    let last : (within i (u - n) && (q n && every_in (suc n) (suc n) p)) ≡ (within i (u - n) && q n) =
    ap (λ (x : Bool). within i (u - n) && (q n && x)) (every_none (suc n) p) ∙ ap (λ (x : Bool). within i (u - n) && x) (and-true (q n)) in
    ap₂ (λ (x y : Bool). x || y) earlier last
