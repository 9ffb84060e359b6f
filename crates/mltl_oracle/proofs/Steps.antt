-- A loop over a window keeps the Kleene value of the times that it has passed.

use Rattle.std.proofs.Common.{◌≡◌, ℕ, suc, ◌+◌, ◌-◌, ◌≤◌, Bool, true, false, Option, Some, refl, sym, ap, ap₂, ◌∙◌, arith}
use Rattle.mltl_base.specs.Kleene.{k_and, k_or, k_some_below, k_every_below, k_some_in, k_every_in}

-- the value over the times from lo on and before j
pub record SomeSo (lo j : ℕ) (f : ℕ → Option Bool) (x : Option Bool) : Type 0 where
  pub is : x ≡ k_some_in lo j f

pub record EverySo (lo j : ℕ) (f : ℕ → Option Bool) (x : Option Bool) : Type 0 where
  pub is : x ≡ k_every_in lo j f

pub some_start : (lo : ℕ) (f : ℕ → Option Bool) → SomeSo lo lo f (Some false)
unfolding k_some_below
some_start lo f = record { is = let e : lo - lo ≡ 0 = omega arith in rw e refl }

pub every_start : (lo : ℕ) (f : ℕ → Option Bool) → EverySo lo lo f (Some true)
unfolding k_every_below
every_start lo f = record { is = let e : lo - lo ≡ 0 = omega arith in rw e refl }

pub some_next : (lo j : ℕ) (f : ℕ → Option Bool) (x y z : Option Bool) → lo ≤ j → SomeSo lo j f x → y ≡ f j → z ≡ k_or x y → SomeSo lo (j + 1) f z
unfolding k_some_below
some_next lo j f x y z l h e g =
    let s : (j + 1) - lo ≡ suc (j - lo) = omega arith in
    let p : lo + (j - lo) ≡ j = omega arith in
    record { is = g ∙ rw s (ap₂ k_or h.is (e ∙ ap f (sym p))) }

pub every_next : (lo j : ℕ) (f : ℕ → Option Bool) (x y z : Option Bool) → lo ≤ j → EverySo lo j f x → y ≡ f j → z ≡ k_and x y → EverySo lo (j + 1) f z
unfolding k_every_below
every_next lo j f x y z l h e g =
    let s : (j + 1) - lo ≡ suc (j - lo) = omega arith in
    let p : lo + (j - lo) ≡ j = omega arith in
    record { is = g ∙ rw s (ap₂ k_and h.is (e ∙ ap f (sym p))) }

-- at the end of the loop
pub some_end : (lo j hi : ℕ) (f : ℕ → Option Bool) (x : Option Bool) → SomeSo lo j f x → j - lo ≡ hi - lo → x ≡ k_some_in lo hi f
some_end lo j hi f x h e = h.is ∙ ap (λ n. k_some_below n (λ k. f (lo + k))) e

pub every_end : (lo j hi : ℕ) (f : ℕ → Option Bool) (x : Option Bool) → EverySo lo j f x → j - lo ≡ hi - lo → x ≡ k_every_in lo hi f
every_end lo j hi f x h e = h.is ∙ ap (λ n. k_every_below n (λ k. f (lo + k))) e

-- over the times from 0 on
pub record SomeBelow (j : ℕ) (f : ℕ → Option Bool) (x : Option Bool) : Type 0 where
  pub is : x ≡ k_some_below j f

pub record EveryBelow (j : ℕ) (f : ℕ → Option Bool) (x : Option Bool) : Type 0 where
  pub is : x ≡ k_every_below j f

pub below_start : (f : ℕ → Option Bool) → SomeBelow 0 f (Some false)
unfolding k_some_below
below_start f = record { is = refl }

pub all_start : (f : ℕ → Option Bool) → EveryBelow 0 f (Some true)
unfolding k_every_below
all_start f = record { is = refl }

pub below_next : (j : ℕ) (f : ℕ → Option Bool) (x y z : Option Bool) → SomeBelow j f x → y ≡ f j → z ≡ k_or x y → SomeBelow (j + 1) f z
unfolding k_some_below
below_next j f x y z h e g = record { is = g ∙ (let s : j + 1 ≡ suc j = omega arith in rw s (ap₂ k_or h.is e)) }

pub all_next : (j : ℕ) (f : ℕ → Option Bool) (x y z : Option Bool) → EveryBelow j f x → y ≡ f j → z ≡ k_and x y → EveryBelow (j + 1) f z
unfolding k_every_below
all_next j f x y z h e g = record { is = g ∙ (let s : j + 1 ≡ suc j = omega arith in rw s (ap₂ k_and h.is e)) }

-- at the end of a loop over the times after m
pub after_end : (m t k : ℕ) (f : ℕ → Option Bool) (x : Option Bool) → EverySo (m + 1) k f x → k ≡ t + 1 → x ≡ k_every_in (suc m) (suc t) f
after_end m t k f x h e =
    let n : k - (m + 1) ≡ suc t - suc m = omega arith in
    let s : m + 1 ≡ suc m = omega arith in
    h.is ∙ (ap (λ n. k_every_below n (λ j. f ((m + 1) + j))) n ∙ ap (λ a. k_every_below (suc t - suc m) (λ j. f (a + j))) s)
