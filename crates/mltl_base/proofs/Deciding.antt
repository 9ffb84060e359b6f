-- The meaning decides the table of the operators.

use Rattle.std.proofs.Common.{◌≡◌, ℕ, zero, suc, ◌+◌, ◌-◌, ◌<◌, ◌≤◌, ◌⊎◌, inl, inr, Bool, true, false, not, ◌&&◌, ◌||◌, Decides, nat_le, List, refl, subst, arith}
use Rattle.std.proofs.lemmas.Bool.{le-leb, leb-true}
use Rattle.std.proofs.lemmas.Bool.Decides.{Decides-like, Decides-not, Decides-and, Decides-or}
use Rattle.mltl_base.specs.declared.interval.Interval.{Interval}
use Rattle.mltl_base.specs.Atoms.{Row}
use Rattle.mltl_base.specs.Formula.{Formula, truth, falsity, atom, negation, conjunction, disjunction, implication, equivalence, finally, globally, until, release, once, historically, since}
use Rattle.mltl_base.specs.Kleene.{some_below, every_below, some_in, every_in}
use Rattle.mltl_base.specs.Meaning.{within, until_at, since_at, sat}
use Rattle.mltl_base.specs.Table.{UntilAt, SinceAt, Holds}

implies_decides : {P Q : Type 0} (x y : Bool) → Decides x P → Decides y Q → Decides (not x || y) (P → Q)
implies_decides true true f g = (λ e p. g.0 refl, λ h. refl)
implies_decides true false f g = (λ e p. absurd (cc), λ h. g.1 (h (f.0 refl)))
implies_decides false y f g = (λ e p. absurd (let h = f.1 p in cc), λ h. refl)

some_more : {P : ℕ → Type 0} (n : ℕ) → ((k : ℕ) × (k < n) × P k) ⊎ P n → (k : ℕ) × (k < suc n) × P k
some_more n (inl h) = (h.0, let l = h.1 in omega arith, h.2)
some_more n (inr h) = (n, omega arith, h)

some_less : {P : ℕ → Type 0} (n k : ℕ) → k < suc n → P k → ((j : ℕ) × (j < n) × P j) ⊎ P n
some_less {P} n k l h = go (Rattle.std.proofs.lemmas.Bool.cases_lt k n)
  where
    go : (k < n) ⊎ (n ≤ k) → ((j : ℕ) × (j < n) × P j) ⊎ P n
    go (inl c) = inl (k, c, h)
    go (inr c) = let e : k ≡ n = omega arith in inr (subst P e h)

some_decides : (n : ℕ) (f : ℕ → Bool) (P : ℕ → Type 0) → ((k : ℕ) → Decides (f k) (P k)) → Decides (some_below n f) ((k : ℕ) × (k < n) × P k)
unfolding some_below
some_decides zero f P h = (λ e. absurd (cc), λ w. absurd (let l = w.1 in omega arith))
some_decides (suc n) f P h =
    Decides-like (some_below n f || f n) (some_more n) (λ w. some_less {P = P} n w.0 w.1 w.2) (Decides-or (some_below n f) (f n) (some_decides n f P h) (h n))

every_more : {P : ℕ → Type 0} (n : ℕ) → ((k : ℕ) → k < n → P k) × P n → (k : ℕ) → k < suc n → P k
every_more {P} n h k l = go (Rattle.std.proofs.lemmas.Bool.cases_lt k n)
  where
    go : (k < n) ⊎ (n ≤ k) → P k
    go (inl c) = h.0 k c
    go (inr c) = let e : n ≡ k = omega arith in subst P e h.1

pub every_decides : (n : ℕ) (f : ℕ → Bool) (P : ℕ → Type 0) → ((k : ℕ) → Decides (f k) (P k)) → Decides (every_below n f) ((k : ℕ) → k < n → P k)
unfolding every_below
every_decides zero f P h = (λ e k l. absurd (omega arith), λ w. refl)
every_decides (suc n) f P h =
    Decides-like (every_below n f && f n) (every_more {P = P} n) (λ w. (λ k l. w k (omega arith), w n (omega arith))) (Decides-and (every_below n f) (f n) (every_decides n f P h) (h n))

-- windows
at_place : (P : ℕ → Type 0) (lo k : ℕ) → lo ≤ k → P k → P (lo + (k - lo))
at_place P lo k l h = let e : k ≡ lo + (k - lo) = omega arith in subst P e h

from_place : (P : ℕ → Type 0) (lo k : ℕ) → lo ≤ k → P (lo + (k - lo)) → P k
from_place P lo k l h = let e : lo + (k - lo) ≡ k = omega arith in subst P e h

some_in_decides : (lo hi : ℕ) (f : ℕ → Bool) (P : ℕ → Type 0) → ((k : ℕ) → Decides (f k) (P k)) → Decides (some_in lo (suc hi) f) ((k : ℕ) × (lo ≤ k) × (k ≤ hi) × P k)
some_in_decides lo hi f P h =
    Decides-like (some_in lo (suc hi) f)
    (λ w. (lo + w.0, omega arith, let l = w.1 in omega arith, w.2))
    (λ w. (w.0 - lo, let l = w.1 in let m = w.2 in omega arith, at_place P lo w.0 w.1 w.3))
    (some_decides (suc hi - lo) (λ k. f (lo + k)) (λ k. P (lo + k)) (λ k. h (lo + k)))

every_in_decides : (lo hi : ℕ) (f : ℕ → Bool) (P : ℕ → Type 0) → ((k : ℕ) → Decides (f k) (P k)) → Decides (every_in lo hi f) ((k : ℕ) → lo ≤ k → k < hi → P k)
every_in_decides lo hi f P h =
    Decides-like (every_in lo hi f)
    (λ w k l m. from_place P lo k l (w (k - lo) (omega arith)))
    (λ w k l. w (lo + k) (omega arith) (omega arith))
    (every_decides (hi - lo) (λ k. f (lo + k)) (λ k. P (lo + k)) (λ k. h (lo + k)))

le_decides : (a b : ℕ) → Decides (nat_le a b) (a ≤ b)
le_decides a b = (leb-true a b, le-leb a b)

within_decides : (i : Interval) (d : ℕ) → Decides (within i d) ((i.lo ≤ d) × (d ≤ i.hi))
within_decides i d = Decides-and (nat_le i.lo d) (nat_le d i.hi) (le_decides i.lo d) (le_decides d i.hi)

until_decides : (i : Interval) (f g : ℕ → Bool) (P Q : ℕ → Type 0) (t : ℕ) → ((s : ℕ) → Decides (f s) (P s)) → ((s : ℕ) → Decides (g s) (Q s)) → Decides (until_at i f g t) (UntilAt i P Q t)
until_decides i f g P Q t u v =
    Decides-like (until_at i f g t)
    (λ w. (w.0, w.1, w.2, w.3.0, w.3.1))
    (λ w. (w.0, w.1, w.2, (w.3, w.4)))
    (some_in_decides i.lo i.hi (λ k. g (t + k) && every_in i.lo k (λ j. f (t + j))) (λ k. Q (t + k) × ((j : ℕ) → i.lo ≤ j → j < k → P (t + j)))
    (λ k. Decides-and (g (t + k)) (every_in i.lo k (λ j. f (t + j))) (v (t + k)) (every_in_decides i.lo k (λ j. f (t + j)) (λ j. P (t + j)) (λ j. u (t + j)))))

once_decides : (i : Interval) (f : ℕ → Bool) (P : ℕ → Type 0) (t : ℕ) → ((s : ℕ) → Decides (f s) (P s)) →
    Decides (some_below (suc t) (λ m. within i (t - m) && f m)) ((m : ℕ) × (m ≤ t) × (i.lo ≤ t - m) × (t - m ≤ i.hi) × P m)
once_decides i f P t u =
    Decides-like (some_below (suc t) (λ m. within i (t - m) && f m))
    (λ w. (w.0, let l = w.1 in omega arith, w.2.0.0, w.2.0.1, w.2.1))
    (λ w. (w.0, let l = w.1 in omega arith, ((w.2, w.3), w.4)))
    (some_decides (suc t) (λ m. within i (t - m) && f m) (λ m. ((i.lo ≤ t - m) × (t - m ≤ i.hi)) × P m) (λ m. Decides-and (within i (t - m)) (f m) (within_decides i (t - m)) (u m)))

historically_decides : (i : Interval) (f : ℕ → Bool) (P : ℕ → Type 0) (t : ℕ) → ((s : ℕ) → Decides (f s) (P s)) →
    Decides (every_below (suc t) (λ m. not (within i (t - m)) || f m)) ((m : ℕ) → m ≤ t → i.lo ≤ t - m → t - m ≤ i.hi → P m)
historically_decides i f P t u =
    Decides-like (every_below (suc t) (λ m. not (within i (t - m)) || f m))
    (λ w m l a b. w m (omega arith) (a, b))
    (λ w m l h. w m (omega arith) h.0 h.1)
    (every_decides (suc t) (λ m. not (within i (t - m)) || f m) (λ m. (i.lo ≤ t - m) × (t - m ≤ i.hi) → P m) (λ m. implies_decides (within i (t - m)) (f m) (within_decides i (t - m)) (u m)))

since_decides : (i : Interval) (f g : ℕ → Bool) (P Q : ℕ → Type 0) (t : ℕ) → ((s : ℕ) → Decides (f s) (P s)) → ((s : ℕ) → Decides (g s) (Q s)) → Decides (since_at i f g t) (SinceAt i P Q t)
since_decides i f g P Q t u v =
    Decides-like (since_at i f g t)
    (λ w. (w.0, let l = w.1 in omega arith, w.2.0.0, w.2.0.1, w.2.1.0, λ k a b. w.2.1.1 k a (omega arith)))
    (λ w. (w.0, let l = w.1 in omega arith, ((w.2, w.3), (w.4, λ k a b. w.5 k a (omega arith)))))
    (some_decides (suc t) (λ m. within i (t - m) && (g m && every_in (suc m) (suc t) f))
    (λ m. ((i.lo ≤ t - m) × (t - m ≤ i.hi)) × (Q m × ((k : ℕ) → m < k → k < suc t → P k)))
    (λ m. Decides-and (within i (t - m)) (g m && every_in (suc m) (suc t) f) (within_decides i (t - m))
    (Decides-and (g m) (every_in (suc m) (suc t) f) (v m) (every_in_decides (suc m) (suc t) f P u))))

pub sat_decides : (rows : List Row) (p : Formula) (t : ℕ) → Decides (sat rows p t) (Holds rows p t)
unfolding sat Holds
sat_decides rows truth t = (λ e. tt, λ h. refl)
sat_decides rows falsity t = (λ e. cc, λ h. absurd h)
sat_decides rows (atom a) t = (λ e. e, λ h. h)
sat_decides rows (negation p) t = Decides-not (sat rows p t) (sat_decides rows p t)
sat_decides rows (conjunction p q) t = Decides-and (sat rows p t) (sat rows q t) (sat_decides rows p t) (sat_decides rows q t)
sat_decides rows (disjunction p q) t = Decides-or (sat rows p t) (sat rows q t) (sat_decides rows p t) (sat_decides rows q t)
sat_decides rows (implication p q) t = implies_decides (sat rows p t) (sat rows q t) (sat_decides rows p t) (sat_decides rows q t)
sat_decides rows (equivalence p q) t =
    Decides-and (not (sat rows p t) || sat rows q t) (not (sat rows q t) || sat rows p t)
    (implies_decides (sat rows p t) (sat rows q t) (sat_decides rows p t) (sat_decides rows q t))
    (implies_decides (sat rows q t) (sat rows p t) (sat_decides rows q t) (sat_decides rows p t))
sat_decides rows (finally i p) t = some_in_decides i.lo i.hi (λ k. sat rows p (t + k)) (λ k. Holds rows p (t + k)) (λ k. sat_decides rows p (t + k))
sat_decides rows (globally i p) t =
    Decides-like (every_in i.lo (suc i.hi) (λ k. sat rows p (t + k))) (λ w k l m. w k l (omega arith)) (λ w k l m. w k l (omega arith))
    (every_in_decides i.lo (suc i.hi) (λ k. sat rows p (t + k)) (λ k. Holds rows p (t + k)) (λ k. sat_decides rows p (t + k)))
sat_decides rows (until i p q) t = until_decides i (sat rows p) (sat rows q) (Holds rows p) (Holds rows q) t (sat_decides rows p) (sat_decides rows q)
sat_decides rows (release i p q) t =
    Decides-not (until_at i (λ s. not (sat rows p s)) (λ s. not (sat rows q s)) t)
    (until_decides i (λ s. not (sat rows p s)) (λ s. not (sat rows q s)) (λ s. Holds rows p s → ⊥) (λ s. Holds rows q s → ⊥) t
    (λ s. Decides-not (sat rows p s) (sat_decides rows p s)) (λ s. Decides-not (sat rows q s) (sat_decides rows q s)))
sat_decides rows (once i p) t = once_decides i (sat rows p) (Holds rows p) t (sat_decides rows p)
sat_decides rows (historically i p) t = historically_decides i (sat rows p) (Holds rows p) t (sat_decides rows p)
sat_decides rows (since i p q) t = since_decides i (sat rows p) (sat rows q) (Holds rows p) (Holds rows q) t (sat_decides rows p) (sat_decides rows q)
