-- A core formula has the known verdicts of its formula.

use Rattle.std.proofs.Common.{◌≡◌, ℕ, zero, suc, ◌+◌, ◌-◌, ◌<◌, ◌≤◌, Bool, true, false, not, Option, Some, None, List, [], ◌∷◌, length, map, slice_get, refl, sym, ap, ap₂, ◌∙◌, arith}
use mathlib.Core.Path.{fun_ext}
use Rattle.mltl_base.specs.declared.interval.Interval.{Interval}
use Rattle.mltl_base.specs.Atoms.{Row, Atom, is_true, equal, less, at_most, different, greater, at_least, holds}
use Rattle.mltl_base.specs.Formula.{Formula, truth, falsity, atom, negation, conjunction, disjunction, implication, equivalence, finally, globally, until, release, once, historically, since, Core, ctrue, catom, cnot, cand, cuntil, csince, plain, neg, core, core_atom}
use Rattle.mltl_base.specs.Kleene.{k_not, k_and, k_or, k_implies, k_some_below, k_every_below}
use Rattle.mltl_base.specs.Meaning.{within}
use Rattle.mltl_base.specs.Verdicts.{Known, k_negation, k_conjunction, k_implication, k_equivalence, k_finally, k_until, k_once, k_since, followed, known_front, kleene_over, verdicts}
use Rattle.mltl_base.proofs.Order.{below_and, Found, found_and, NotFalse, unknown_and}
use Rattle.mltl_base.proofs.Fronts.{front_below}
use Rattle.mltl_base.proofs.Bounds.{verdicts_fit}
use Rattle.mltl_base.proofs.Unique.{front_same, front_equal, front_self}
use Rattle.mltl_base.proofs.Leaves.{front_map, truth_verdicts}

k_not_not : (x : Option Bool) → k_not (k_not x) ≡ x
unfolding k_not
k_not_not None = refl
k_not_not (Some true) = refl
k_not_not (Some false) = refl

found_of_not : (x : Option Bool) → Found (k_not x) → Found x
unfolding k_not
found_of_not None h = h
found_of_not (Some v) h = tt

-- negating a known list, and what was known of it
pub front_not : (k : Known) (n : ℕ) → known_front (λ t. k_not (slice_get (known_front k n) t)) n ≡ known_front (λ t. k_not (k t)) n
unfolding known_front k_not
front_not k zero = refl
front_not k (suc n) = go (k 0) (front_not (λ t. k (suc t)) n)
  where
    rest : List Bool
    rest = known_front (λ t. k (suc t)) n

    go : (x : Option Bool) → known_front (λ t. k_not (slice_get rest t)) n ≡ known_front (λ t. k_not (k (suc t))) n →
        followed (k_not (slice_get (followed x rest) 0)) (known_front (λ t. k_not (slice_get (followed x rest) (suc t))) n) ≡ followed (k_not x) (known_front (λ t. k_not (k (suc t))) n)
    go None h = refl
    go (Some v) h = ap (◌∷◌ (not v)) h

-- the negation of a known list is known where the list is
pub not_get : (vs : List Bool) (n t : ℕ) → length vs ≤ n → slice_get (known_front (λ s. k_not (slice_get vs s)) n) t ≡ k_not (slice_get vs t)
unfolding known_front k_not
not_get [] zero t l = refl
not_get [] (suc n) t l = refl
not_get (v ∷ vs) zero t l = absurd (omega arith)
not_get (v ∷ vs) (suc n) zero l = refl
not_get (v ∷ vs) (suc n) (suc t) l = not_get vs n t (omega arith)

pub neg_verdicts : (rows : List Row) (p : Core) → verdicts rows (plain (neg p)) ≡ known_front (λ t. k_not (slice_get (verdicts rows (plain p)) t)) (length rows)
unfolding verdicts kleene_over plain neg
neg_verdicts rows ctrue = refl
neg_verdicts rows (catom a) = refl
neg_verdicts rows (cnot p) =
    sym (front_not (k_negation (slice_get (verdicts rows (plain p)))) (length rows)
    ∙ (ap (λ (k : Known). known_front k (length rows)) (fun_ext (λ t. k_not_not (slice_get (verdicts rows (plain p)) t)))
    ∙ front_self (verdicts rows (plain p)) (length rows) (verdicts_fit rows (plain p))))
neg_verdicts rows (cand p q) = refl
neg_verdicts rows (cuntil i p q) = refl
neg_verdicts rows (csince i p q) = refl

-- the negation of a core formula, over the known verdicts of the formula
neg_get : (rows : List Row) (p : Core) (vs : List Bool) → verdicts rows (plain p) ≡ vs → slice_get (verdicts rows (plain (neg p))) ≡ (λ t. k_not (slice_get vs t))
neg_get rows p vs h =
    let l : length vs ≤ length rows = rw h at (verdicts_fit rows (plain p)) in
    ap (λ (us : List Bool). slice_get us) (neg_verdicts rows p ∙ ap (λ (us : List Bool). known_front (λ t. k_not (slice_get us t)) (length rows)) h)
    ∙ fun_ext (λ t. not_get vs (length rows) t l)

neg_front : (rows : List Row) (p : Core) (k : Known) → verdicts rows (plain p) ≡ known_front k (length rows) → verdicts rows (plain (neg p)) ≡ known_front (λ t. k_not (k t)) (length rows)
neg_front rows p k h =
    neg_verdicts rows p
    ∙ (ap (λ (us : List Bool). known_front (λ t. k_not (slice_get us t)) (length rows)) h ∙ front_not k (length rows))

implied_verdicts : (rows : List Row) (p q : Core) (us vs : List Bool) → verdicts rows (plain p) ≡ us → verdicts rows (plain q) ≡ vs →
    verdicts rows (plain (neg (cand p (neg q)))) ≡ known_front (k_implication (slice_get us) (slice_get vs)) (length rows)
unfolding verdicts kleene_over plain
implied_verdicts rows p q us vs f g =
    neg_front rows (cand p (neg q)) (k_conjunction (slice_get (verdicts rows (plain p))) (slice_get (verdicts rows (plain (neg q))))) refl
    ∙ ap₂ (λ (k l : Known). known_front (λ t. k_not (k_and (k t) (l t))) (length rows)) (ap (λ (xs : List Bool). slice_get xs) f) (neg_get rows q vs g)

-- an equivalence is known just where both implications are
both_found : (x y : Option Bool) → Found (k_and (k_implies x y) (k_implies y x)) → Found (k_implies x y) × Found (k_implies y x)
unfolding k_and k_not
both_found None None h = absurd h
both_found None (Some true) h = absurd h
both_found None (Some false) h = absurd h
both_found (Some true) None h = absurd h
both_found (Some false) None h = absurd h
both_found (Some true) (Some true) h = (tt, tt)
both_found (Some true) (Some false) h = (tt, tt)
both_found (Some false) (Some true) h = (tt, tt)
both_found (Some false) (Some false) h = (tt, tt)

reaches_cases : (x : Option Bool) (vs : List Bool) (t : ℕ) → Found x → Found (slice_get vs t) → Found (slice_get (followed x vs) (suc t))
reaches_cases None vs t f h = absurd f
reaches_cases (Some v) vs t f h = h

front_first : (x : Option Bool) (vs : List Bool) → Found x → Found (slice_get (followed x vs) 0)
front_first None vs f = absurd f
front_first (Some v) vs f = tt

pub front_reaches : (k : Known) (n t : ℕ) → t < n → ((s : ℕ) → s ≤ t → Found (k s)) → Found (slice_get (known_front k n) t)
unfolding known_front
front_reaches k zero t l h = absurd (omega arith)
front_reaches k (suc n) zero l h = front_first (k 0) (known_front (λ t. k (suc t)) n) (h 0 (omega arith))
front_reaches k (suc n) (suc t) l h =
    reaches_cases (k 0) (known_front (λ t. k (suc t)) n) t (h 0 (omega arith)) (front_reaches (λ t. k (suc t)) n t (omega arith) (λ s c. h (suc s) (omega arith)))

iff_front : (p q : Known) (n : ℕ) →
    known_front (k_conjunction (slice_get (known_front (k_implication p q) n)) (slice_get (known_front (k_implication q p) n))) n ≡ known_front (k_equivalence p q) n
iff_front p q n =
    front_same _ (k_equivalence p q) n
    (λ t l. below_and _ _ (k_implies (p t) (q t)) (k_implies (q t) (p t)) (front_below (k_implication p q) n t) (front_below (k_implication q p) n t))
    (λ t l h. found_and _ _
    (front_reaches (k_implication p q) n t l (λ s c. (both_found (p s) (q s) (h s c)).0))
    (front_reaches (k_implication q p) n t l (λ s c. (both_found (p s) (q s) (h s c)).1)))

-- what is known of true
truth_known : (rows : List Row) (t : ℕ) → t < length rows → slice_get (map (λ r. true) rows) t ≡ Some true
truth_known [] t l = absurd (omega arith)
truth_known (r ∷ rows) zero l = refl
truth_known (r ∷ rows) (suc t) l = truth_known rows t (omega arith)

truth_not_false : (rows : List Row) (t : ℕ) → NotFalse (slice_get (map (λ r. true) rows) t)
truth_not_false [] t = tt
truth_not_false (r ∷ rows) zero = tt
truth_not_false (r ∷ rows) (suc t) = truth_not_false rows t

and_not_false : (x y : Option Bool) → NotFalse x → NotFalse y → NotFalse (k_and x y)
unfolding k_and
and_not_false None None f g = tt
and_not_false None (Some true) f g = tt
and_not_false None (Some false) f g = absurd g
and_not_false (Some true) y f g = g
and_not_false (Some false) y f g = absurd f

every_not_false : (n : ℕ) (f : ℕ → Option Bool) → ((k : ℕ) → NotFalse (f k)) → NotFalse (k_every_below n f)
unfolding k_every_below
every_not_false zero f h = tt
every_not_false (suc n) f h = and_not_false (k_every_below n f) (f n) (every_not_false n f h) (h n)

pub every_known : (n : ℕ) (f : ℕ → Option Bool) → ((k : ℕ) → k < n → f k ≡ Some true) → k_every_below n f ≡ Some true
unfolding k_every_below k_and
every_known zero f h = refl
every_known (suc n) f h = rw (every_known n f (λ k l. h k (omega arith)), h n (omega arith)) refl

k_and_true : (x : Option Bool) → k_and x (Some true) ≡ x
unfolding k_and
k_and_true None = refl
k_and_true (Some true) = refl
k_and_true (Some false) = refl

while_cases : (x y : Option Bool) → NotFalse y → (Found x → y ≡ Some true) → k_and x y ≡ x
while_cases None y f g = unknown_and y f
while_cases (Some v) y f g = rw (g tt) (k_and_true (Some v))

found_inside : (vs : List Bool) (t : ℕ) → Found (slice_get vs t) → t < length vs
found_inside [] t h = absurd h
found_inside (v ∷ vs) zero h = omega arith
found_inside (v ∷ vs) (suc t) h = let l = found_inside vs t h in omega arith

-- true until, and true since
until_known : (i : Interval) (rows : List Row) (vs : List Bool) → length vs ≤ length rows → (t : ℕ) → k_until i (slice_get (verdicts rows truth)) (slice_get vs) t ≡ k_finally i (slice_get vs) t
until_known i rows vs l t =
    rw (truth_verdicts rows)
    (ap (k_some_below (suc i.hi - i.lo)) (fun_ext (λ k. while_cases (slice_get vs (t + (i.lo + k))) _
    (every_not_false (i.lo + k - i.lo) _ (λ j. truth_not_false rows (t + (i.lo + j))))
    (λ f. every_known (i.lo + k - i.lo) _ (λ j c. truth_known rows (t + (i.lo + j)) (let g : t + (i.lo + k) < length vs = found_inside vs (t + (i.lo + k)) f in omega arith))))))

since_known : (i : Interval) (rows : List Row) (vs : List Bool) (t : ℕ) → t < length rows → k_since i (slice_get (verdicts rows truth)) (slice_get vs) t ≡ k_once i (slice_get vs) t
since_known i rows vs t l =
    rw (truth_verdicts rows)
    (ap (k_some_below (suc t)) (fun_ext (λ m. ap (k_and (Some (within i (t - m))))
    (ap (k_and (slice_get vs m)) (every_known (suc t - suc m) _ (λ j c. truth_known rows (suc m + j) (omega arith))) ∙ k_and_true (slice_get vs m)))))

-- every is not some not
k_every_core : (n : ℕ) (f : ℕ → Option Bool) → k_not (k_some_below n (λ k. k_not (f k))) ≡ k_every_below n f
unfolding k_some_below k_every_below k_or k_not
k_every_core zero f = refl
k_every_core (suc n) f =
    k_not_not (k_and (k_not (k_some_below n (λ k. k_not (f k)))) (k_not (k_not (f n)))) ∙ ap₂ k_and (k_every_core n f) (k_not_not (f n))

k_nand : (w : Bool) (x : Option Bool) → k_and (Some w) (k_not x) ≡ k_not (k_or (Some (not w)) x)
unfolding k_or k_not k_and
k_nand true None = refl
k_nand true (Some true) = refl
k_nand true (Some false) = refl
k_nand false None = refl
k_nand false (Some true) = refl
k_nand false (Some false) = refl

mapped_not : (f g : Row → Bool) (rows : List Row) → ((r : Row) → not (f r) ≡ g r) → known_front (k_negation (slice_get (map f rows))) (length rows) ≡ map g rows
unfolding known_front k_not
mapped_not f g [] h = refl
mapped_not f g (r ∷ rows) h = ap₂ ◌∷◌ (h r) (mapped_not f g rows h)

-- the negation of a test on the rows
not_test : (f g : Row → Bool) (rows : List Row) → ((r : Row) → not (f r) ≡ g r) → known_front (k_negation (slice_get (known_front (slice_get (map f rows)) (length rows)))) (length rows) ≡ known_front (slice_get (map g rows)) (length rows)
not_test f g rows h =
    ap (λ (us : List Bool). known_front (k_negation (slice_get us)) (length rows)) (front_map f rows)
    ∙ (mapped_not f g rows h ∙ sym (front_map g rows))

core_atom_verdicts : (rows : List Row) (a : Atom) → verdicts rows (plain (core_atom a)) ≡ verdicts rows (atom a)
unfolding verdicts kleene_over plain holds
core_atom_verdicts rows (different a b) = not_test (holds (equal a b)) (holds (different a b)) rows (λ r. refl)
core_atom_verdicts rows _ = refl

pub core_verdicts : (rows : List Row) (p : Formula) → verdicts rows (plain (core p)) ≡ verdicts rows p
unfolding core verdicts kleene_over plain k_or
core_verdicts rows truth = refl
core_verdicts rows falsity = not_test (λ r. true) (λ r. false) rows (λ r. refl)
core_verdicts rows (atom a) = core_atom_verdicts rows a
core_verdicts rows (negation p) = neg_verdicts rows (core p) ∙ ap (λ (us : List Bool). known_front (k_negation (slice_get us)) (length rows)) (core_verdicts rows p)
core_verdicts rows (conjunction p q) =
    ap₂ (λ (us vs : List Bool). known_front (k_conjunction (slice_get us) (slice_get vs)) (length rows)) (core_verdicts rows p) (core_verdicts rows q)
core_verdicts rows (disjunction p q) =
    neg_front rows (cand (neg (core p)) (neg (core q))) (k_conjunction (slice_get (verdicts rows (plain (neg (core p))))) (slice_get (verdicts rows (plain (neg (core q)))))) refl
    ∙ ap₂ (λ (k l : Known). known_front (λ t. k_not (k_and (k t) (l t))) (length rows)) (neg_get rows (core p) _ (core_verdicts rows p)) (neg_get rows (core q) _ (core_verdicts rows q))
core_verdicts rows (implication p q) = implied_verdicts rows (core p) (core q) _ _ (core_verdicts rows p) (core_verdicts rows q)
core_verdicts rows (equivalence p q) =
    ap₂ (λ (us vs : List Bool). known_front (k_conjunction (slice_get us) (slice_get vs)) (length rows))
    (implied_verdicts rows (core p) (core q) _ _ (core_verdicts rows p) (core_verdicts rows q))
    (implied_verdicts rows (core q) (core p) _ _ (core_verdicts rows q) (core_verdicts rows p))
    ∙ iff_front (slice_get (verdicts rows p)) (slice_get (verdicts rows q)) (length rows)
core_verdicts rows (finally i p) =
    ap (λ (us : List Bool). known_front (k_until i (slice_get (verdicts rows truth)) (slice_get us)) (length rows)) (core_verdicts rows p)
    ∙ ap (λ (k : Known). known_front k (length rows)) (fun_ext (until_known i rows (verdicts rows p) (verdicts_fit rows p)))
core_verdicts rows (globally i p) =
    neg_front rows (cuntil i ctrue (neg (core p))) (k_until i (slice_get (verdicts rows truth)) (slice_get (verdicts rows (plain (neg (core p)))))) refl
    ∙ ap (λ (k : Known). known_front k (length rows)) (fun_ext (λ t.
    ap k_not (until_known i rows (verdicts rows (plain (neg (core p)))) (verdicts_fit rows (plain (neg (core p)))) t
    ∙ ap (λ (k : Known). k_finally i k t) (neg_get rows (core p) _ (core_verdicts rows p)))
    ∙ k_every_core (suc i.hi - i.lo) (λ k. slice_get (verdicts rows p) (t + (i.lo + k)))))
core_verdicts rows (until i p q) =
    ap₂ (λ (us vs : List Bool). known_front (k_until i (slice_get us) (slice_get vs)) (length rows)) (core_verdicts rows p) (core_verdicts rows q)
core_verdicts rows (release i p q) =
    neg_front rows (cuntil i (neg (core p)) (neg (core q))) (k_until i (slice_get (verdicts rows (plain (neg (core p))))) (slice_get (verdicts rows (plain (neg (core q)))))) refl
    ∙ ap₂ (λ (k l : Known). known_front (λ t. k_not (k_until i k l t)) (length rows)) (neg_get rows (core p) _ (core_verdicts rows p)) (neg_get rows (core q) _ (core_verdicts rows q))
core_verdicts rows (once i p) =
    ap (λ (us : List Bool). known_front (k_since i (slice_get (verdicts rows truth)) (slice_get us)) (length rows)) (core_verdicts rows p)
    ∙ front_equal _ _ (length rows) (since_known i rows (verdicts rows p))
core_verdicts rows (historically i p) =
    neg_front rows (csince i ctrue (neg (core p))) (k_since i (slice_get (verdicts rows truth)) (slice_get (verdicts rows (plain (neg (core p)))))) refl
    ∙ front_equal _ _ (length rows) (λ t l.
    ap k_not (since_known i rows (verdicts rows (plain (neg (core p)))) t l
    ∙ (ap (λ (k : Known). k_once i k t) (neg_get rows (core p) _ (core_verdicts rows p))
    ∙ ap (k_some_below (suc t)) (fun_ext (λ m. k_nand (within i (t - m)) (slice_get (verdicts rows p) m)))))
    ∙ k_every_core (suc t) (λ m. k_or (Some (not (within i (t - m)))) (slice_get (verdicts rows p) m)))
core_verdicts rows (since i p q) =
    ap₂ (λ (us vs : List Bool). known_front (k_since i (slice_get us) (slice_get vs)) (length rows)) (core_verdicts rows p) (core_verdicts rows q)
