-- A core formula has the meaning and the worst-case delay of its formula.

use Rattle.std.proofs.Common.{◌≡◌, ℕ, zero, suc, ◌+◌, ◌-◌, max, Bool, true, false, not, ◌&&◌, ◌||◌, List, refl, sym, ap, ap₂, ◌∙◌, arith}
use mathlib.Core.Path.{fun_ext}
use Rattle.std.proofs.Math.Bool.{and-true}
use Rattle.mltl_base.specs.declared.interval.Interval.{Interval}
use Rattle.mltl_base.specs.Atoms.{Row, Atom, is_true, equal, less, at_most, different, greater, at_least, holds}
use Rattle.mltl_base.specs.Formula.{Formula, truth, falsity, atom, negation, conjunction, disjunction, implication, equivalence, finally, globally, until, release, once, historically, since, Core, ctrue, catom, cnot, cand, cuntil, csince, plain, neg, core, core_atom, wpd}
use Rattle.mltl_base.specs.Kleene.{some_below, every_below, some_in}
use Rattle.mltl_base.specs.Meaning.{within, until_at, since_at, sat}

pub not_not : (v : Bool) → not (not v) ≡ v
not_not true = refl
not_not false = refl

or_core : (v w : Bool) → not (not v && not w) ≡ (v || w)
or_core true true = refl
or_core true false = refl
or_core false true = refl
or_core false false = refl

implies_core : (v w : Bool) → not (v && not w) ≡ (not v || w)
implies_core true true = refl
implies_core true false = refl
implies_core false true = refl
implies_core false false = refl

every_true : (n : ℕ) → every_below n (λ k. true) ≡ true
unfolding every_below
every_true zero = refl
every_true (suc n) = rw (every_true n) refl

nor : (v w : Bool) → not (v || not w) ≡ (not v && w)
nor true true = refl
nor true false = refl
nor false true = refl
nor false false = refl

nand : (v w : Bool) → (v && not w) ≡ not (not v || w)
nand true true = refl
nand true false = refl
nand false true = refl
nand false false = refl

-- every is not some not
every_core : (n : ℕ) (f g : ℕ → Bool) → ((k : ℕ) → f k ≡ not (g k)) → not (some_below n f) ≡ every_below n g
unfolding some_below every_below
every_core zero f g h = refl
every_core (suc n) f g h = ap (λ v. not (some_below n f || v)) (h n) ∙ (nor (some_below n f) (g n) ∙ ap (λ v. v && g n) (every_core n f g h))

pub neg_sat : (rows : List Row) (p : Core) (t : ℕ) → sat rows (plain (neg p)) t ≡ not (sat rows (plain p) t)
unfolding sat plain neg
neg_sat rows (cnot p) t = sym (not_not (sat rows (plain p) t))
neg_sat rows _ t = refl

atom_sat : (rows : List Row) (a : Atom) (t : ℕ) → sat rows (plain (core_atom a)) t ≡ sat rows (atom a) t
unfolding sat plain holds
atom_sat rows (is_true c) t = refl
atom_sat rows _ t = refl

until_true : (i : Interval) (f : ℕ → Bool) (t : ℕ) → until_at i (λ s. true) f t ≡ some_in i.lo (suc i.hi) (λ k. f (t + k))
until_true i f t = ap (some_below (suc i.hi - i.lo)) (fun_ext (λ k. ap (λ v. f (t + (i.lo + k)) && v) (every_true (i.lo + k - i.lo)) ∙ and-true (f (t + (i.lo + k)))))

since_true : (i : Interval) (f : ℕ → Bool) (t : ℕ) → since_at i (λ s. true) f t ≡ some_below (suc t) (λ m. within i (t - m) && f m)
since_true i f t = ap (some_below (suc t)) (fun_ext (λ m. ap (λ v. within i (t - m) && (f m && v)) (every_true (suc t - suc m)) ∙ ap (λ v. within i (t - m) && v) (and-true (f m))))

negated : (rows : List Row) (p : Core) (t : ℕ) (v : Bool) → sat rows (plain p) t ≡ v → sat rows (plain (neg p)) t ≡ not v
negated rows p t v h = neg_sat rows p t ∙ ap not h

implied : (rows : List Row) (p q : Core) (t : ℕ) (v w : Bool) → sat rows (plain p) t ≡ v → sat rows (plain q) t ≡ w → sat rows (plain (neg (cand p (neg q)))) t ≡ (not v || w)
unfolding sat plain
implied rows p q t v w f g = neg_sat rows (cand p (neg q)) t ∙ (ap₂ (λ x y. not (x && y)) f (negated rows q t w g) ∙ implies_core v w)

pub core_sat : (rows : List Row) (p : Formula) (t : ℕ) → sat rows (plain (core p)) t ≡ sat rows p t
unfolding core sat plain
core_sat rows truth t = refl
core_sat rows falsity t = refl
core_sat rows (atom a) t = atom_sat rows a t
core_sat rows (negation p) t = neg_sat rows (core p) t ∙ ap not (core_sat rows p t)
core_sat rows (conjunction p q) t = ap₂ ◌&&◌ (core_sat rows p t) (core_sat rows q t)
core_sat rows (disjunction p q) t =
    neg_sat rows (cand (neg (core p)) (neg (core q))) t
    ∙ (ap₂ (λ v w. not (v && w)) (negated rows (core p) t _ (core_sat rows p t)) (negated rows (core q) t _ (core_sat rows q t)) ∙ or_core (sat rows p t) (sat rows q t))
core_sat rows (implication p q) t = implied rows (core p) (core q) t _ _ (core_sat rows p t) (core_sat rows q t)
core_sat rows (equivalence p q) t =
    ap₂ ◌&&◌ (implied rows (core p) (core q) t _ _ (core_sat rows p t) (core_sat rows q t)) (implied rows (core q) (core p) t _ _ (core_sat rows q t) (core_sat rows p t))
core_sat rows (finally i p) t = until_true i (sat rows (plain (core p))) t ∙ ap (some_below (suc i.hi - i.lo)) (fun_ext (λ k. core_sat rows p (t + (i.lo + k))))
core_sat rows (globally i p) t =
    neg_sat rows (cuntil i ctrue (neg (core p))) t
    ∙ (ap not (until_true i (sat rows (plain (neg (core p)))) t)
    ∙ every_core (suc i.hi - i.lo) (λ k. sat rows (plain (neg (core p))) (t + (i.lo + k))) (λ k. sat rows p (t + (i.lo + k))) (λ k. negated rows (core p) (t + (i.lo + k)) _ (core_sat rows p (t + (i.lo + k)))))
core_sat rows (until i p q) t = ap₂ (λ f g. until_at i f g t) (fun_ext (λ s. core_sat rows p s)) (fun_ext (λ s. core_sat rows q s))
core_sat rows (release i p q) t =
    neg_sat rows (cuntil i (neg (core p)) (neg (core q))) t
    ∙ ap₂ (λ f g. not (until_at i f g t)) (fun_ext (λ s. negated rows (core p) s _ (core_sat rows p s))) (fun_ext (λ s. negated rows (core q) s _ (core_sat rows q s)))
core_sat rows (once i p) t = since_true i (sat rows (plain (core p))) t ∙ ap (some_below (suc t)) (fun_ext (λ m. ap (λ v. within i (t - m) && v) (core_sat rows p m)))
core_sat rows (historically i p) t =
    neg_sat rows (csince i ctrue (neg (core p))) t
    ∙ (ap not (since_true i (sat rows (plain (neg (core p)))) t)
    ∙ every_core (suc t) (λ m. within i (t - m) && sat rows (plain (neg (core p))) m) (λ m. not (within i (t - m)) || sat rows p m)
    (λ m. ap (λ v. within i (t - m) && v) (negated rows (core p) m _ (core_sat rows p m)) ∙ nand (within i (t - m)) (sat rows p m)))
core_sat rows (since i p q) t = ap₂ (λ f g. since_at i f g t) (fun_ext (λ s. core_sat rows p s)) (fun_ext (λ s. core_sat rows q s))

neg_wpd : (p : Core) → wpd (plain (neg p)) ≡ wpd (plain p)
unfolding wpd plain neg
neg_wpd ctrue = refl
neg_wpd _ = refl

atom_wpd : (a : Atom) → wpd (plain (core_atom a)) ≡ 0
unfolding wpd plain
atom_wpd (is_true c) = refl
atom_wpd _ = refl

max_zero : (n : ℕ) → max 0 n ≡ n
max_zero n = omega arith

twice : (m n : ℕ) → max (max m n) (max n m) ≡ max m n
twice m n = omega arith

pub core_delay : (p : Formula) → wpd (plain (core p)) ≡ wpd p
unfolding core wpd plain
core_delay truth = refl
core_delay falsity = refl
core_delay (atom a) = atom_wpd a
core_delay (negation p) = neg_wpd (core p) ∙ core_delay p
core_delay (conjunction p q) = ap₂ max (core_delay p) (core_delay q)
core_delay (disjunction p q) =
    neg_wpd (cand (neg (core p)) (neg (core q))) ∙ ap₂ max (neg_wpd (core p) ∙ core_delay p) (neg_wpd (core q) ∙ core_delay q)
core_delay (implication p q) = neg_wpd (cand (core p) (neg (core q))) ∙ ap₂ max (core_delay p) (neg_wpd (core q) ∙ core_delay q)
core_delay (equivalence p q) =
    ap₂ max (neg_wpd (cand (core p) (neg (core q))) ∙ ap₂ max (core_delay p) (neg_wpd (core q) ∙ core_delay q))
    (neg_wpd (cand (core q) (neg (core p))) ∙ ap₂ max (core_delay q) (neg_wpd (core p) ∙ core_delay p))
    ∙ twice (wpd p) (wpd q)
core_delay (finally i p) = ap (λ d. max 0 d + i.hi) (core_delay p) ∙ ap (λ d. d + i.hi) (max_zero (wpd p))
core_delay (globally i p) =
    neg_wpd (cuntil i ctrue (neg (core p))) ∙ (ap (λ d. max 0 d + i.hi) (neg_wpd (core p) ∙ core_delay p) ∙ ap (λ d. d + i.hi) (max_zero (wpd p)))
core_delay (until i p q) = ap₂ (λ d e. max d e + i.hi) (core_delay p) (core_delay q)
core_delay (release i p q) =
    neg_wpd (cuntil i (neg (core p)) (neg (core q))) ∙ ap₂ (λ d e. max d e + i.hi) (neg_wpd (core p) ∙ core_delay p) (neg_wpd (core q) ∙ core_delay q)
core_delay (once i p) = ap (max 0) (core_delay p) ∙ max_zero (wpd p)
core_delay (historically i p) = neg_wpd (csince i ctrue (neg (core p))) ∙ (ap (max 0) (neg_wpd (core p) ∙ core_delay p) ∙ max_zero (wpd p))
core_delay (since i p q) = ap₂ max (core_delay p) (core_delay q)
