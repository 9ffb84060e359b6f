-- A simplified formula has the meaning of its formula.
use Rattle.std.proofs.Common.{◌≡◌, ℕ, suc, ◌+◌, ◌-◌, ◌<◌, ◌≤◌, ◌⊎◌, inl, inr, Bool, true, false, not, ◌&&◌, ◌||◌, Decides, Option, Some, None, List, [], slice_index_or, refl, sym, ap, ap₂, ◌∙◌, subst, arith}
use Rattle.std.specs.Prelude.{if◌then◌else◌}
use Rattle.std.proofs.lemmas.Bool.{cases_lt, or_parts}
use mathlib.Core.Path.{fun_ext}
use Rattle.std.proofs.Math.Bool.{and-false, and-true, or-false, or-true}
use Rattle.mltl_base.specs.declared.interval.Interval.{Interval}
use Rattle.mltl_base.specs.Atoms.{Row, Term, column, constant, negative, plus, minus, times, quotient, remainder, Atom, is_true, equal, less, at_most, different, greater, at_least, holds, value}
use Rattle.mltl_base.specs.Formula.{Formula, truth, falsity, atom, negation, conjunction, disjunction, implication, equivalence, finally, globally, until, release, once, historically, since}
use Rattle.mltl_base.specs.Kleene.{some_below, every_below}
use Rattle.mltl_base.specs.Meaning.{sat, since_at, until_at, within}
use Rattle.mltl_base.specs.Settled.{IsOrdered}
use Rattle.mltl_base.specs.Table.{Holds}
use Rattle.mltl_base.proofs.CoreMeaning.{not_not}
use Rattle.mltl_base.proofs.Deciding.{sat_decides}
use Rattle.mltl_simplify.specs.Simplify.{both, either, equals, has_signal, implies, summed_interval, of_truth, reads_signal, simp, simple_and, simple_atom, simple_equals, simple_finally, simple_globally, simple_historically, simple_implies, simple_not, simple_once, simple_or, as_truth, unless_false, unless_truth}
use Rattle.mltl_simplify.proofs.Cases.{finally_cases, globally_cases, historically_cases, not_cases, once_cases, truth_is}
use Rattle.mltl_simplify.proofs.Forms.{simp_ordered}

-- ---- the same in words is the same truth

same_truth : {P Q : Type 0} (a b : Bool) → Decides a P → Decides b Q → (P → Q) → (Q → P) → a ≡ b
same_truth true b d e f g = sym (e.1 (f (d.0 refl)))
same_truth false true d e f g = d.1 (g (e.0 refl))
same_truth false false d e f g = refl

by_words : (rows : List Row) (p q : Formula) (t : ℕ) → (Holds rows p t → Holds rows q t) → (Holds rows q t → Holds rows p t) → sat rows p t ≡ sat rows q t
by_words rows p q t f g = same_truth (sat rows p t) (sat rows q t) (sat_decides rows p t) (sat_decides rows q t) f g

sat_of_truth : (rows : List Row) (v : Bool) (t : ℕ) → sat rows (of_truth v) t ≡ v
unfolding sat
sat_of_truth rows true t = refl
sat_of_truth rows false t = refl

sat_truth : (rows : List Row) (x : Formula) (v : Bool) (t : ℕ) → as_truth x ≡ Some v → sat rows x t ≡ v
sat_truth rows x v t h = ap (λ p. sat rows p t) (truth_is x v h) ∙ sat_of_truth rows v t

-- ---- atoms

value_same : (e : Term) (row : Row) → reads_signal e ≡ false → value e row ≡ value e []
unfolding value reads_signal
value_same (column s) row h = absurd (cc)
value_same (constant n) row h = refl
value_same (negative a) row h = rw (value_same a row h) refl
value_same (plus a b) row h = let none = or_parts _ _ h in rw (value_same a row none.0, value_same b row none.1) refl
value_same (minus a b) row h = let none = or_parts _ _ h in rw (value_same a row none.0, value_same b row none.1) refl
value_same (times a b) row h = let none = or_parts _ _ h in rw (value_same a row none.0, value_same b row none.1) refl
value_same (quotient a b) row h = let none = or_parts _ _ h in rw (value_same a row none.0, value_same b row none.1) refl
value_same (remainder a b) row h = let none = or_parts _ _ h in rw (value_same a row none.0, value_same b row none.1) refl

holds_same : (a : Atom) (row : Row) → has_signal a ≡ false → holds a row ≡ holds a []
unfolding holds has_signal
holds_same (is_true s) row h = absurd (cc)
holds_same _ row h = let none = or_parts _ _ h in rw (value_same _ row none.0, value_same _ row none.1) refl

atom_means : (rows : List Row) (a : Atom) (t : ℕ) → sat rows (simple_atom a) t ≡ sat rows (atom a) t
unfolding sat
atom_means rows a t = go (has_signal a) refl
  where
    go : (b : Bool) → has_signal a ≡ b → sat rows (if b then atom a else of_truth (holds a [])) t ≡ sat rows (atom a) t
    go true h = refl
    go false h = sat_of_truth rows (holds a []) t ∙ sym (holds_same a (slice_index_or rows t []) h)

-- ---- operators without time

not_means : (rows : List Row) (x : Formula) (t : ℕ) → sat rows (simple_not x) t ≡ not (sat rows x t)
unfolding sat
not_means rows x t = not_cases (λ x y. sat rows y t ≡ not (sat rows x t)) refl refl (λ z. sym (not_not (sat rows z t))) (λ x. refl) x

true_equals : (b : Bool) → b ≡ ((not true || b) && (not b || true))
true_equals true = refl
true_equals false = refl

false_equals : (b : Bool) → not b ≡ ((not false || b) && (not b || false))
false_equals true = refl
false_equals false = refl

equals_true : (a : Bool) → a ≡ ((not a || true) && (not true || a))
equals_true true = refl
equals_true false = refl

equals_false : (a : Bool) → not a ≡ ((not a || false) && (not false || a))
equals_false true = refl
equals_false false = refl

-- two operands, of which one may be a truth
module _ (rows : List Row) (x y : Formula) (t : ℕ) where
  left : (f : Bool → Bool → Bool) (u : Bool) → as_truth x ≡ Some u → f u (sat rows y t) ≡ f (sat rows x t) (sat rows y t)
  left f u h = ap (λ a. f a (sat rows y t)) (sym (sat_truth rows x u t h))

  right : (f : Bool → Bool → Bool) (w : Bool) → as_truth y ≡ Some w → f (sat rows x t) w ≡ f (sat rows x t) (sat rows y t)
  right f w h = ap (λ b. f (sat rows x t) b) (sym (sat_truth rows y w t h))

  and_means : sat rows (simple_and x y) t ≡ (sat rows x t && sat rows y t)
  unfolding sat
  and_means = go (as_truth x) (as_truth y) refl refl
    where
      go : (u w : Option Bool) → as_truth x ≡ u → as_truth y ≡ w → sat rows (both u w x y) t ≡ (sat rows x t && sat rows y t)
      go (Some false) w h k = left (λ a b. a && b) false h
      go (Some true) w h k = left (λ a b. a && b) true h
      go None (Some false) h k = sym (and-false (sat rows x t)) ∙ right (λ a b. a && b) false k
      go None (Some true) h k = sym (and-true (sat rows x t)) ∙ right (λ a b. a && b) true k
      go None None h k = refl

  or_means : sat rows (simple_or x y) t ≡ (sat rows x t || sat rows y t)
  unfolding sat
  or_means = go (as_truth x) (as_truth y) refl refl
    where
      go : (u w : Option Bool) → as_truth x ≡ u → as_truth y ≡ w → sat rows (either u w x y) t ≡ (sat rows x t || sat rows y t)
      go (Some true) w h k = left (λ a b. a || b) true h
      go (Some false) w h k = left (λ a b. a || b) false h
      go None (Some true) h k = sym (or-true (sat rows x t)) ∙ right (λ a b. a || b) true k
      go None (Some false) h k = sym (or-false (sat rows x t)) ∙ right (λ a b. a || b) false k
      go None None h k = refl

  implies_means : sat rows (simple_implies x y) t ≡ (not (sat rows x t) || sat rows y t)
  unfolding sat
  implies_means = go (as_truth x) (as_truth y) refl refl
    where
      go : (u w : Option Bool) → as_truth x ≡ u → as_truth y ≡ w → sat rows (implies u w x y) t ≡ (not (sat rows x t) || sat rows y t)
      go (Some false) w h k = left (λ a b. not a || b) false h
      go (Some true) w h k = left (λ a b. not a || b) true h
      go None (Some true) h k = sym (or-true (not (sat rows x t))) ∙ right (λ a b. not a || b) true k
      go None (Some false) h k = not_means rows x t ∙ sym (or-false (not (sat rows x t))) ∙ right (λ a b. not a || b) false k
      go None None h k = refl

  equals_means : sat rows (simple_equals x y) t ≡ ((not (sat rows x t) || sat rows y t) && (not (sat rows y t) || sat rows x t))
  unfolding sat
  equals_means = go (as_truth x) (as_truth y) refl refl
    where
      same : Bool → Bool → Bool
      same a b = (not a || b) && (not b || a)

      go : (u w : Option Bool) → as_truth x ≡ u → as_truth y ≡ w → sat rows (equals u w x y) t ≡ ((not (sat rows x t) || sat rows y t) && (not (sat rows y t) || sat rows x t))
      go (Some true) w h k = true_equals (sat rows y t) ∙ left same true h
      go (Some false) w h k = not_means rows y t ∙ false_equals (sat rows y t) ∙ left same false h
      go None (Some true) h k = equals_true (sat rows x t) ∙ right same true k
      go None (Some false) h k = not_means rows x t ∙ equals_false (sat rows x t) ∙ right same false k
      go None None h k = refl

-- ---- a number of rows in joined intervals, as the sum of one in each

record Parts (i j : Interval) (n : ℕ) : Type 0 where
  outer : ℕ
  inner : ℕ
  whole : outer + inner ≡ n
  outer_low : i.lo ≤ outer
  outer_high : outer ≤ i.hi
  inner_low : j.lo ≤ inner
  inner_high : inner ≤ j.hi

parts : (i j : Interval) (n : ℕ) → i.lo ≤ i.hi → j.lo ≤ j.hi → i.lo + j.lo ≤ n → n ≤ i.hi + j.hi → Parts i j n
parts i j n o u low high = go (cases_lt (i.lo + j.hi) n)
  where
    go : (i.lo + j.hi < n) ⊎ (n ≤ i.lo + j.hi) → Parts i j n
    go (inl far) = record { outer = n - j.hi; inner = j.hi; whole = omega arith; outer_low = omega arith; outer_high = omega arith; inner_low = u; inner_high = omega arith }
    go (inr near) = record { outer = i.lo; inner = n - i.lo; whole = omega arith; outer_low = omega arith; outer_high = o; inner_low = omega arith; inner_high = omega arith }

-- ---- operators in time

module _ (rows : List Row) (i : Interval) (t : ℕ) (o : i.lo ≤ i.hi) where
  finally_means : (x : Formula) → IsOrdered x → sat rows (simple_finally i x) t ≡ sat rows (finally i x) t
  unfolding Holds
  finally_means = finally_cases (λ x y. IsOrdered x → sat rows y t ≡ sat rows (finally i x) t) i
      (λ u. by_words rows truth (finally i truth) t (λ h. (i.lo, omega arith, o, tt)) (λ w. tt))
      (λ u. by_words rows falsity (finally i falsity) t (λ h. absurd h) (λ w. w.3))
      (λ j z l u. by_words rows (finally (summed_interval i j) z) (finally i (finally j z)) t
      (λ w. let s = parts i j w.0 o u.0 w.1 w.2 in let place : t + w.0 ≡ t + s.outer + s.inner = omega (arith, s.whole) in
      (s.outer, s.outer_low, s.outer_high, (s.inner, s.inner_low, s.inner_high, subst (Holds rows z) place w.3)))
      (λ w. let place : t + w.0 + w.3.0 ≡ t + (w.0 + w.3.0) = omega arith in
      (w.0 + w.3.0, omega (arith, w.1, w.3.1), omega (arith, w.2, w.3.2), subst (Holds rows z) place w.3.3)))
      (λ x u. refl)

  globally_means : (x : Formula) → IsOrdered x → sat rows (simple_globally i x) t ≡ sat rows (globally i x) t
  unfolding Holds
  globally_means = globally_cases (λ x y. IsOrdered x → sat rows y t ≡ sat rows (globally i x) t) i
      (λ u. by_words rows truth (globally i truth) t (λ h k low high. tt) (λ w. tt))
      (λ u. by_words rows falsity (globally i falsity) t (λ h. absurd h) (λ w. w i.lo (omega arith) o))
      (λ j z l u. by_words rows (globally (summed_interval i j) z) (globally i (globally j z)) t
      (λ h k a b l c d. let place : t + (k + l) ≡ t + k + l = omega arith in subst (Holds rows z) place (h (k + l) (omega (arith, a, c)) (omega (arith, b, d))))
      (λ h n low high. let s = parts i j n o u.0 low high in let place : t + s.outer + s.inner ≡ t + n = omega (arith, s.whole) in
      subst (Holds rows z) place (h s.outer s.outer_low s.outer_high s.inner s.inner_low s.inner_high)))
      (λ x u. refl)

  once_means : (x : Formula) → IsOrdered x → sat rows (simple_once i x) t ≡ sat rows (once i x) t
  unfolding Holds
  once_means = once_cases (λ x y. IsOrdered x → sat rows y t ≡ sat rows (once i x) t) i
      (λ u. by_words rows falsity (once i falsity) t (λ h. absurd h) (λ w. w.4))
      (λ j z l u. by_words rows (once (summed_interval i j) z) (once i (once j z)) t
      (λ w. let s = parts i j (t - w.0) o u.0 w.2 w.3 in (
        w.0 + s.inner,
        omega (arith, s.whole, w.1),
        omega (arith, s.whole, w.1, s.outer_low),
        omega (arith, s.whole, w.1, s.outer_high),
        (w.0, omega arith, omega (arith, s.inner_low), omega (arith, s.inner_high), w.4),
      ))
      (λ w. let v = w.4 in
      (v.0, omega (arith, w.1, v.1), omega (arith, w.1, w.2, v.1, v.2), omega (arith, w.1, w.3, v.1, v.3), v.4)))
      (λ x u. refl)

  historically_means : (x : Formula) → IsOrdered x → sat rows (simple_historically i x) t ≡ sat rows (historically i x) t
  unfolding Holds
  historically_means = historically_cases (λ x y. IsOrdered x → sat rows y t ≡ sat rows (historically i x) t) i
      (λ u. by_words rows truth (historically i truth) t (λ h m below low high. tt) (λ w. tt))
      (λ j z l u. by_words rows (historically (summed_interval i j) z) (historically i (historically j z)) t
      (λ h m below a b n under c d. h n (omega (arith, below, under)) (omega (arith, below, under, a, c)) (omega (arith, below, under, b, d)))
      (λ h n below low high. let s = parts i j (t - n) o u.0 low high in
      h (n + s.inner) (omega (arith, s.whole, below)) (omega (arith, s.whole, below, s.outer_low)) (omega (arith, s.whole, below, s.outer_high))
      n (omega arith) (omega (arith, s.inner_low)) (omega (arith, s.inner_high))))
      (λ x u. refl)

  until_means : (x y : Formula) → sat rows (unless_truth (as_truth y) (until i x y)) t ≡ sat rows (until i x y) t
  unfolding Holds
  until_means x y = go (as_truth y) refl
    where
      with : (v : Bool) → sat rows (of_truth v) t ≡ sat rows (until i x (of_truth v)) t
      with true = by_words rows truth (until i x truth) t (λ h. (i.lo, omega arith, o, tt, λ j low below. absurd (omega (arith, low, below)))) (λ w. tt)
      with false = by_words rows falsity (until i x falsity) t (λ h. absurd h) (λ w. w.3)

      go : (u : Option Bool) → as_truth y ≡ u → sat rows (unless_truth u (until i x y)) t ≡ sat rows (until i x y) t
      go None h = refl
      go (Some v) h = with v ∙ ap (λ q. sat rows (until i x q) t) (sym (truth_is y v h))

  release_means : (x y : Formula) → sat rows (unless_truth (as_truth y) (release i x y)) t ≡ sat rows (release i x y) t
  unfolding Holds
  release_means x y = go (as_truth y) refl
    where
      with : (v : Bool) → sat rows (of_truth v) t ≡ sat rows (release i x (of_truth v)) t
      with true = by_words rows truth (release i x truth) t (λ h w. w.3 tt) (λ w. tt)
      with false = by_words rows falsity (release i x falsity) t (λ h. absurd h) (λ w. w (i.lo, omega arith, o, (λ e. e), λ j low below. absurd (omega (arith, low, below))))

      go : (u : Option Bool) → as_truth y ≡ u → sat rows (unless_truth u (release i x y)) t ≡ sat rows (release i x y) t
      go None h = refl
      go (Some v) h = with v ∙ ap (λ q. sat rows (release i x q) t) (sym (truth_is y v h))

  since_means : (x y : Formula) → sat rows (unless_false (as_truth y) (since i x y)) t ≡ sat rows (since i x y) t
  unfolding Holds
  since_means x y = go (as_truth y) refl
    where
      go : (u : Option Bool) → as_truth y ≡ u → sat rows (unless_false u (since i x y)) t ≡ sat rows (since i x y) t
      go None h = refl
      go (Some true) h = refl
      go (Some false) h = by_words rows falsity (since i x falsity) t (λ h. absurd h) (λ w. w.4) ∙ ap (λ q. sat rows (since i x q) t) (sym (truth_is y false h))

-- ---- all operators

pub simp_sat : (rows : List Row) (p : Formula) (t : ℕ) → IsOrdered p → sat rows (simp p) t ≡ sat rows p t
unfolding simp sat
simp_sat rows (atom a) t o = atom_means rows a t
simp_sat rows (negation p) t o = not_means rows (simp p) t ∙ ap not (simp_sat rows p t o)
simp_sat rows (conjunction p q) t o = and_means rows (simp p) (simp q) t ∙ ap₂ (λ a b. a && b) (simp_sat rows p t o.0) (simp_sat rows q t o.1)
simp_sat rows (disjunction p q) t o = or_means rows (simp p) (simp q) t ∙ ap₂ (λ a b. a || b) (simp_sat rows p t o.0) (simp_sat rows q t o.1)
simp_sat rows (implication p q) t o = implies_means rows (simp p) (simp q) t ∙ ap₂ (λ a b. not a || b) (simp_sat rows p t o.0) (simp_sat rows q t o.1)
simp_sat rows (equivalence p q) t o = equals_means rows (simp p) (simp q) t ∙ ap₂ (λ a b. (not a || b) && (not b || a)) (simp_sat rows p t o.0) (simp_sat rows q t o.1)
simp_sat rows (finally i p) t o = finally_means rows i t o.0 (simp p) (simp_ordered p o.1) ∙ ap (some_below (suc i.hi - i.lo)) (fun_ext (λ k. simp_sat rows p (t + (i.lo + k)) o.1))
simp_sat rows (globally i p) t o = globally_means rows i t o.0 (simp p) (simp_ordered p o.1) ∙ ap (every_below (suc i.hi - i.lo)) (fun_ext (λ k. simp_sat rows p (t + (i.lo + k)) o.1))
simp_sat rows (until i p q) t o = until_means rows i t o.0 (simp p) (simp q) ∙ ap₂ (λ f g. until_at i f g t) (fun_ext (λ s. simp_sat rows p s o.1.0)) (fun_ext (λ s. simp_sat rows q s o.1.1))
simp_sat rows (release i p q) t o =
    release_means rows i t o.0 (simp p) (simp q)
    ∙ ap₂ (λ f g. not (until_at i f g t)) (fun_ext (λ s. ap not (simp_sat rows p s o.1.0))) (fun_ext (λ s. ap not (simp_sat rows q s o.1.1)))
simp_sat rows (once i p) t o = once_means rows i t o.0 (simp p) (simp_ordered p o.1) ∙ ap (some_below (suc t)) (fun_ext (λ m. ap (λ v. within i (t - m) && v) (simp_sat rows p m o.1)))
simp_sat rows (historically i p) t o =
    historically_means rows i t o.0 (simp p) (simp_ordered p o.1) ∙ ap (every_below (suc t)) (fun_ext (λ m. ap (λ v. not (within i (t - m)) || v) (simp_sat rows p m o.1)))
simp_sat rows (since i p q) t o = since_means rows i t o.0 (simp p) (simp q) ∙ ap₂ (λ f g. since_at i f g t) (fun_ext (λ s. simp_sat rows p s o.1.0)) (fun_ext (λ s. simp_sat rows q s o.1.1))
simp_sat rows _ t o = refl
