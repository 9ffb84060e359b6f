-- Simplified operators by their cases: what holds of each rule's result holds of the simplified operator.
use Rattle.std.proofs.Common.{◌≡◌, ◌+◌, ◌≤◌, Bool, true, false, Some, refl, nat_le}
use Rattle.std.specs.Prelude.{if◌then◌else◌}
use Rattle.std.proofs.lemmas.Bool.{leb-true}
use Rattle.mltl_base.specs.declared.limits.TheConstants.{MAX_BOUND}
use Rattle.mltl_base.specs.declared.interval.Interval.{Interval}
use Rattle.mltl_base.specs.Formula.{Formula, truth, falsity, atom, negation, conjunction, disjunction, implication, equivalence, finally, globally, until, release, once, historically, since}
use Rattle.mltl_simplify.specs.Simplify.{summed_interval, of_truth, simple_finally, simple_globally, simple_historically, simple_not, simple_once, as_truth}

-- a formula is the truth that it is found to be
pub truth_is : (x : Formula) (v : Bool) → as_truth x ≡ Some v → x ≡ of_truth v
unfolding as_truth
truth_is truth true h = refl
truth_is falsity false h = refl
truth_is _ _ h = absurd (cc)

pub not_cases : (R : Formula → Formula → Type 0) → R truth falsity → R falsity truth → ((z : Formula) → R (negation z) z) → ((x : Formula) → R x (negation x)) → (x : Formula) → R x (simple_not x)
unfolding simple_not
not_cases R t f n w truth = t
not_cases R t f n w falsity = f
not_cases R t f n w (negation z) = n z
not_cases R t f n w x = w x

-- a test leads to one of two
by_test : {X : Type 0} (P : X → Type 0) (b : Bool) (x y : X) → (b ≡ true → P x) → P y → P (if b then x else y)
by_test P true x y p q = p refl
by_test P false x y p q = q

pub finally_cases : (R : Formula → Formula → Type 0) (i : Interval) → R truth truth → R falsity falsity → ((j : Interval) (z : Formula) → i.hi + j.hi ≤ MAX_BOUND → R (finally j z) (finally (summed_interval i j) z)) → ((x : Formula) → R x (finally i x)) → (x : Formula) → R x (simple_finally i x)
unfolding simple_finally
finally_cases R i t f m w truth = t
finally_cases R i t f m w falsity = f
finally_cases R i t f m w (finally j p) = by_test (R (finally j p)) (nat_le (i.hi + j.hi) MAX_BOUND) (finally (summed_interval i j) p) (finally i (finally j p)) (λ h. m j p (leb-true _ _ h)) (w (finally j p))
finally_cases R i t f m w x = w x

pub globally_cases : (R : Formula → Formula → Type 0) (i : Interval) → R truth truth → R falsity falsity → ((j : Interval) (z : Formula) → i.hi + j.hi ≤ MAX_BOUND → R (globally j z) (globally (summed_interval i j) z)) → ((x : Formula) → R x (globally i x)) → (x : Formula) → R x (simple_globally i x)
unfolding simple_globally
globally_cases R i t f m w truth = t
globally_cases R i t f m w falsity = f
globally_cases R i t f m w (globally j p) = by_test (R (globally j p)) (nat_le (i.hi + j.hi) MAX_BOUND) (globally (summed_interval i j) p) (globally i (globally j p)) (λ h. m j p (leb-true _ _ h)) (w (globally j p))
globally_cases R i t f m w x = w x

pub once_cases : (R : Formula → Formula → Type 0) (i : Interval) → R falsity falsity → ((j : Interval) (z : Formula) → i.hi + j.hi ≤ MAX_BOUND → R (once j z) (once (summed_interval i j) z)) → ((x : Formula) → R x (once i x)) → (x : Formula) → R x (simple_once i x)
unfolding simple_once
once_cases R i f m w falsity = f
once_cases R i f m w (once j p) = by_test (R (once j p)) (nat_le (i.hi + j.hi) MAX_BOUND) (once (summed_interval i j) p) (once i (once j p)) (λ h. m j p (leb-true _ _ h)) (w (once j p))
once_cases R i f m w x = w x

pub historically_cases : (R : Formula → Formula → Type 0) (i : Interval) → R truth truth → ((j : Interval) (z : Formula) → i.hi + j.hi ≤ MAX_BOUND → R (historically j z) (historically (summed_interval i j) z)) → ((x : Formula) → R x (historically i x)) → (x : Formula) → R x (simple_historically i x)
unfolding simple_historically
historically_cases R i t m w truth = t
historically_cases R i t m w (historically j p) = by_test (R (historically j p)) (nat_le (i.hi + j.hi) MAX_BOUND) (historically (summed_interval i j) p) (historically i (historically j p)) (λ h. m j p (leb-true _ _ h)) (w (historically j p))
historically_cases R i t m w x = w x
