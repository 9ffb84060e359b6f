-- A simplified formula is decided no later than its formula.
use Rattle.std.proofs.Common.{◌≡◌, ◌<◌, ℕ, ◌+◌, ◌≤◌, max, Bool, List, ◌++◌, length, arith, sym, ◌∙◌, Some, slice_get, ap}
use Rattle.std.proofs.Math.Nat.{le-max_left, le-max_right, max-le}
use Rattle.mltl_base.specs.Atoms.{Row}
use Rattle.mltl_base.specs.Formula.{Formula, truth, falsity, atom, negation, conjunction, disjunction, implication, equivalence, finally, globally, until, release, once, historically, since, wpd}
use Rattle.mltl_base.specs.Meaning.{sat}
use Rattle.mltl_base.specs.Settled.{IsOrdered, Settled, SettledAmong}
use Rattle.mltl_base.specs.Verdicts.{verdicts}
use Rattle.mltl_base.proofs.Settling.{verdict_known, verdict_settled}
use Rattle.mltl_simplify.specs.Simplify.{simp, as_truth}
use Rattle.mltl_simplify.proofs.Cases.{finally_cases, globally_cases, historically_cases, once_cases}
use Rattle.mltl_simplify.proofs.Forms.{IsPlain, and_has, equals_has, implies_has, not_has, or_has, atom_has, unless_false_has, unless_truth_has}
use Rattle.mltl_simplify.proofs.Meaning.{simp_sat}

-- no delay above n
IsWithin : ℕ → Formula → Type 0
IsWithin n p = wpd p ≤ n

within : (n : ℕ) → IsPlain (IsWithin n)
unfolding IsWithin wpd
within n = record {
  true_has = omega arith;
  false_has = omega arith;
  negation_has = λ x h. h;
  operand_has = λ x h. h;
  conjunction_has = λ x y h k. max-le h k;
  disjunction_has = λ x y h k. max-le h k;
  implication_has = λ x y h k. max-le h k;
  equivalence_has = λ x y h k. max-le h k;
}

max_below : (a b c d : ℕ) → a ≤ c → b ≤ d → max a b ≤ max c d
max_below a b c d h k = max-le (omega (arith, h, le-max_left c d)) (omega (arith, k, le-max_right c d))

pub simp_wpd : (p : Formula) → wpd (simp p) ≤ wpd p
unfolding IsWithin simp wpd
simp_wpd (atom a) = atom_has {P = IsWithin 0} (within 0) a (omega arith)
simp_wpd (negation p) = not_has {P = IsWithin (wpd p)} (within (wpd p)) (simp p) (simp_wpd p)
simp_wpd (conjunction p q) = let n : ℕ = max (wpd p) (wpd q) in
    and_has {P = IsWithin n} (within n) (simp p) (simp q) (omega (arith, simp_wpd p, le-max_left (wpd p) (wpd q))) (omega (arith, simp_wpd q, le-max_right (wpd p) (wpd q)))
simp_wpd (disjunction p q) = let n : ℕ = max (wpd p) (wpd q) in
    or_has {P = IsWithin n} (within n) (simp p) (simp q) (omega (arith, simp_wpd p, le-max_left (wpd p) (wpd q))) (omega (arith, simp_wpd q, le-max_right (wpd p) (wpd q)))
simp_wpd (implication p q) = let n : ℕ = max (wpd p) (wpd q) in
    implies_has {P = IsWithin n} (within n) (simp p) (simp q) (omega (arith, simp_wpd p, le-max_left (wpd p) (wpd q))) (omega (arith, simp_wpd q, le-max_right (wpd p) (wpd q)))
simp_wpd (equivalence p q) = let n : ℕ = max (wpd p) (wpd q) in
    equals_has {P = IsWithin n} (within n) (simp p) (simp q) (omega (arith, simp_wpd p, le-max_left (wpd p) (wpd q))) (omega (arith, simp_wpd q, le-max_right (wpd p) (wpd q)))
simp_wpd (finally i p) = finally_cases (λ x y. wpd x ≤ wpd p → wpd y ≤ wpd p + i.hi) i (λ h. omega arith) (λ h. omega arith) (λ j z l h. omega (arith, h)) (λ x h. omega (arith, h)) (simp p) (simp_wpd p)
simp_wpd (globally i p) = globally_cases (λ x y. wpd x ≤ wpd p → wpd y ≤ wpd p + i.hi) i (λ h. omega arith) (λ h. omega arith) (λ j z l h. omega (arith, h)) (λ x h. omega (arith, h)) (simp p) (simp_wpd p)
simp_wpd (until i p q) = let n : ℕ = max (wpd p) (wpd q) + i.hi in
    unless_truth_has {P = IsWithin n} (within n) (as_truth (simp q)) (until i (simp p) (simp q)) (omega (arith, max_below (wpd (simp p)) (wpd (simp q)) (wpd p) (wpd q) (simp_wpd p) (simp_wpd q)))
simp_wpd (release i p q) = let n : ℕ = max (wpd p) (wpd q) + i.hi in
    unless_truth_has {P = IsWithin n} (within n) (as_truth (simp q)) (release i (simp p) (simp q)) (omega (arith, max_below (wpd (simp p)) (wpd (simp q)) (wpd p) (wpd q) (simp_wpd p) (simp_wpd q)))
simp_wpd (once i p) = once_cases (λ x y. wpd x ≤ wpd p → wpd y ≤ wpd p) i (λ h. omega arith) (λ j z l h. h) (λ x h. h) (simp p) (simp_wpd p)
simp_wpd (historically i p) = historically_cases (λ x y. wpd x ≤ wpd p → wpd y ≤ wpd p) i (λ h. omega arith) (λ j z l h. h) (λ x h. h) (simp p) (simp_wpd p)
simp_wpd (since i p q) = let n : ℕ = max (wpd p) (wpd q) in
    unless_false_has {P = IsWithin n} (within n) (as_truth (simp q)) (since i (simp p) (simp q)) (max_below (wpd (simp p)) (wpd (simp q)) (wpd p) (wpd q) (simp_wpd p) (simp_wpd q))
simp_wpd _ = omega arith

-- what is settled for the simplified formula is settled for the formula, among each class of further rows too
pub simp_settled : (rows : List Row) (p : Formula) (t : ℕ) (v : Bool) → IsOrdered p → Settled rows (simp p) t v → Settled rows p t v
simp_settled rows p t v o settled = λ more long. sym (simp_sat (rows ++ more) p t o) ∙ settled more (omega (arith, long, simp_wpd p))

pub simp_among : (IsIn : List Row → Type 0) (rows : List Row) (p : Formula) (t : ℕ) (v : Bool) → IsOrdered p → SettledAmong IsIn rows (simp p) t v → SettledAmong IsIn rows p t v
simp_among IsIn rows p t v o settled = λ more among long. sym (simp_sat (rows ++ more) p t o) ∙ settled more among (omega (arith, long, simp_wpd p))

-- a known verdict of the simplified formula
pub simp_told : (rows : List Row) (p : Formula) (t : ℕ) (v : Bool) → IsOrdered p → slice_get (verdicts rows (simp p)) t ≡ Some v → Settled rows p t v
simp_told rows p t v o known = simp_settled rows p t v o (verdict_settled rows (simp p) t v known)

pub simp_known : (rows : List Row) (p : Formula) (t : ℕ) → IsOrdered p → t + wpd p < length rows → slice_get (verdicts rows (simp p)) t ≡ Some (sat rows p t)
simp_known rows p t o long = verdict_known rows (simp p) t (omega (arith, long, simp_wpd p)) ∙ ap (λ v. Some v) (simp_sat rows p t o)
