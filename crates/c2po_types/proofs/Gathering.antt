-- What is known of a counting quantifier is what is known of its bodies, where it has some.

use Rattle.std.proofs.Common.{◌≡◌, ℕ, zero, suc, ◌+◌, ◌<◌, ◌≤◌, Bool, true, false, ◌||◌, Option, Some, None, List, take, length, refl, sym, ap, ◌∙◌, inl, inr, ◌⊎◌, arith, add-one}
use Rattle.std.proofs.lemmas.List.{take_all}
use Rattle.std.proofs.lemmas.Option.{slice_get-get_or}
use Rattle.std.proofs.lemmas.Bool.{cases_lt}
use Rattle.std.proofs.lemmas.Bool.Decides.{nat_tests}
use Rattle.mltl_base.specs.declared.operators.CountOp.{CountOp}
use Rattle.mltl_base.specs.declared.operators.CountOp.TheVariants.{Exactly, AtLeast, AtMost}
use Rattle.mltl_base.specs.Formula.{Formula, falsity, conjunction, disjunction, negation}
use Rattle.mltl_base.specs.Ranges.{NoRange}
use Rattle.count_sets.specs.Counting as counting
use Rattle.count_sets.specs.Counting.{least}
use Rattle.c2po_ast.specs.Faults.{formula_fault, or_later}
use Rattle.c2po_ast.specs.Tenses.{has_past, has_future}
use Rattle.c2po_types.specs.Facts.{tree_fact}
use Rattle.c2po_ast.specs.Nodes.{formula, constant_formula}
use Rattle.c2po_types.specs.Values.{body_at, counted_formula}
use Rattle.count_sets.proofs.Thresholds.{least_above, least_more, least_none}
use Rattle.c2po_types.specs.Summaries.{asks_bodies, gathered}
use Rattle.c2po_types.proofs.Loops.{gathered_push, take_next}

-- What joins operands, and ignores a joined operand that comes again.
pub record IsGathering {X : Type 0} (e : X) (join : X → X → X) (of : Formula → X) : Type 0 where
  pub left : (x : X) → join e x ≡ x
  pub right : (x : X) → join x e ≡ x
  pub again : (a x : X) → join (join a x) x ≡ join a x
  pub truths : (b : Bool) → of (constant_formula b) ≡ e
  pub both : (p q : Formula) → of (conjunction p q) ≡ join (of p) (of q)
  pub either : (p q : Formula) → of (disjunction p q) ≡ join (of p) (of q)
  pub not : (p : Formula) → of (negation p) ≡ of p

-- what is gathered of the first k bodies
firsts : List Formula → ℕ → Formula
firsts ps zero = falsity
firsts ps (suc k) = disjunction (body_at ps k) (firsts ps k)

-- a formula over bodies gathers these
module _ {X : Type 0} (e : X) (join : X → X → X) (of : Formula → X) (ps : List Formula) (g : IsGathering e join of) where
  none_of : (m k : ℕ) → k < m → of (counted_formula ps (least m k)) ≡ e
  unfolding counted_formula
  none_of m k h = ap (λ c. of (counted_formula ps c)) (least_above m k h) ∙ g.truths false

  step_of : (m k : ℕ) → m ≤ k → of (counted_formula ps (least (suc m) (suc k)))
      ≡ join (join (of (body_at ps k)) (of (counted_formula ps (least m k)))) (of (counted_formula ps (least (suc m) k)))
  unfolding counted_formula
  step_of m k h =
      ap (λ c. of (counted_formula ps c)) (rw (add-one m, add-one k) at (least_more m k h))
      ∙ (g.either (conjunction (body_at ps k) (counted_formula ps (least m k))) (counted_formula ps (least (suc m) k))
      ∙ ap (λ x. join x (of (counted_formula ps (least (suc m) k)))) (g.both (body_at ps k) (counted_formula ps (least m k))))

  zero_of : (k : ℕ) → of (counted_formula ps (least 0 k)) ≡ e
  unfolding counted_formula
  zero_of k = ap (λ c. of (counted_formula ps c)) (least_none k) ∙ g.truths true

  firsts_of : (k : ℕ) → of (firsts ps (suc k)) ≡ join (of (body_at ps k)) (of (firsts ps k))
  unfolding firsts
  firsts_of k = g.either (body_at ps k) (firsts ps k)

  no_firsts : of (firsts ps 0) ≡ e
  unfolding firsts
  no_firsts = g.truths false

  -- one of them at least
  first_of : (k : ℕ) → of (counted_formula ps (least 1 k)) ≡ of (firsts ps k)
  first_of zero = none_of 1 0 (omega arith) ∙ sym no_firsts
  first_of (suc k) =
      step_of 0 k (omega arith)
      ∙ (ap (λ x. join (join (of (body_at ps k)) x) (of (counted_formula ps (least 1 k)))) (zero_of k)
      ∙ (ap (λ x. join x (of (counted_formula ps (least 1 k)))) (g.right (of (body_at ps k)))
      ∙ (ap (join (of (body_at ps k))) (first_of k) ∙ sym (firsts_of k))))

  -- a threshold and the next one
  next_of : (a : X) (m k : ℕ) → ((suc m < suc k) → of (counted_formula ps (least (suc m) k)) ≡ of (firsts ps k)) → (suc m < suc k) ⊎ (suc k ≤ suc m)
      → join (join a (of (firsts ps k))) (of (counted_formula ps (least (suc m) k))) ≡ join a (of (firsts ps k))
  next_of a m k h (inl l) = ap (join (join a (of (firsts ps k)))) (h l) ∙ g.again a (of (firsts ps k))
  next_of a m k h (inr l) = ap (join (join a (of (firsts ps k)))) (none_of (suc m) k (omega arith)) ∙ g.right (join a (of (firsts ps k)))

  -- some of them, and not more than there are
  some_of : (m k : ℕ) → m < k → of (counted_formula ps (least (suc m) k)) ≡ of (firsts ps k)
  some_of m zero h = absurd (omega arith)
  some_of zero (suc k) h = first_of (suc k)
  some_of (suc m) (suc k) h =
      step_of (suc m) k (omega arith)
      ∙ (ap (λ x. join (join (of (body_at ps k)) x) (of (counted_formula ps (least (suc (suc m)) k)))) (some_of m k (omega arith))
      ∙ (next_of (of (body_at ps k)) (suc m) k (λ l. some_of (suc m) k (omega arith)) (cases_lt (suc (suc m)) (suc k)) ∙ sym (firsts_of k)))

  -- exactly m, no more than there are
  exactly_of : (m n : ℕ) → m ≤ n → of (conjunction (counted_formula ps (least m n)) (negation (counted_formula ps (least (suc m) n)))) ≡ of (firsts ps n)
  exactly_of zero n h =
      g.both (counted_formula ps (least 0 n)) (negation (counted_formula ps (least 1 n)))
      ∙ (ap (λ x. join x (of (negation (counted_formula ps (least 1 n))))) (zero_of n)
      ∙ (g.left (of (negation (counted_formula ps (least 1 n))))
      ∙ (g.not (counted_formula ps (least 1 n)) ∙ first_of n)))
  exactly_of (suc m) n h =
      g.both (counted_formula ps (least (suc m) n)) (negation (counted_formula ps (least (suc (suc m)) n)))
      ∙ (ap (λ x. join x (of (negation (counted_formula ps (least (suc (suc m)) n))))) (some_of m n (omega arith))
      ∙ (ap (join (of (firsts ps n))) (g.not (counted_formula ps (least (suc (suc m)) n)))
      ∙ (ap (λ x. join x (of (counted_formula ps (least (suc (suc m)) n)))) (sym (g.left (of (firsts ps n))))
      ∙ (next_of e (suc m) n (λ l. some_of (suc m) n (omega arith)) (cases_lt (suc (suc m)) (suc n)) ∙ g.left (of (firsts ps n))))))

  -- a quantifier that has bodies gathers them all
  all_of : (op : CountOp) (n m : ℕ) → asks_bodies op n m ≡ true → of (counted_formula ps (counting.counting op n m)) ≡ of (firsts ps n)
  unfolding counted_formula
  all_of Exactly n m h =
      ap (λ k. of (conjunction (counted_formula ps (least m n)) (negation (counted_formula ps (least k n))))) (add-one m)
      ∙ exactly_of m n (grind (arith, nat_tests))
  all_of AtLeast n zero h = absurd (cc)
  all_of AtLeast n (suc m) h = some_of m n (grind (arith, nat_tests))
  all_of AtMost n m h =
      g.not (counted_formula ps (least (m + 1) n)) ∙ (ap (λ k. of (counted_formula ps (least k n))) (add-one m) ∙ some_of m n (grind (arith, nat_tests)))

  -- and one without gathers nothing
  nothing_of : (op : CountOp) (n m : ℕ) → asks_bodies op n m ≡ false → of (counted_formula ps (counting.counting op n m)) ≡ e
  unfolding counted_formula
  nothing_of Exactly n m h =
      let above : n < m = grind (arith, nat_tests) in
      g.both (counted_formula ps (least m n)) (negation (counted_formula ps (least (m + 1) n)))
      ∙ (ap (λ x. join x (of (negation (counted_formula ps (least (m + 1) n))))) (none_of m n above)
      ∙ (g.left (of (negation (counted_formula ps (least (m + 1) n))))
      ∙ (g.not (counted_formula ps (least (m + 1) n)) ∙ none_of (m + 1) n (omega (arith, above)))))
  nothing_of AtLeast n zero h = zero_of n
  nothing_of AtLeast n (suc m) h = none_of (suc m) n (grind (arith, nat_tests))
  nothing_of AtMost n m h =
      g.not (counted_formula ps (least (m + 1) n)) ∙ none_of (m + 1) n (grind (arith, nat_tests))

-- faults and tenses are gathered
faults_gather : IsGathering None or_later formula_fault
unfolding formula_fault
faults_gather = record {
  left = λ x. refl;
  right = right;
  again = again;
  truths = truths;
  both = λ p q. refl;
  either = λ p q. refl;
  not = λ p. refl;
}
  where
    right : (x : Option NoRange) → or_later x None ≡ x
    right None = refl
    right (Some why) = refl

    again : (a x : Option NoRange) → or_later (or_later a x) x ≡ or_later a x
    again (Some why) x = refl
    again None (Some why) = refl
    again None None = refl

    truths : (b : Bool) → formula_fault (constant_formula b) ≡ None
    truths true = refl
    truths false = refl

or_right : (x : Bool) → (x || false) ≡ x
or_right true = refl
or_right false = refl

or_again : (a x : Bool) → ((a || x) || x) ≡ (a || x)
or_again true x = refl
or_again false true = refl
or_again false false = refl

past_gathers : IsGathering false (λ a b. a || b) has_past
unfolding has_past
past_gathers = record {
  left = λ x. refl;
  right = or_right;
  again = or_again;
  truths = truths;
  both = λ p q. refl;
  either = λ p q. refl;
  not = λ p. refl;
}
  where
    truths : (b : Bool) → has_past (constant_formula b) ≡ false
    truths true = refl
    truths false = refl

future_gathers : IsGathering false (λ a b. a || b) has_future
unfolding has_future
future_gathers = record {
  left = λ x. refl;
  right = or_right;
  again = or_again;
  truths = truths;
  both = λ p q. refl;
  either = λ p q. refl;
  not = λ p. refl;
}
  where
    truths : (b : Bool) → has_future (constant_formula b) ≡ false
    truths true = refl
    truths false = refl

firsts_gathered : (ps : List Formula) (k : ℕ) → k ≤ length ps → firsts ps k ≡ gathered (take k ps)
unfolding firsts
firsts_gathered ps zero h = refl
firsts_gathered ps (suc k) h =
    ap (disjunction (body_at ps k)) (firsts_gathered ps k (omega arith))
    ∙ (sym (gathered_push (take k ps) (body_at ps k))
    ∙ sym (ap gathered (rw (add-one k) at (take_next ps k (body_at ps k) (slice_get-get_or ps k falsity (omega arith))))))

-- what is known of a counting quantifier with bodies, and of one without
pub with_bodies : (op : CountOp) (n m : ℕ) (ps : List Formula) → length ps ≡ n → asks_bodies op n m ≡ true →
    tree_fact (formula (counted_formula ps (counting.counting op n m))) ≡ tree_fact (formula (gathered ps))
with_bodies op n m ps count h =
    let all : firsts ps n ≡ gathered ps = firsts_gathered ps n (omega arith) ∙ ap gathered (take_all n ps (omega arith)) in
    rw (
      all_of None or_later formula_fault ps faults_gather op n m h,
      all_of false (λ a b. a || b) has_past ps past_gathers op n m h,
      all_of false (λ a b. a || b) has_future ps future_gathers op n m h,
      all,
    ) refl

pub without_bodies : (op : CountOp) (n m : ℕ) (ps : List Formula) → asks_bodies op n m ≡ false →
    tree_fact (formula (counted_formula ps (counting.counting op n m))) ≡ tree_fact (formula (constant_formula false))
unfolding formula_fault has_past has_future
without_bodies op n m ps h =
    rw (
      nothing_of None or_later formula_fault ps faults_gather op n m h,
      nothing_of false (λ a b. a || b) has_past ps past_gathers op n m h,
      nothing_of false (λ a b. a || b) has_future ps future_gathers op n m h,
    ) refl
