-- The formula of a counting quantifier is true exactly where the count compares as it says.
use Rattle.std.proofs.Common.{◌≡◌, ◌<◌, ◌≤◌, ◌+◌, ℕ, zero, suc, Bool, true, false, not, ◌&&◌, ◌||◌, List, length, take, get_or, refl, ◌∙◌, ap, arith, cond, add-one, ◌⊎◌, inl, inr}
use Rattle.std.specs.Prelude.{nat_eq, nat_le}
use Rattle.std.proofs.lemmas.List.{take_all, length-take-le}
use Rattle.std.proofs.lemmas.List.Sums.{count_by-le-length, count_by_more_yes, count_by_more_no}
use Rattle.std.proofs.lemmas.Bool.Decides.{nat_tests}
use Rattle.std.proofs.lemmas.Bool.{cases_lt}
use Rattle.mltl_base.specs.declared.operators.CountOp.{CountOp}
use Rattle.mltl_base.specs.declared.operators.CountOp.TheVariants.{Exactly, AtLeast, AtMost}
use Rattle.count_sets.specs.Counting.{truth, body, both, either, least, counting, truth_under, true_count, compares}

test_true : (m k : ℕ) → m ≤ k → nat_le m k ≡ true
test_true m k h = grind (arith, nat_tests)

test_false : (m k : ℕ) → k < m → nat_le m k ≡ false
test_false m k h = grind (arith, nat_tests)

-- none are asked for
pub least_none : (k : ℕ) → least 0 k ≡ truth true
unfolding least
least_none zero = refl
least_none (suc k) = refl

-- more are asked for than there are
pub least_above : (m k : ℕ) → k < m → least m k ≡ truth false
unfolding least
least_above zero k h = absurd (omega arith)
least_above (suc m) zero h = refl
least_above (suc m) (suc k) h =
    let e : nat_le m k ≡ false = test_false m k (omega arith) in
    rw e refl

step : (m k : ℕ) → m ≤ k → least (suc m) (suc k) ≡ either (both (body k) (least m k)) (least (suc m) k)
unfolding least
step m k h = let e : nat_le m k ≡ true = test_true m k h in rw e refl

-- a row more
pub least_more : (m k : ℕ) → m ≤ k → least (m + 1) (k + 1) ≡ either (both (body k) (least m k)) (least (m + 1) k)
least_more m k h = rw (add-one m, add-one k) (step m k h)

with_last : (v : Bool) (m c d : ℕ) → d ≡ cond v (c + 1) c → ((v && nat_le m c) || nat_le (suc m) c) ≡ nat_le (suc m) d
with_last true m c d e = let e' : d ≡ c + 1 = e in grind (arith, nat_tests)
with_last false m c d e = let e' : d ≡ c = e in grind (arith, nat_tests)

count_yes : (bodies : List Bool) (k : ℕ) → k < length bodies → get_or bodies k false ≡ true → true_count (take (suc k) bodies) ≡ true_count (take k bodies) + 1
count_yes bodies k lt e = rw (add-one k) at (count_by_more_yes (λ v. v) bodies k false lt e)

count_no : (bodies : List Bool) (k : ℕ) → k < length bodies → get_or bodies k false ≡ false → true_count (take (suc k) bodies) ≡ true_count (take k bodies)
count_no bodies k lt e = rw (add-one k) at (count_by_more_no (λ v. v) bodies k false lt e)

count_step : (bodies : List Bool) (k : ℕ) (v : Bool) → k < length bodies → get_or bodies k false ≡ v → true_count (take (suc k) bodies) ≡ cond v (true_count (take k bodies) + 1) (true_count (take k bodies))
count_step bodies k true lt e = count_yes bodies k lt e
count_step bodies k false lt e = count_no bodies k lt e

count_within : (bodies : List Bool) (k : ℕ) → k ≤ length bodies → true_count (take k bodies) ≤ k
count_within bodies k h =
    let short : length (take k bodies) ≡ k = length-take-le k bodies h in
    omega (arith, count_by-le-length (λ v. v) (take k bodies))

row_counts : (bodies : List Bool) (m k : ℕ) → suc k ≤ length bodies
    → truth_under bodies (least m k) ≡ nat_le m (true_count (take k bodies))
    → truth_under bodies (least (suc m) k) ≡ nat_le (suc m) (true_count (take k bodies))
    → (k < m) ⊎ (m ≤ k)
    → truth_under bodies (least (suc m) (suc k)) ≡ nat_le (suc m) (true_count (take (suc k) bodies))
unfolding truth_under
row_counts bodies m k h fewer same (inl lt) =
    let few : true_count (take (suc k) bodies) ≤ suc k = count_within bodies (suc k) h in
    let no : nat_le (suc m) (true_count (take (suc k) bodies)) ≡ false = test_false (suc m) (true_count (take (suc k) bodies)) (omega (arith, few, lt)) in
    let none : least (suc m) (suc k) ≡ truth false = least_above (suc m) (suc k) (omega (arith, lt)) in
    rw (none, no) refl
row_counts bodies m k h fewer same (inr le) =
    let v : Bool = get_or bodies k false in
    let more : true_count (take (suc k) bodies) ≡ cond v (true_count (take k bodies) + 1) (true_count (take k bodies))
    = count_step bodies k v (omega (arith, h)) refl in
    rw (step m k le, fewer, same) (with_last v m (true_count (take k bodies)) (true_count (take (suc k) bodies)) more)

by_rows : (bodies : List Bool) (k : ℕ) → k ≤ length bodies → (m : ℕ) → truth_under bodies (least m k) ≡ nat_le m (true_count (take k bodies))
unfolding truth_under
by_rows bodies k h zero =
    let yes : nat_le 0 (true_count (take k bodies)) ≡ true = test_true 0 (true_count (take k bodies)) (omega arith) in
    rw (least_none k, yes) refl
by_rows bodies zero h (suc m) =
    let no : nat_le (suc m) 0 ≡ false = test_false (suc m) 0 (omega arith) in
    rw (least_above (suc m) 0 (omega arith), no) refl
by_rows bodies (suc k) h (suc m) =
    row_counts bodies m k h (by_rows bodies k (omega (arith, h)) m) (by_rows bodies k (omega (arith, h)) (suc m)) (cases_lt k m)

-- `least m n` over n bodies is true where m of them are
pub truth_under-least : (bodies : List Bool) (n m : ℕ) → length bodies ≡ n → truth_under bodies (least m n) ≡ nat_le m (true_count bodies)
truth_under-least bodies n m e =
    let all : take n bodies ≡ bodies = take_all n bodies (omega arith) in
    by_rows bodies n (omega arith) m ∙ ap (λ bs. nat_le m (true_count bs)) all

exact : (m c : ℕ) → (nat_le m c && not (nat_le (m + 1) c)) ≡ nat_eq c m
exact m c = grind (arith, nat_tests)

within : (m c : ℕ) → not (nat_le (m + 1) c) ≡ nat_le c m
within m c = grind (arith, nat_tests)

-- a counting quantifier counts
pub counting_counts : (op : CountOp) (n m : ℕ) (bodies : List Bool) → length bodies ≡ n → truth_under bodies (counting op n m) ≡ compares op m (true_count bodies)
unfolding truth_under
counting_counts Exactly n m bodies e = rw (truth_under-least bodies n m e, truth_under-least bodies n (m + 1) e) (exact m (true_count bodies))
counting_counts AtLeast n m bodies e = truth_under-least bodies n m e
counting_counts AtMost n m bodies e = rw (truth_under-least bodies n (m + 1) e) (within m (true_count bodies))
