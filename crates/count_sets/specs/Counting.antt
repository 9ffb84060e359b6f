-- Counting quantifiers as formulas over numbered bodies, and the numbers that they count.

use Rattle.std.specs.Prelude.{ℕ, zero, suc, ◌+◌, Bool, true, false, not, ◌&&◌, ◌||◌, if◌then◌else◌, List, nat_eq}
use Rattle.std.specs.Prelude.{nat_le, slice_index_or, count_by}
use Rattle.mltl_base.specs.declared.operators.CountOp.{CountOp}
use Rattle.mltl_base.specs.declared.operators.CountOp.TheVariants.{Exactly, AtLeast, AtMost}

-- a formula over bodies, which are numbered from 0
pub data Counted : Type 0 where
  truth : Bool → Counted
  body : ℕ → Counted
  both : Counted → Counted → Counted
  either : Counted → Counted → Counted
  negation : Counted → Counted

-- at least m of the first k bodies: the last of them and m - 1 of the others, or m of the others
unfoldable pub least : ℕ → ℕ → Counted
least zero k = truth true
least (suc m) zero = truth false
least (suc m) (suc k) =
    if nat_le m k then either (both (body k) (least m k)) (least (suc m) k) else truth false

-- the formula of a counting quantifier over the bodies 0 to n - 1, with the number m
abbrev pub counting : CountOp → ℕ → ℕ → Counted
counting Exactly n m = both (least m n) (negation (least (m + 1) n))
counting AtLeast n m = least m n
counting AtMost n m = negation (least (m + 1) n)

-- the truth of a formula, from the truths of the bodies
unfoldable pub truth_under : List Bool → Counted → Bool
truth_under bodies (truth v) = v
truth_under bodies (body i) = slice_index_or bodies i false
truth_under bodies (both p q) = truth_under bodies p && truth_under bodies q
truth_under bodies (either p q) = truth_under bodies p || truth_under bodies q
truth_under bodies (negation p) = not (truth_under bodies p)

-- the number of true bodies: each place counts
abbrev pub true_count : List Bool → ℕ
true_count bodies = count_by (λ v. v) bodies

-- true if a count is exactly, at least, or at most m
abbrev pub compares : CountOp → ℕ → ℕ → Bool
compares Exactly m count = nat_eq count m
compares AtLeast m count = nat_le m count
compares AtMost m count = nat_le count m
