-- Trees of expressions and core formulas in one kind, and the order in which a walk completes them.

use Rattle.std.specs.Prelude.{ℕ, ℤ, ◌==◌, Bool, true, false, ◌&&◌, List, [], fold}
use Rattle.std.specs.Ordering.{int_eq}
use Rattle.mltl_base.specs.declared.interval.Interval.{Interval}
use Rattle.mltl_base.specs.Subformulas.{same_interval, add_new}

-- an operator or a constant without a number
pub data Sign : Type 0 where
  negative_sign : Sign
  plus_sign : Sign
  minus_sign : Sign
  times_sign : Sign
  quotient_sign : Sign
  remainder_sign : Sign
  equal_sign : Sign
  less_sign : Sign
  at_most_sign : Sign
  different_sign : Sign
  greater_sign : Sign
  at_least_sign : Sign
  true_sign : Sign
  load_sign : Sign
  not_sign : Sign
  and_sign : Sign

-- the label of a node of a tree
pub data Label : Type 0 where
  sign : Sign → Label
  in_column : ℕ → Label
  truth_in : ℕ → Label
  number : ℤ → Label
  until_in : Interval → Label
  since_in : Interval → Label

-- a tree of labels: an expression or a core formula
pub data LabelTree : Type 0 where
  leaf : Label → LabelTree
  one : Label → LabelTree → LabelTree
  two : Label → LabelTree → LabelTree → LabelTree

-- a number for each sign, no two alike
abbrev pub sign_number : Sign → ℕ
sign_number negative_sign = 0
sign_number plus_sign = 1
sign_number minus_sign = 2
sign_number times_sign = 3
sign_number quotient_sign = 4
sign_number remainder_sign = 5
sign_number equal_sign = 6
sign_number less_sign = 7
sign_number at_most_sign = 8
sign_number different_sign = 9
sign_number greater_sign = 10
sign_number at_least_sign = 11
sign_number true_sign = 12
sign_number load_sign = 13
sign_number not_sign = 14
sign_number and_sign = 15

-- the two labels are equal
abbrev pub same_label : Label → Label → Bool
same_label (sign s) (sign t) = sign_number s == sign_number t
same_label (in_column c) (in_column d) = c == d
same_label (truth_in c) (truth_in d) = c == d
same_label (number n) (number m) = int_eq n m
same_label (until_in i) (until_in j) = same_interval i j
same_label (since_in i) (since_in j) = same_interval i j
same_label _ _ = false

-- the two trees are equal
unfoldable pub same_tree : LabelTree → LabelTree → Bool
same_tree (leaf l) (leaf m) = same_label l m
same_tree (one l t) (one m u) = same_label l m && same_tree t u
same_tree (two l t u) (two m v w) = same_label l m && (same_tree t v && same_tree u w)
same_tree _ _ = false

-- the list with the subtrees of a tree that aren't listed: operands first, from left to right
unfoldable pub add_tree : LabelTree → List LabelTree → List LabelTree
add_tree (leaf l) ts = add_new same_tree (leaf l) ts
add_tree (one l t) ts = add_new same_tree (one l t) (add_tree t ts)
add_tree (two l t u) ts = add_new same_tree (two l t u) (add_tree u (add_tree t ts))

-- all subtrees of the roots, in order of first completion
abbrev pub completed : List LabelTree → List LabelTree
completed roots = fold (λ ts t. add_tree t ts) [] roots

-- the sign belongs to a core formula, not to an expression
abbrev pub is_core_sign : Sign → Bool
is_core_sign true_sign = true
is_core_sign load_sign = true
is_core_sign not_sign = true
is_core_sign and_sign = true
is_core_sign _ = false

-- the label belongs to a core formula, not to an expression
abbrev pub is_core_label : Label → Bool
is_core_label (sign s) = is_core_sign s
is_core_label (until_in i) = true
is_core_label (since_in i) = true
is_core_label _ = false

-- the label of the root of a tree
abbrev pub root : LabelTree → Label
root (leaf l) = l
root (one l t) = l
root (two l t u) = l

-- the tree is a core formula, not an expression
abbrev pub is_core_tree : LabelTree → Bool
is_core_tree t = is_core_label (root t)
