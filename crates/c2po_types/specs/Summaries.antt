-- Summaries of values.

use Rattle.std.specs.Prelude.{ℕ, ◌≡◌, ◌+◌, nat_le, Bool, ◌&&◌, List, fold}
use Rattle.mltl_base.specs.declared.operators.CountOp.{CountOp}
use Rattle.mltl_base.specs.declared.operators.CountOp.TheVariants.{Exactly, AtLeast, AtMost}
use Rattle.mltl_base.specs.Formula.{Formula, falsity, disjunction}
use Rattle.c2po_types.specs.Facts.{Tells}
use Rattle.c2po_types.specs.declared.summary.Summary.{Summary}
use Rattle.c2po_types.specs.Values.{Value, tree_in}
use Rattle.c2po_types.specs.Weights.{weight as weight_of}

-- the summary has the weight of the value, and the fact of its integer or formula
pub record IsSummary (s : Summary) (v : Value) : Type 0 where
  pub weight : s.weight ≡ weight_of v
  pub fact : Tells s.fact (tree_in v)

-- the disjunction of the formulas, from the last to the first
abbrev pub gathered : List Formula → Formula
gathered ps = fold (λ found p. disjunction p found) falsity ps

-- the formula of a counting quantifier over n bodies contains bodies
abbrev pub asks_bodies : CountOp → ℕ → ℕ → Bool
asks_bodies Exactly n m = nat_le m n
asks_bodies AtLeast n m = nat_le 1 m && nat_le m n
asks_bodies AtMost n m = nat_le (m + 1) n
