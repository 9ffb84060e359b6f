-- Outputs that are counting quantifiers.

use Rattle.std.specs.Prelude.{ℕ, ◌≡◌, List, length, All}
use Rattle.mltl_base.specs.declared.operators.CountOp.{CountOp}
use Rattle.mltl_base.specs.Atoms.{Row}
use Rattle.mltl_base.specs.Formula.{Formula}
use Rattle.mltl_base.specs.Meaning.{count, sat}
use Rattle.mltl_base.specs.Subformulas.{Asked, formulas_of}
use Rattle.count_sets.specs.Counting.{compares, counting}
use Rattle.c2po_types.specs.Values.{counted_formula}

-- if the formula is a counting quantifier, it holds exactly when the number of its bodies that hold compares as it requires;
-- equal bodies count separately
abbrev pub Counts : Formula → Type 0
Counts p = (op : CountOp) (m : ℕ) (bodies : List Formula) → p ≡ counted_formula bodies (counting op (length bodies) m)
    → (rows : List Row) (t : ℕ) → sat rows p t ≡ compares op m (count rows bodies t)

-- each formula of the output that is a counting quantifier counts its bodies
abbrev pub CountsBodies : Asked → Type 0
CountsBodies asked = All Counts (formulas_of asked.output)
