-- Facts of values: ranges of integers, faults and tenses of formulas. `src/fact.rt` computes them; contracts of other
-- crates cite the facts of formulas.

use Rattle.std.specs.Prelude.{◌≡◌, pos, Bool, true, false, Option, Some, None, Result, Ok, Err}
use Rattle.std.specs.Option.{option_map}
use Rattle.mltl_base.specs.declared.operators.ArithOp as arith
use Rattle.mltl_base.specs.Ranges.{Range, NoRange, Ranged, range, range_from, summed}
use Rattle.mltl_base.specs.Ranges.{lessened, multiplied, divided, left_over, over_both, over_divisor}
use Rattle.mltl_base.specs.declared.range.NoRange as answer
use Rattle.mltl_base.specs.Answers.{reason}
use Rattle.c2po_ast.specs.Nodes.{Tree, number, formula}
use Rattle.c2po_types.specs.declared.fact.Fact.{Fact}
use Rattle.c2po_types.specs.declared.fact.Tenses.{Tenses}
use Rattle.c2po_types.specs.declared.fact.Tenses as tenses
use Rattle.c2po_types.specs.declared.fact.Fact.TheVariants.{Number, NoNumber, Formula, Parts}
use Rattle.c2po_ast.specs.Faults.{formula_fault}
use Rattle.c2po_ast.specs.Tenses.{has_past, has_future}

-- the fact of a tree
pub data TreeFact : Type 0 where
  whole : Ranged → TreeFact
  truth : (fault : Option NoRange) (past future : Bool) → TreeFact

-- the fact of an integer, or of a formula
abbrev pub tree_fact : Tree → TreeFact
tree_fact (number a) = whole (range a)
tree_fact (formula p) = truth (formula_fault p) (has_past p) (has_future p)

-- the range that the code's result stands for
abbrev pub told_range : Result Range answer.NoRange → Ranged
told_range (Ok r) = Ok r
told_range (Err why) = Err (reason why)

-- the fault that the code's result stands for
abbrev pub told_fault : Option answer.NoRange → Option NoRange
told_fault fault = option_map reason fault

-- these tenses include the past
abbrev pub with_past : Tenses → Bool
with_past tenses.TheVariants.None = false
with_past tenses.TheVariants.Past = true
with_past tenses.TheVariants.Future = false
with_past tenses.TheVariants.Both = true

-- these tenses include the future
abbrev pub with_future : Tenses → Bool
with_future tenses.TheVariants.None = false
with_future tenses.TheVariants.Past = false
with_future tenses.TheVariants.Future = true
with_future tenses.TheVariants.Both = true

-- the fact of a tree that a fact of the code stands for, if it is the fact of an integer or a formula
abbrev pub fact_view : Fact → Option TreeFact
fact_view (Number r) = Some (whole (Ok r))
fact_view (NoNumber why) = Some (whole (Err (reason why)))
fact_view (Formula fault t) = Some (truth (told_fault fault) (with_past t) (with_future t))
fact_view Parts = None

-- the fact is the fact of the tree, or of parts if there is no tree
abbrev pub Tells : Fact → Option Tree → Type 0
Tells fact o = fact_view fact ≡ option_map tree_fact o

-- the range of an operand; an operand that isn't an integer has the range of 0
abbrev pub range_in : Option TreeFact → Ranged
range_in (Some (whole r)) = r
range_in (Some (truth fault past future)) = Ok (range_from (pos 0) (pos 0))
range_in None = Ok (range_from (pos 0) (pos 0))

-- the fault of an operand that is a formula; another operand has none
abbrev pub fault_in : Option TreeFact → Option NoRange
fault_in (Some (truth fault past future)) = fault
fault_in (Some (whole r)) = None
fault_in None = None

-- the operand is a formula with an operator of the past
abbrev pub past_in : Option TreeFact → Bool
past_in (Some (truth fault past future)) = past
past_in (Some (whole r)) = false
past_in None = false

-- the operand is a formula with an operator of the future
abbrev pub future_in : Option TreeFact → Bool
future_in (Some (truth fault past future)) = future
future_in (Some (whole r)) = false
future_in None = false

-- the range of an operation, from the ranges of its operands
abbrev pub range_by : arith.ArithOp → Ranged → Ranged → Ranged
range_by arith.TheVariants.Add r s = over_both summed r s
range_by arith.TheVariants.Sub r s = over_both lessened r s
range_by arith.TheVariants.Mul r s = over_both multiplied r s
range_by arith.TheVariants.Div r s = over_divisor divided r s
range_by arith.TheVariants.Rem r s = over_divisor left_over r s
