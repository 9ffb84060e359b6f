-- The first fault of a value's integers. Parts are taken from left to right.

use Rattle.std.specs.Prelude.{Option, None}
use Rattle.mltl_base.specs.Ranges.{NoRange}
use Rattle.c2po_ast.specs.Faults.{or_later, tree_fault}
use Rattle.c2po_types.specs.Values.{Value, Values, leaf, structure, set, none, more, leaf_tree}

abbrev mutual
  pub value_fault : Value → Option NoRange
  value_fault (leaf l) = tree_fault (leaf_tree l)
  value_fault (structure x vs) = values_fault vs
  value_fault (set vs) = values_fault vs

  pub values_fault : Values → Option NoRange
  values_fault none = None
  values_fault (more v vs) = or_later (value_fault v) (values_fault vs)
