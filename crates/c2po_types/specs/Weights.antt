-- The weight of a value.

use Rattle.std.specs.Prelude.{ℕ, ◌+◌, ◌-◌, ◌*◌, min, length}
use Rattle.c2po_types.specs.Values.{Value, Values, Leaf, leaf, structure, set, none, more, list_of}
use Rattle.c2po_types.specs.Values.{integer, boolean, signal, one, two, joins, counts}

-- the weight of a counting quantifier over n bodies, with the number m, without the bodies
abbrev pub counting_weight : ℕ → ℕ → ℕ
counting_weight n m = 2 * n * (min m n + 1) + 4

-- the weight of a counting quantifier over these bodies without the bodies; 0 if there are none, which no text has
abbrev pub gates_weight : Values → ℕ → ℕ
gates_weight none m = 0
gates_weight (more v vs) m = counting_weight (length (list_of (more v vs))) m

-- The weight of a value. A number, a Boolean and a signal weigh 1; a struct's value, a set and an operator weigh 1 more than
-- their parts. Joined bodies weigh 1 more for each operator between them.
abbrev mutual
  pub weight : Value → ℕ
  weight (leaf l) = leaf_weight l
  weight (structure x vs) = 1 + parts_weight vs
  weight (set vs) = 1 + parts_weight vs

  pub leaf_weight : Leaf → ℕ
  leaf_weight (integer n) = 1
  leaf_weight (boolean b) = 1
  leaf_weight (signal b n) = 1
  leaf_weight (one op v) = 1 + weight v
  leaf_weight (two op v w) = 1 + weight v + weight w
  leaf_weight (joins op vs) = parts_weight vs + (length (list_of vs) - 1)
  leaf_weight (counts op m vs) = parts_weight vs + gates_weight vs m

  pub parts_weight : Values → ℕ
  parts_weight none = 0
  parts_weight (more v vs) = weight v + parts_weight vs
