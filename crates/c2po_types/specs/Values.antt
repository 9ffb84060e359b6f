-- The values that expressions unfold to. A value is an expression written out, without names, picked fields and variables of
-- quantifiers. `specs/Weights.antt` defines its weight.

use Rattle.std.specs.Prelude.{ℕ, ℤ, min, Bool, true, false, Option, Some, None, List, [], ◌∷◌, fold, length}
use Rattle.std.specs.Prelude.{slice_index_or, position}
use Rattle.std.specs.Str.{bytes_eq}
use Rattle.mltl_base.specs.declared.limits.TheConstants.{MAX_BOUND}
use Rattle.mltl_base.specs.declared.interval.Interval.{Interval}
use Rattle.mltl_base.specs.declared.operators.LogicOp.{LogicOp}
use Rattle.mltl_base.specs.declared.operators.CountOp.{CountOp}
use Rattle.mltl_base.specs.Atoms.{Term, constant, column, negative, is_true}
use Rattle.mltl_base.specs.Formula.{Formula, atom, negation, conjunction, disjunction, falsity}
use Rattle.count_sets.specs.Counting as counting
use Rattle.c2po_ast.specs.Nodes.{Tree, number, formula, term_in, formula_in, constant_formula, arithmetic}
use Rattle.c2po_ast.specs.Nodes.{comparison, connected, windowed, ranged}
use Rattle.c2po_types.specs.declared.operators.UnaryOp.{UnaryOp}
use Rattle.c2po_types.specs.declared.operators.UnaryOp.TheVariants.{Minus, Not, Window}
use Rattle.c2po_types.specs.declared.operators.BinaryOp.{BinaryOp}
use Rattle.c2po_types.specs.declared.operators.BinaryOp.TheVariants.{Arith, Compare, Logic, Between}

-- a value: an integer or a formula, a struct's value with the struct's name, or a set
mutual
  pub data Value : Type 0 where
    leaf : Leaf → Value
    structure : (name : List ℕ) (parts : Values) → Value
    set : (members : Values) → Value

  pub data Values : Type 0 where
    none : Values
    more : Value → Values → Values

  -- an integer or a formula: a number, a Boolean, a Boolean or an integer signal, an operator over one value or over two, or
  -- the bodies of a quantifier, joined by an operator or counted
  pub data Leaf : Type 0 where
    integer : ℤ → Leaf
    boolean : Bool → Leaf
    signal : (truth : Bool) (number : ℕ) → Leaf
    one : UnaryOp → Value → Leaf
    two : BinaryOp → Value → Value → Leaf
    joins : LogicOp → (bodies : Values) → Leaf
    counts : CountOp → (number : ℕ) (bodies : Values) → Leaf

-- values as a list
abbrev pub list_of : Values → List Value
list_of none = []
list_of (more v vs) = v ∷ list_of vs

-- the values in a list
abbrev pub values_from : List Value → Values
values_from [] = none
values_from (v ∷ vs) = more v (values_from vs)

-- the interval from a to b, or the nearest interval if it is out of bounds
abbrev pub interval : ℕ → ℕ → Interval
interval a b = record { lo = min a (min b MAX_BOUND); hi = min b MAX_BOUND }

-- the integer or formula of an operator over one operand
abbrev pub unary_tree : UnaryOp → Option Tree → Tree
unary_tree Minus o = number (negative (term_in o))
unary_tree Not o = formula (negation (formula_in o))
unary_tree (Window op a b) o = formula (windowed op (interval a b) (formula_in o))

-- the integer or formula of an operator over two operands
abbrev pub binary_tree : BinaryOp → Option Tree → Option Tree → Tree
binary_tree (Arith op) o q = number (arithmetic op (term_in o) (term_in q))
binary_tree (Compare op) o q = formula (atom (comparison op (term_in o) (term_in q)))
binary_tree (Logic op) o q = formula (connected op (formula_in o) (formula_in q))
binary_tree (Between op a b) o q = formula (ranged op (interval a b) (formula_in o) (formula_in q))

-- the formula that joins formulas by an operator, from left to right; `false` if there are none
abbrev pub joined_formula : LogicOp → List Formula → Formula
joined_formula op [] = falsity
joined_formula op (p ∷ ps) = fold (connected op) p ps

-- the formula of body i of a counting quantifier
abbrev pub body_at : List Formula → ℕ → Formula
body_at bodies i = slice_index_or bodies i falsity

-- the formula of a counting quantifier over its bodies' formulas
unfoldable pub counted_formula : List Formula → counting.Counted → Formula
counted_formula bodies (counting.truth b) = constant_formula b
counted_formula bodies (counting.body i) = body_at bodies i
counted_formula bodies (counting.both p q) = conjunction (counted_formula bodies p) (counted_formula bodies q)
counted_formula bodies (counting.either p q) = disjunction (counted_formula bodies p) (counted_formula bodies q)
counted_formula bodies (counting.negation p) = negation (counted_formula bodies p)

-- the formula of a counting quantifier with the number m; `false` if it has no body
abbrev pub counting_formula : CountOp → ℕ → List Formula → Formula
counting_formula op m [] = falsity
counting_formula op m (p ∷ ps) = counted_formula (p ∷ ps) (counting.counting op (length (p ∷ ps)) m)

-- the integer or formula of a value, if it is one
abbrev mutual
  pub tree_in : Value → Option Tree
  tree_in (leaf l) = Some (leaf_tree l)
  tree_in (structure x vs) = None
  tree_in (set vs) = None

  pub leaf_tree : Leaf → Tree
  leaf_tree (integer n) = number (constant n)
  leaf_tree (boolean b) = formula (constant_formula b)
  leaf_tree (signal true n) = formula (atom (is_true n))
  leaf_tree (signal false n) = number (column n)
  leaf_tree (one op v) = unary_tree op (tree_in v)
  leaf_tree (two op v w) = binary_tree op (tree_in v) (tree_in w)
  leaf_tree (joins op vs) = formula (joined_formula op (formulas_in vs))
  leaf_tree (counts op m vs) = formula (counting_formula op m (formulas_in vs))

  pub formulas_in : Values → List Formula
  formulas_in none = []
  formulas_in (more v vs) = formula_in (tree_in v) ∷ formulas_in vs

-- the integer of a value; 0 if the value isn't an integer
abbrev pub term_of : Value → Term
term_of v = term_in (tree_in v)

-- the formula of a value; `false` if the value isn't a formula
abbrev pub formula_of : Value → Formula
formula_of v = formula_in (tree_in v)

-- the value of a number
abbrev pub number_value : ℤ → Value
number_value n = leaf (integer n)

-- the value of a Boolean
abbrev pub truth_value : Bool → Value
truth_value b = leaf (boolean b)

-- a struct's value
abbrev pub built : List ℕ → Values → Value
built x vs = structure x vs

-- the value of a set
abbrev pub grouped : Values → Value
grouped vs = set vs

-- the members of a set; another value has none
abbrev pub members : Value → List Value
members (set vs) = list_of vs
members (structure x vs) = []
members (leaf l) = []

-- the part of a whole at a place, or the whole itself if there is no such part
abbrev pub part_or : Value → List Value → Option ℕ → Value
part_or whole vs (Some i) = slice_index_or vs i whole
part_or whole vs None = whole

-- the part of a struct's value that a field names, or the value itself if it has no such part
abbrev pub picked : (List ℕ → List (List ℕ)) → List ℕ → Value → Value
picked fields x (structure y vs) = part_or (structure y vs) (list_of vs) (position (bytes_eq x) (fields y))
picked fields x (set vs) = set vs
picked fields x (leaf l) = leaf l

-- the value of bodies joined by an operator
abbrev pub connected_all : LogicOp → List Value → Value
connected_all op vs = leaf (joins op (values_from vs))

-- the value of a counting quantifier with the number m over its bodies
abbrev pub counted : CountOp → ℕ → List Value → Value
counted op m vs = leaf (counts op m (values_from vs))
