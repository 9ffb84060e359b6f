-- Expressions and core formulas as trees.

use Rattle.mltl_base.specs.Atoms.{Term, column, constant, negative, plus, minus, times, quotient, remainder, Atom}
use Rattle.mltl_base.specs.Atoms.{is_true, equal, less, at_most, different, greater, at_least}
use Rattle.mltl_base.specs.Formula.{Core, ctrue, catom, cnot, cand, cuntil, csince}
use Rattle.mltl_base.specs.Programs.{Expression, whole, truth}
use Rattle.core_graph.specs.Trees.{negative_sign, plus_sign, minus_sign, times_sign, quotient_sign, remainder_sign}
use Rattle.core_graph.specs.Trees.{equal_sign, less_sign, at_most_sign, different_sign, greater_sign, at_least_sign}
use Rattle.core_graph.specs.Trees.{true_sign, load_sign, not_sign, and_sign, sign, in_column, truth_in, number}
use Rattle.core_graph.specs.Trees.{until_in, since_in, LabelTree, leaf, one, two}

-- a whole-number term as a tree
abbrev pub of_term : Term → LabelTree
of_term (column c) = leaf (in_column c)
of_term (constant n) = leaf (number n)
of_term (negative a) = one (sign negative_sign) (of_term a)
of_term (plus a b) = two (sign plus_sign) (of_term a) (of_term b)
of_term (minus a b) = two (sign minus_sign) (of_term a) (of_term b)
of_term (times a b) = two (sign times_sign) (of_term a) (of_term b)
of_term (quotient a b) = two (sign quotient_sign) (of_term a) (of_term b)
of_term (remainder a b) = two (sign remainder_sign) (of_term a) (of_term b)

-- an atom as a tree
abbrev pub of_atom : Atom → LabelTree
of_atom (is_true c) = leaf (truth_in c)
of_atom (equal a b) = two (sign equal_sign) (of_term a) (of_term b)
of_atom (less a b) = two (sign less_sign) (of_term a) (of_term b)
of_atom (at_most a b) = two (sign at_most_sign) (of_term a) (of_term b)
of_atom (different a b) = two (sign different_sign) (of_term a) (of_term b)
of_atom (greater a b) = two (sign greater_sign) (of_term a) (of_term b)
of_atom (at_least a b) = two (sign at_least_sign) (of_term a) (of_term b)

-- an expression as a tree
abbrev pub of_expression : Expression → LabelTree
of_expression (whole a) = of_term a
of_expression (truth a) = of_atom a

-- a core formula as a tree
abbrev pub of_core : Core → LabelTree
of_core ctrue = leaf (sign true_sign)
of_core (catom a) = one (sign load_sign) (of_atom a)
of_core (cnot p) = one (sign not_sign) (of_core p)
of_core (cand p q) = two (sign and_sign) (of_core p) (of_core q)
of_core (cuntil i p q) = two (until_in i) (of_core p) (of_core q)
of_core (csince i p q) = two (since_in i) (of_core p) (of_core q)
