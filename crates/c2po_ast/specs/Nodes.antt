-- Nodes of plain formulas: the integers and formulas that they unfold to, and sound lists of nodes.
-- A reader of the contracts needs this file.

use Rattle.std.specs.Prelude.{◌≡◌, ℕ, ◌<◌, ◌≤◌, pos, Bool, true, false, Option, Some, None, List, [], ◌∷◌, ◌++◌, take}
use Rattle.std.specs.Prelude.{fold, slice_get, ⊤}
use Rattle.mltl_base.specs.declared.limits.TheConstants.{MAX_BOUND}
use Rattle.mltl_base.specs.declared.interval.Interval.{Interval}
use Rattle.mltl_base.specs.declared.operators.ArithOp as arith
use Rattle.mltl_base.specs.declared.operators.CompareOp as compare
use Rattle.mltl_base.specs.declared.operators.LogicOp as logic
use Rattle.mltl_base.specs.declared.operators.WindowOp as window
use Rattle.mltl_base.specs.declared.operators.BetweenOp as between
use Rattle.mltl_base.specs.Atoms.{Term, column, constant, negative, plus, minus, times, quotient, remainder, Atom}
use Rattle.mltl_base.specs.Atoms.{is_true, equal, different, less, at_most, greater, at_least}
use Rattle.mltl_base.specs.Formula.{Formula, truth, falsity, atom, negation, conjunction, disjunction, implication}
use Rattle.mltl_base.specs.Formula.{equivalence, finally, globally, until, release, once, historically, since}
use Rattle.c2po_ast.specs.declared.nodes.Plain.{Plain}
use Rattle.c2po_ast.specs.declared.nodes.Plain.TheVariants.{Truth, Flag, Number, Signal, Minus, Arith, Compare, Not}
use Rattle.c2po_ast.specs.declared.nodes.Plain.TheVariants.{Logic, Window, Between}

-- the integer or formula that a node unfolds to, over signals by their numbers
pub data Tree : Type 0 where
  number : Term → Tree
  formula : Formula → Tree

-- the integer that a node unfolds to; a formula, which isn't expected here, counts as 0
abbrev pub term_in : Option Tree → Term
term_in (Some (number a)) = a
term_in (Some (formula p)) = constant (pos 0)
term_in None = constant (pos 0)

-- the formula that a node unfolds to; an integer, which isn't expected here, counts as false
abbrev pub formula_in : Option Tree → Formula
formula_in (Some (formula p)) = p
formula_in (Some (number a)) = falsity
formula_in None = falsity

-- the integer of node n
abbrev pub node_term : List Tree → ℕ → Term
node_term earlier n = term_in (slice_get earlier n)

-- the formula of node n
abbrev pub node_formula : List Tree → ℕ → Formula
node_formula earlier n = formula_in (slice_get earlier n)

-- the formula of a Boolean
abbrev pub constant_formula : Bool → Formula
constant_formula true = truth
constant_formula false = falsity

-- the integer of an operation on two integers
abbrev pub arithmetic : arith.ArithOp → Term → Term → Term
arithmetic arith.TheVariants.Add a b = plus a b
arithmetic arith.TheVariants.Sub a b = minus a b
arithmetic arith.TheVariants.Mul a b = times a b
arithmetic arith.TheVariants.Div a b = quotient a b
arithmetic arith.TheVariants.Rem a b = remainder a b

-- the atom of a comparison of two integers
abbrev pub comparison : compare.CompareOp → Term → Term → Atom
comparison compare.TheVariants.Eq a b = equal a b
comparison compare.TheVariants.Ne a b = different a b
comparison compare.TheVariants.Lt a b = less a b
comparison compare.TheVariants.Le a b = at_most a b
comparison compare.TheVariants.Gt a b = greater a b
comparison compare.TheVariants.Ge a b = at_least a b

-- the formula of a connective over two formulas
abbrev pub connected : logic.LogicOp → Formula → Formula → Formula
connected logic.TheVariants.And p q = conjunction p q
connected logic.TheVariants.Or p q = disjunction p q
connected logic.TheVariants.Implies p q = implication p q
connected logic.TheVariants.Iff p q = equivalence p q

-- the formula of a temporal operator over one formula
abbrev pub windowed : window.WindowOp → Interval → Formula → Formula
windowed window.TheVariants.F i p = finally i p
windowed window.TheVariants.G i p = globally i p
windowed window.TheVariants.O i p = once i p
windowed window.TheVariants.H i p = historically i p

-- the formula of a temporal operator over two formulas
abbrev pub ranged : between.BetweenOp → Interval → Formula → Formula → Formula
ranged between.TheVariants.U i p q = until i p q
ranged between.TheVariants.R i p q = release i p q
ranged between.TheVariants.S i p q = since i p q

-- the integer or formula that a node unfolds to, over the trees of the nodes before it
abbrev pub tree_of : List Tree → Plain → Tree
tree_of earlier (Truth v) = formula (constant_formula v)
tree_of earlier (Flag s) = formula (atom (is_true s))
tree_of earlier (Number n) = number (constant n)
tree_of earlier (Signal s) = number (column s)
tree_of earlier (Minus a) = number (negative (node_term earlier a))
tree_of earlier (Arith op a b) = number (arithmetic op (node_term earlier a) (node_term earlier b))
tree_of earlier (Compare op a b) = formula (atom (comparison op (node_term earlier a) (node_term earlier b)))
tree_of earlier (Not a) = formula (negation (node_formula earlier a))
tree_of earlier (Logic op a b) = formula (connected op (node_formula earlier a) (node_formula earlier b))
tree_of earlier (Window op i a) = formula (windowed op i (node_formula earlier a))
tree_of earlier (Between op i a b) = formula (ranged op i (node_formula earlier a) (node_formula earlier b))

-- the trees that the nodes unfold to, in order
unfoldable pub trees : List Plain → List Tree
trees nodes = fold (λ earlier node. earlier ++ tree_of earlier node ∷ []) [] nodes

-- node n exists and unfolds to the tree
pub record Has (nodes : List Plain) (n : ℕ) (tree : Tree) : Type 0 where
  pub found : slice_get (trees nodes) n ≡ Some tree

-- each node of the old list unfolds to the same tree in the new list, at the same index
pub record Grows (old new : List Plain) : Type 0 where
  pub kept : (n : ℕ) (tree : Tree) → Has old n tree → Has new n tree

-- the tree exists and is an integer
abbrev pub IsNumber : Option Tree → Type 0
IsNumber (Some (number a)) = ⊤
IsNumber (Some (formula p)) = ⊥
IsNumber None = ⊥

-- the tree exists and is a formula
abbrev pub IsFormula : Option Tree → Type 0
IsFormula (Some (formula p)) = ⊤
IsFormula (Some (number a)) = ⊥
IsFormula None = ⊥

-- the interval's lower bound isn't above the upper one, and the upper one is within the limit
abbrev pub IsBounded : Interval → Type 0
IsBounded i = (i.lo ≤ i.hi) × (i.hi ≤ MAX_BOUND)

-- the node's operands are earlier nodes of the required kinds, its interval is within bounds, and its signal exists
abbrev pub IsFormed : ℕ → List Tree → Plain → Type 0
IsFormed signals earlier (Truth v) = ⊤
IsFormed signals earlier (Flag s) = s < signals
IsFormed signals earlier (Number n) = ⊤
IsFormed signals earlier (Signal s) = s < signals
IsFormed signals earlier (Minus a) = IsNumber (slice_get earlier a)
IsFormed signals earlier (Arith op a b) = IsNumber (slice_get earlier a) × IsNumber (slice_get earlier b)
IsFormed signals earlier (Compare op a b) = IsNumber (slice_get earlier a) × IsNumber (slice_get earlier b)
IsFormed signals earlier (Not a) = IsFormula (slice_get earlier a)
IsFormed signals earlier (Logic op a b) = IsFormula (slice_get earlier a) × IsFormula (slice_get earlier b)
IsFormed signals earlier (Window op i a) = IsBounded i × IsFormula (slice_get earlier a)
IsFormed signals earlier (Between op i a b) =
    IsBounded i × IsFormula (slice_get earlier a) × IsFormula (slice_get earlier b)

-- each node is well formed over the nodes before it
pub record AreSound (signals : ℕ) (nodes : List Plain) : Type 0 where
  pub formed : (i : ℕ) (node : Plain) → slice_get nodes i ≡ Some node → IsFormed signals (trees (take i nodes)) node
