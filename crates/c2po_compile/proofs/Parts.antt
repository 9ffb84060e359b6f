-- What all parts of the atoms of formulas have, all listed expressions have.

use Rattle.std.specs.Prelude.{⊤}
use Rattle.std.proofs.Common.{Bool, true, false, if◌then◌else◌, List, [], ◌∷◌, ◌++◌, fold}
use Rattle.mltl_base.specs.Atoms.{Term, column, constant, negative, plus, minus, times, quotient, remainder, Atom, is_true, equal, less, at_most, different, greater, at_least}
use Rattle.mltl_base.specs.Formula.{Core, ctrue, catom, cnot, cand, cuntil, csince}
use Rattle.mltl_base.specs.Programs.{Expression, whole, truth}
use Rattle.mltl_base.specs.Subformulas.{same_expression, listed, add_new, add_terms, add_operands, add_expressions}
use Rattle.mltl_base.proofs.Unfolding.{Deep, Each, all_push}

-- P holds of a whole number and of all its operands
abbrev pub InTerm : (Expression → Type 0) → Term → Type 0
InTerm P (column c) = P (whole (column c))
InTerm P (constant n) = P (whole (constant n))
InTerm P (negative a) = P (whole (negative a)) × InTerm P a
InTerm P (plus a b) = P (whole (plus a b)) × InTerm P a × InTerm P b
InTerm P (minus a b) = P (whole (minus a b)) × InTerm P a × InTerm P b
InTerm P (times a b) = P (whole (times a b)) × InTerm P a × InTerm P b
InTerm P (quotient a b) = P (whole (quotient a b)) × InTerm P a × InTerm P b
InTerm P (remainder a b) = P (whole (remainder a b)) × InTerm P a × InTerm P b

-- of the whole numbers that an atom compares
abbrev pub InOperands : (Expression → Type 0) → Atom → Type 0
InOperands P (is_true c) = ⊤
InOperands P (equal a b) = InTerm P a × InTerm P b
InOperands P (less a b) = InTerm P a × InTerm P b
InOperands P (at_most a b) = InTerm P a × InTerm P b
InOperands P (different a b) = InTerm P a × InTerm P b
InOperands P (greater a b) = InTerm P a × InTerm P b
InOperands P (at_least a b) = InTerm P a × InTerm P b

-- of an atom and of these
abbrev pub InAtom : (Expression → Type 0) → Atom → Type 0
InAtom P a = P (truth a) × InOperands P a

abbrev pub AtCore : (Expression → Type 0) → Core → Type 0
AtCore P (catom a) = InAtom P a
AtCore P _ = ⊤

each_new : (P : Expression → Type 0) (e : Expression) (es : List Expression) → Each P es → P e → Each P (add_new same_expression e es)
each_new P e es h g = go (listed same_expression e es)
  where
    go : (b : Bool) → Each P (if b then es else es ++ e ∷ [])
    go true = h
    go false = all_push P es e h g

terms_all : (P : Expression → Type 0) (a : Term) (es : List Expression) → InTerm P a → Each P es → Each P (add_terms a es)
unfolding add_terms
terms_all P (column c) es d h = each_new P (whole (column c)) es h d
terms_all P (constant n) es d h = each_new P (whole (constant n)) es h d
terms_all P (negative a) es d h = each_new P (whole (negative a)) _ (terms_all P a es d.1 h) d.0
terms_all P (plus a b) es d h = each_new P (whole (plus a b)) _ (terms_all P b _ d.2 (terms_all P a es d.1 h)) d.0
terms_all P (minus a b) es d h = each_new P (whole (minus a b)) _ (terms_all P b _ d.2 (terms_all P a es d.1 h)) d.0
terms_all P (times a b) es d h = each_new P (whole (times a b)) _ (terms_all P b _ d.2 (terms_all P a es d.1 h)) d.0
terms_all P (quotient a b) es d h = each_new P (whole (quotient a b)) _ (terms_all P b _ d.2 (terms_all P a es d.1 h)) d.0
terms_all P (remainder a b) es d h = each_new P (whole (remainder a b)) _ (terms_all P b _ d.2 (terms_all P a es d.1 h)) d.0

operands_all : (P : Expression → Type 0) (a : Atom) (es : List Expression) → InOperands P a → Each P es → Each P (add_operands a es)
operands_all P (is_true c) es d h = h
operands_all P _ es d h = terms_all P _ _ d.1 (terms_all P _ es d.0 h)

expressions_all : (P : Expression → Type 0) (p : Core) (es : List Expression) → Deep (AtCore P) p → Each P es → Each P (add_expressions p es)
unfolding add_expressions
expressions_all P ctrue es d h = h
expressions_all P (catom a) es d h = each_new P (truth a) _ (operands_all P a es d.1 h) d.0
expressions_all P (cnot p) es d h = expressions_all P p es d.1 h
expressions_all P (cand p q) es d h = expressions_all P q _ d.2 (expressions_all P p es d.1 h)
expressions_all P (cuntil i p q) es d h = expressions_all P q _ d.2 (expressions_all P p es d.1 h)
expressions_all P (csince i p q) es d h = expressions_all P q _ d.2 (expressions_all P p es d.1 h)

-- over several formulas
pub fold_expressions_all : (P : Expression → Type 0) (cs : List Core) (es : List Expression) → Each (Deep (AtCore P)) cs → Each P es → Each P (fold (λ ds p. add_expressions p ds) es cs)
fold_expressions_all P [] es d h = h
fold_expressions_all P (c ∷ cs) es d h = fold_expressions_all P cs (add_expressions c es) d.1 (expressions_all P c es d.0 h)
