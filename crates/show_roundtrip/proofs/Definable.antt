-- What a definition may stand for: a light expression or formula whose whole numbers have ranges. Faults and tenses are
-- those of the tree over any columns.

use Rattle.std.proofs.Common.{◌≡◌, ◌∙◌, ℕ, ◌≤◌, List, Option, Some, None, refl, ap, ap₂, sym, arith}
use Rattle.std.specs.Prelude.{slice_get, Bool, ◌||◌}
use Rattle.mltl_base.specs.declared.interval.Engine.TheVariants.{Ft, Pt}
use Rattle.mltl_base.specs.declared.limits.TheConstants.{MAX_WEIGHT}
use Rattle.mltl_base.specs.declared.program.Program.{Program}
use Rattle.mltl_base.specs.Atoms.{Term, Atom, is_true, equal, less, at_most, different, greater, at_least, term_over, atom_over}
use Rattle.mltl_base.specs.Formula as full
use Rattle.mltl_base.specs.Formula.{Formula, falsity, atom, negation, conjunction, disjunction, implication, equivalence, finally, globally, until, release, once, historically, since, Core, plain, formula_over}
use Rattle.mltl_base.specs.Programs.{Expression, whole, truth, expressions, cores_of}
use Rattle.mltl_base.specs.Ranges.{NoRange}
use Rattle.c2po_ast.specs.Nodes.{number, formula}
use Rattle.c2po_ast.specs.Faults.{why_none, or_later, term_fault, atom_fault, formula_fault}
use Rattle.c2po_ast.specs.Tenses.{has_past, has_future}
use Rattle.c2po_compile.proofs.Reading.{range_over}
use Rattle.c2po_types.specs.Values.{Value}
use Rattle.c2po_types.specs.Weights.{weight}
use Rattle.c2po_types.specs.Faults.{value_fault}
use Rattle.obs_show.specs.Weight.{formula_weight}
use Rattle.obs_show.specs.Weighing.{expression_weight}
use Rattle.show_roundtrip.proofs.Values.{SaysWhole, SaysFormula, Says, tree_faults}

-- ---- columns

-- columns don't change a fault
term_fault_over : (columns : List ℕ) (a : Term) → term_fault (term_over columns a) ≡ term_fault a
term_fault_over columns a = ap why_none (range_over columns a)

both_over : (columns : List ℕ) (a b : Term) → or_later (term_fault (term_over columns a)) (term_fault (term_over columns b)) ≡ or_later (term_fault a) (term_fault b)
both_over columns a b = ap₂ or_later (term_fault_over columns a) (term_fault_over columns b)

atom_fault_over : (columns : List ℕ) (a : Atom) → atom_fault (atom_over columns a) ≡ atom_fault a
unfolding atom_over
atom_fault_over columns (is_true s) = refl
atom_fault_over columns _ = both_over columns _ _

pub fault_over : (columns : List ℕ) (p : Formula) → formula_fault (formula_over columns p) ≡ formula_fault p
unfolding formula_fault formula_over
fault_over columns full.truth = refl
fault_over columns falsity = refl
fault_over columns (atom a) = atom_fault_over columns a
fault_over columns (negation p) = fault_over columns p
fault_over columns (conjunction p q) = ap₂ or_later (fault_over columns p) (fault_over columns q)
fault_over columns (disjunction p q) = ap₂ or_later (fault_over columns p) (fault_over columns q)
fault_over columns (implication p q) = ap₂ or_later (fault_over columns p) (fault_over columns q)
fault_over columns (equivalence p q) = ap₂ or_later (fault_over columns p) (fault_over columns q)
fault_over columns (finally i p) = fault_over columns p
fault_over columns (globally i p) = fault_over columns p
fault_over columns (until i p q) = ap₂ or_later (fault_over columns p) (fault_over columns q)
fault_over columns (release i p q) = ap₂ or_later (fault_over columns p) (fault_over columns q)
fault_over columns (once i p) = fault_over columns p
fault_over columns (historically i p) = fault_over columns p
fault_over columns (since i p q) = ap₂ or_later (fault_over columns p) (fault_over columns q)

-- one or the other of two
either : Bool → Bool → Bool
either a b = a || b

-- columns don't change a tense
pub past_over : (columns : List ℕ) (p : Formula) → has_past (formula_over columns p) ≡ has_past p
unfolding has_past formula_over either
past_over columns (negation p) = past_over columns p
past_over columns (conjunction p q) = ap₂ either (past_over columns p) (past_over columns q)
past_over columns (disjunction p q) = ap₂ either (past_over columns p) (past_over columns q)
past_over columns (implication p q) = ap₂ either (past_over columns p) (past_over columns q)
past_over columns (equivalence p q) = ap₂ either (past_over columns p) (past_over columns q)
past_over columns (finally i p) = past_over columns p
past_over columns (globally i p) = past_over columns p
past_over columns (until i p q) = ap₂ either (past_over columns p) (past_over columns q)
past_over columns (release i p q) = ap₂ either (past_over columns p) (past_over columns q)
past_over columns _ = refl

pub future_over : (columns : List ℕ) (p : Formula) → has_future (formula_over columns p) ≡ has_future p
unfolding has_future formula_over either
future_over columns (negation p) = future_over columns p
future_over columns (conjunction p q) = ap₂ either (future_over columns p) (future_over columns q)
future_over columns (disjunction p q) = ap₂ either (future_over columns p) (future_over columns q)
future_over columns (implication p q) = ap₂ either (future_over columns p) (future_over columns q)
future_over columns (equivalence p q) = ap₂ either (future_over columns p) (future_over columns q)
future_over columns (once i p) = future_over columns p
future_over columns (historically i p) = future_over columns p
future_over columns (since i p q) = ap₂ either (future_over columns p) (future_over columns q)
future_over columns _ = refl

-- ---- definitions

-- the first whole number of an expression that has no range
abbrev pub expression_fault : Expression → Option NoRange
expression_fault (whole t) = term_fault t
expression_fault (truth a) = atom_fault a

-- an expression, or a formula, that a definition may stand for: it is light, and its whole numbers have ranges
abbrev pub IsDefinable : Expression → Type 0
IsDefinable e = (expression_weight e ≤ MAX_WEIGHT) × (expression_fault e ≡ None)

abbrev pub IsFormulaDefinable : Formula → Type 0
IsFormulaDefinable p = (formula_weight p ≤ MAX_WEIGHT) × (formula_fault p ≡ None)

-- each instruction of a program stands for what a definition may stand for
pub record AreDefinable (program : Program) : Type 0 where
  pub bz : (i : ℕ) (e : Expression) → slice_get (expressions program.bz) i ≡ Some e → IsDefinable e
  pub ft : (i : ℕ) (c : Core) → slice_get (cores_of program Ft) i ≡ Some c → IsFormulaDefinable (plain c)
  pub pt : (i : ℕ) (c : Core) → slice_get (cores_of program Pt) i ≡ Some c → IsFormulaDefinable (plain c)

-- a light value whose whole numbers have ranges
abbrev pub IsValueDefinable : Value → Type 0
IsValueDefinable v = (weight v ≤ MAX_WEIGHT) × (value_fault v ≡ None)

-- what says an expression or a formula has its weight and its faults
whole_definable : (columns : List ℕ) (v : Value) (t : Term) → SaysWhole columns v t → IsDefinable (whole t) → IsValueDefinable v
whole_definable columns v t h d =
    let weighs : weight v ≡ expression_weight (whole t) = h.weighs in (
      omega (arith, weighs, d.0),
      tree_faults v (number h.tree) h.is ∙ sym (term_fault_over columns h.tree) ∙ ap term_fault h.over ∙ d.1,
    )

pub formula_definable : (columns : List ℕ) (v : Value) (p : Formula) → SaysFormula columns v p → IsFormulaDefinable p → IsValueDefinable v
formula_definable columns v p h d =
    let weighs : weight v ≡ formula_weight p = h.weighs in (
      omega (arith, weighs, d.0),
      tree_faults v (formula h.tree) h.is ∙ sym (fault_over columns h.tree) ∙ ap formula_fault h.over ∙ d.1,
    )

pub value_definable : (columns : List ℕ) (v : Value) (e : Expression) → Says columns v e → IsDefinable e → IsValueDefinable v
unfolding formula_weight formula_fault
value_definable columns v (whole t) h d = whole_definable columns v t h d
value_definable columns v (truth a) h d = formula_definable columns v (atom a) h d
