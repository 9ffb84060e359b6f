-- What is known of operators is what their trees have.

use Rattle.std.proofs.Common.{◌≡◌, ℕ, Bool, true, false, ◌||◌, Option, Some, None, option_map, refl, ap, ◌∙◌, inl, inr, ◌⊎◌}
use Rattle.mltl_base.specs.declared.interval.Interval.{Interval}
use Rattle.mltl_base.specs.declared.operators.ArithOp as arith
use Rattle.mltl_base.specs.declared.operators.CompareOp as compare
use Rattle.mltl_base.specs.declared.operators.LogicOp as logic
use Rattle.mltl_base.specs.declared.operators.WindowOp as window
use Rattle.mltl_base.specs.declared.operators.BetweenOp as between
use Rattle.mltl_base.specs.Atoms.{is_true, negative}
use Rattle.mltl_base.specs.Formula.{Formula, atom}
use Rattle.mltl_base.specs.Ranges.{NoRange, Ranged, range, negated, over}
use Rattle.c2po_ast.specs.Nodes.{Tree, number, formula, term_in, formula_in, constant_formula, arithmetic, comparison, connected, windowed, ranged}
use Rattle.c2po_types.specs.declared.fact.Fact.{Fact}
use Rattle.c2po_ast.specs.Faults.{formula_fault, or_later, why_none}
use Rattle.c2po_ast.specs.Tenses.{has_past, has_future}
use Rattle.c2po_types.specs.Facts.{Tells, whole, truth, tree_fact, fact_view, range_in, fault_in, past_in, future_in, range_by}

in_range : (o : Option Tree) → range_in (option_map tree_fact o) ≡ range (term_in o)
unfolding range
in_range None = refl
in_range (Some (number a)) = refl
in_range (Some (formula p)) = refl

in_fault : (o : Option Tree) → fault_in (option_map tree_fact o) ≡ formula_fault (formula_in o)
unfolding formula_fault
in_fault None = refl
in_fault (Some (number a)) = refl
in_fault (Some (formula p)) = refl

in_past : (o : Option Tree) → past_in (option_map tree_fact o) ≡ has_past (formula_in o)
unfolding has_past
in_past None = refl
in_past (Some (number a)) = refl
in_past (Some (formula p)) = refl

in_future : (o : Option Tree) → future_in (option_map tree_fact o) ≡ has_future (formula_in o)
unfolding has_future
in_future None = refl
in_future (Some (number a)) = refl
in_future (Some (formula p)) = refl

-- what a fact tells of an operand
tells_range : (f : Fact) (o : Option Tree) → Tells f o → range_in (fact_view f) ≡ range (term_in o)
tells_range f o h = ap range_in h ∙ in_range o

pub tells_fault : (f : Fact) (o : Option Tree) → Tells f o → fault_in (fact_view f) ≡ formula_fault (formula_in o)
tells_fault f o h = ap fault_in h ∙ in_fault o

pub tells_past : (f : Fact) (o : Option Tree) → Tells f o → past_in (fact_view f) ≡ has_past (formula_in o)
tells_past f o h = ap past_in h ∙ in_past o

pub tells_future : (f : Fact) (o : Option Tree) → Tells f o → future_in (fact_view f) ≡ has_future (formula_in o)
tells_future f o h = ap future_in h ∙ in_future o

pub known_truth : (b : Bool) → truth None false false ≡ tree_fact (formula (constant_formula b))
unfolding formula_fault has_past has_future
known_truth true = refl
known_truth false = refl

pub known_flag : (n : ℕ) → truth None false false ≡ tree_fact (formula (atom (is_true n)))
unfolding formula_fault has_past has_future
known_flag n = refl

pub known_formula : (f : Fact) (o : Option Tree) (fault : Option NoRange) (past future : Bool) →
    fault ≡ fault_in (fact_view f) → past ≡ past_in (fact_view f) → future ≡ future_in (fact_view f) →
    Tells f o → truth fault past future ≡ tree_fact (formula (formula_in o))
known_formula f o fault past future a b c h =
    rw (a ∙ tells_fault f o h, b ∙ tells_past f o h, c ∙ tells_future f o h) refl

pub known_negative : (f : Fact) (o : Option Tree) (r s : Ranged) → r ≡ over negated s → s ≡ range_in (fact_view f) →
    Tells f o → whole r ≡ tree_fact (number (negative (term_in o)))
unfolding range
known_negative f o r s a b h = ap whole (a ∙ ap (over negated) (b ∙ tells_range f o h))

pub known_arith : (op : arith.ArithOp) (f g : Fact) (o q : Option Tree) (r s t : Ranged) → r ≡ range_by op s t →
    s ≡ range_in (fact_view f) → t ≡ range_in (fact_view g) → Tells f o → Tells g q →
    whole r ≡ tree_fact (number (arithmetic op (term_in o) (term_in q)))
unfolding range
known_arith op f g o q r s t a b c h k =
    ap whole (a ∙ (ap (λ x. range_by op x t) (b ∙ tells_range f o h) ∙ (ap (range_by op (range (term_in o))) (c ∙ tells_range g q k) ∙ by op)))
  where
    by : (p : arith.ArithOp) → range_by p (range (term_in o)) (range (term_in q)) ≡ range (arithmetic p (term_in o) (term_in q))
    by arith.TheVariants.Add = refl
    by arith.TheVariants.Sub = refl
    by arith.TheVariants.Mul = refl
    by arith.TheVariants.Div = refl
    by arith.TheVariants.Rem = refl

pub known_compared : (op : compare.CompareOp) (f g : Fact) (o q : Option Tree) (fault : Option NoRange) (s t : Ranged) →
    fault ≡ or_later (why_none s) (why_none t) → s ≡ range_in (fact_view f) → t ≡ range_in (fact_view g) →
    Tells f o → Tells g q → truth fault false false ≡ tree_fact (formula (atom (comparison op (term_in o) (term_in q))))
unfolding formula_fault has_past has_future
known_compared op f g o q fault s t a b c h k =
    ap (λ x. truth x false false)
    (a ∙ (ap (λ x. or_later (why_none x) (why_none t)) (b ∙ tells_range f o h) ∙ ap (λ x. or_later (why_none (range (term_in o))) (why_none x)) (c ∙ tells_range g q k)))
    ∙ by op
  where
    by : (p : compare.CompareOp) → truth (or_later (why_none (range (term_in o))) (why_none (range (term_in q)))) false false
        ≡ tree_fact (formula (atom (comparison p (term_in o) (term_in q))))
    by compare.TheVariants.Eq = refl
    by compare.TheVariants.Ne = refl
    by compare.TheVariants.Lt = refl
    by compare.TheVariants.Le = refl
    by compare.TheVariants.Gt = refl
    by compare.TheVariants.Ge = refl

-- what is known of two formulas together
pub both_known : (f g : Fact) (o q : Option Tree) (fault : Option NoRange) (past future : Bool) →
    fault ≡ or_later (fault_in (fact_view f)) (fault_in (fact_view g)) →
    past ≡ (past_in (fact_view f) || past_in (fact_view g)) →
    future ≡ (future_in (fact_view f) || future_in (fact_view g)) → Tells f o → Tells g q →
    (fault ≡ or_later (formula_fault (formula_in o)) (formula_fault (formula_in q)))
    × (past ≡ (has_past (formula_in o) || has_past (formula_in q)))
    × (future ≡ (has_future (formula_in o) || has_future (formula_in q)))
both_known f g o q fault past future a b c h k = (
  rw (← tells_fault f o h, ← tells_fault g q k) a,
  rw (← tells_past f o h, ← tells_past g q k) b,
  rw (← tells_future f o h, ← tells_future g q k) c,
)

pub known_joined : (op : logic.LogicOp) (p q : Formula) (fault : Option NoRange) (past future : Bool) →
    (fault ≡ or_later (formula_fault p) (formula_fault q)) × (past ≡ (has_past p || has_past q)) × (future ≡ (has_future p || has_future q)) →
    truth fault past future ≡ tree_fact (formula (connected op p q))
unfolding formula_fault has_past has_future
known_joined op p q fault past future h = rw (h.0, h.1, h.2) (by op)
  where
    by : (op : logic.LogicOp) → truth (or_later (formula_fault p) (formula_fault q)) (has_past p || has_past q) (has_future p || has_future q)
        ≡ tree_fact (formula (connected op p q))
    by logic.TheVariants.And = refl
    by logic.TheVariants.Or = refl
    by logic.TheVariants.Implies = refl
    by logic.TheVariants.Iff = refl

pub known_ahead : (op : window.WindowOp) (i : Interval) (f : Fact) (o : Option Tree) (fault : Option NoRange) (past future : Bool) →
    (op ≡ window.TheVariants.F) ⊎ (op ≡ window.TheVariants.G) →
    fault ≡ fault_in (fact_view f) → past ≡ past_in (fact_view f) → future ≡ true →
    Tells f o → truth fault past future ≡ tree_fact (formula (windowed op i (formula_in o)))
unfolding formula_fault has_past has_future
known_ahead op i f o fault past future e a b c h = elim e [
  | inl x ↦ rw (x, a ∙ tells_fault f o h, b ∙ tells_past f o h, c) refl
  | inr x ↦ rw (x, a ∙ tells_fault f o h, b ∙ tells_past f o h, c) refl
]

pub known_behind : (op : window.WindowOp) (i : Interval) (f : Fact) (o : Option Tree) (fault : Option NoRange) (past future : Bool) →
    (op ≡ window.TheVariants.O) ⊎ (op ≡ window.TheVariants.H) →
    fault ≡ fault_in (fact_view f) → past ≡ true → future ≡ future_in (fact_view f) →
    Tells f o → truth fault past future ≡ tree_fact (formula (windowed op i (formula_in o)))
unfolding formula_fault has_past has_future
known_behind op i f o fault past future e a b c h = elim e [
  | inl x ↦ rw (x, a ∙ tells_fault f o h, b, c ∙ tells_future f o h) refl
  | inr x ↦ rw (x, a ∙ tells_fault f o h, b, c ∙ tells_future f o h) refl
]

pub known_until : (op : between.BetweenOp) (i : Interval) (p q : Formula) (fault : Option NoRange) (past future : Bool) →
    (op ≡ between.TheVariants.U) ⊎ (op ≡ between.TheVariants.R) →
    fault ≡ or_later (formula_fault p) (formula_fault q) → past ≡ (has_past p || has_past q) → future ≡ true →
    truth fault past future ≡ tree_fact (formula (ranged op i p q))
unfolding formula_fault has_past has_future
known_until op i p q fault past future e a b c = elim e [
  | inl x ↦ rw (x, a, b, c) refl
  | inr x ↦ rw (x, a, b, c) refl
]

pub known_since : (op : between.BetweenOp) (i : Interval) (p q : Formula) (fault : Option NoRange) (past future : Bool) →
    op ≡ between.TheVariants.S →
    fault ≡ or_later (formula_fault p) (formula_fault q) → past ≡ true → future ≡ (has_future p || has_future q) →
    truth fault past future ≡ tree_fact (formula (ranged op i p q))
unfolding formula_fault has_past has_future
known_since op i p q fault past future e a b c = rw (e, a, b, c) refl
