-- Formulas that expressions stand for: their constants are numbers of the language.

use Rattle.std.proofs.Common.{ℕ, suc, Bool, true, false, List, [], ◌∷◌, map, arith}
use Rattle.std.specs.Prelude.{All, ⊤}
use Rattle.std.proofs.lemmas.List.Elements.{All-nil, All-cons, All-append}
use Rattle.mltl_base.specs.declared.operators.LogicOp.{LogicOp}
use Rattle.mltl_base.specs.declared.operators.LogicOp.TheVariants.{And, Or, Implies, Iff}
use Rattle.mltl_base.specs.declared.operators.WindowOp.{WindowOp}
use Rattle.mltl_base.specs.declared.operators.WindowOp.TheVariants.{F, G, O, H}
use Rattle.mltl_base.specs.declared.operators.BetweenOp.{BetweenOp}
use Rattle.mltl_base.specs.declared.operators.BetweenOp.TheVariants.{U, R, S}
use Rattle.mltl_base.specs.declared.signal.Signal.{Signal}
use Rattle.mltl_base.specs.declared.operators.ArithOp.{ArithOp}
use Rattle.mltl_base.specs.declared.operators.ArithOp.TheVariants.{Add, Sub, Mul, Div, Rem}
use Rattle.mltl_base.specs.declared.operators.CompareOp.{CompareOp}
use Rattle.mltl_base.specs.declared.operators.CompareOp.TheVariants.{Eq, Ne, Lt, Le, Gt, Ge}
use Rattle.mltl_base.specs.Atoms.{Term, column, constant, negative, plus, minus, times, quotient, remainder, Atom, is_true, equal, less, at_most, different, greater, at_least}
use Rattle.mltl_base.specs.Formula.{EachAtom, Formula}
use Rattle.show_roundtrip.specs.Written.{IsNumeral}
use Rattle.show_roundtrip.proofs.GoodTrees.{HasNumbers}
use Rattle.show_roundtrip.proofs.GoodItems.{GoodBody, GoodItems}
use Rattle.mltl_base.specs.Subformulas.{Asked, formulas_of}
use Rattle.c2po_ast.specs.ItemShape as item
use Rattle.c2po_ast.specs.ItemShape.{BodyShape, ItemShape}
use Rattle.c2po_ast.specs.Shape.{Shape}
use Rattle.c2po_types.specs.Signals.{body_signals}
use Rattle.c2po_ast.specs.Nodes.{constant_formula, arithmetic, comparison, connected, windowed, ranged}
use Rattle.c2po_types.specs.Outputs.{Place, before, values_after, asked_at, place_after, asked_from, outputs_of, with_signals}
use Rattle.c2po_types.specs.Values.{formula_of, interval}
use Rattle.c2po_types.specs.Environment.{Env, fields, value, signal_value, declare, value_of}
use Rattle.c2po_types.proofs.ValueWalk.{EnvHas, Keeps, ValueHas, declare_has, formula_has, nothing_has, value_has}

-- constants are numbers of the language
abbrev pub TermNatural : Term → Type 0
TermNatural (column s) = ⊤
TermNatural (constant n) = IsNumeral n
TermNatural (negative a) = TermNatural a
TermNatural (plus a b) = TermNatural a × TermNatural b
TermNatural (minus a b) = TermNatural a × TermNatural b
TermNatural (times a b) = TermNatural a × TermNatural b
TermNatural (quotient a b) = TermNatural a × TermNatural b
TermNatural (remainder a b) = TermNatural a × TermNatural b

abbrev pub AtomNatural : Atom → Type 0
AtomNatural (is_true s) = ⊤
AtomNatural (equal a b) = TermNatural a × TermNatural b
AtomNatural (less a b) = TermNatural a × TermNatural b
AtomNatural (at_most a b) = TermNatural a × TermNatural b
AtomNatural (different a b) = TermNatural a × TermNatural b
AtomNatural (greater a b) = TermNatural a × TermNatural b
AtomNatural (at_least a b) = TermNatural a × TermNatural b

abbrev pub Natural : Formula → Type 0
Natural p = EachAtom AtomNatural p

-- ---- operators

arith_natural : (op : ArithOp) (a b : Term) → TermNatural a → TermNatural b → TermNatural (arithmetic op a b)
arith_natural Add a b g h = (g, h)
arith_natural _ a b g h = (g, h)

compare_natural : (op : CompareOp) (a b : Term) → TermNatural a → TermNatural b → AtomNatural (comparison op a b)
compare_natural Eq a b g h = (g, h)
compare_natural _ a b g h = (g, h)

truth_natural : (b : Bool) → Natural (constant_formula b)
truth_natural true = tt
truth_natural false = tt

logic_natural : (op : LogicOp) (p q : Formula) → Natural p → Natural q → Natural (connected op p q)
logic_natural And p q g h = (g, h)
logic_natural _ p q g h = (g, h)

window_natural : (op : WindowOp) (a b : ℕ) (p : Formula) → Natural p → Natural (windowed op (interval a b) p)
window_natural F a b p h = h
window_natural _ a b p h = h

between_natural : (op : BetweenOp) (a b : ℕ) (p q : Formula) → Natural p → Natural q → Natural (ranged op (interval a b) p q)
between_natural U a b p q g h = (g, h)
between_natural _ a b p q g h = (g, h)

natural_kept : Keeps IsNumeral TermNatural Natural
natural_kept = record {
  constants = λ n h. h;
  zero_has = omega arith;
  negatives = λ a h. h;
  arithmetics = arith_natural;
  comparisons = compare_natural;
  truths = truth_natural;
  negations = λ p h. h;
  connectives = logic_natural;
  windows = window_natural;
  ranges = between_natural;
}

abbrev EnvNatural : Env → Type 0
EnvNatural env = EnvHas TermNatural Natural env

value_natural : (e : Shape) (env : Env) → HasNumbers e → EnvNatural env → ValueHas TermNatural Natural (value_of e env)
value_natural e env k h = value_has IsNumeral TermNatural Natural natural_kept e env k h

formula_natural : (e : Shape) (env : Env) → HasNumbers e → EnvNatural env → Natural (formula_of (value_of e env))
formula_natural e env k h = formula_has IsNumeral TermNatural Natural natural_kept (value_of e env) (value_natural e env k h)

-- ---- outputs

signal_natural : (truth : Bool) (n : ℕ) → ValueHas TermNatural Natural (signal_value truth n)
signal_natural true n = tt
signal_natural false n = tt

signals_natural : (ss : List Signal) (n : ℕ) (env : Env) → EnvNatural env → EnvNatural (with_signals n ss env)
signals_natural [] n env h = h
signals_natural (s ∷ ss) n env h =
    signals_natural ss (suc n) (declare s.name (value (signal_value s.truth n)) env) (declare_has TermNatural Natural s.name (value (signal_value s.truth n)) env (signal_natural s.truth n) h)

after_natural : (body : BodyShape) (p : Place) → GoodBody body → EnvNatural p.values → EnvNatural (values_after body p)
after_natural (item.structure x fs) p k h = declare_has TermNatural Natural x (fields (map (λ f. f.name) fs)) p.values tt h
after_natural (item.input xs t) p k h = signals_natural (body_signals (item.input xs t)) p.signals p.values h
after_natural (item.define x e) p k h = declare_has TermNatural Natural x (value (value_of e p.values)) p.values (value_natural e p.values k.1 h) h
after_natural _ p k h = h

-- each formula of the output is natural
abbrev pub IsNaturalOutput : Asked → Type 0
IsNaturalOutput asked = All Natural (formulas_of asked.output)

asked_natural : (body : BodyShape) (p : Place) → GoodBody body → EnvNatural p.values → All IsNaturalOutput (asked_at body p)
asked_natural (item.formula engine label e) p k h =
    let one = formula_natural e p.values k.1 h in
    All-cons IsNaturalOutput _ [] (All-cons Natural _ [] one (All-nil Natural)) (All-nil IsNaturalOutput)
asked_natural (item.contract engine label e f) p k h =
    let left = formula_natural e p.values k.1.0 h in
    let right = formula_natural f p.values k.1.1 h in
    All-cons IsNaturalOutput _ [] (All-cons Natural (formula_of (value_of e p.values)) (formula_of (value_of f p.values) ∷ []) left (All-cons Natural (formula_of (value_of f p.values)) [] right (All-nil Natural))) (All-nil IsNaturalOutput)
asked_natural _ p k h = All-nil IsNaturalOutput

items_natural : (items : List ItemShape) (p : Place) → GoodItems items → EnvNatural p.values → All IsNaturalOutput (asked_from items p)
unfolding asked_from
items_natural [] p k h = All-nil IsNaturalOutput
items_natural (i ∷ items) p k h =
    All-append IsNaturalOutput (asked_at i.body p) (asked_from items (place_after i.body p)) (asked_natural i.body p k.0 h) (items_natural items (place_after i.body p) k.1 (after_natural i.body p k.0 h))

-- the constants in the outputs of a specification are numbers of the language
pub outputs_natural : (items : List ItemShape) → GoodItems items → All IsNaturalOutput (outputs_of items)
unfolding outputs_of
outputs_natural items k = items_natural items before k (nothing_has TermNatural Natural)
