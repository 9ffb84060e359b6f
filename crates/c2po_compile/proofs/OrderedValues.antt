-- Formulas that expressions stand for: their intervals run upward.

use Rattle.std.proofs.Common.{ℕ, suc, Bool, true, false, List, [], ◌∷◌, map, arith}
use Rattle.std.specs.Prelude.{All, ⊤}
use Rattle.std.proofs.lemmas.List.Elements.{All-nil, All-cons, All-append}
use Rattle.mltl_base.specs.declared.operators.LogicOp.{LogicOp}
use Rattle.mltl_base.specs.declared.operators.LogicOp.TheVariants.{And}
use Rattle.mltl_base.specs.declared.operators.WindowOp.{WindowOp}
use Rattle.mltl_base.specs.declared.operators.WindowOp.TheVariants.{F}
use Rattle.mltl_base.specs.declared.operators.BetweenOp.{BetweenOp}
use Rattle.mltl_base.specs.declared.operators.BetweenOp.TheVariants.{U}
use Rattle.mltl_base.specs.declared.signal.Signal.{Signal}
use Rattle.mltl_base.specs.Atoms.{Term}
use Rattle.mltl_base.specs.Formula.{Formula}
use Rattle.mltl_base.specs.Settled.{IsOrdered}
use Rattle.mltl_base.specs.Subformulas.{Asked, formulas_of}
use Rattle.c2po_ast.specs.ItemShape as item
use Rattle.c2po_ast.specs.ItemShape.{BodyShape, ItemShape}
use Rattle.c2po_ast.specs.Shape.{Shape}
use Rattle.c2po_types.specs.Signals.{body_signals}
use Rattle.c2po_ast.specs.Nodes.{constant_formula, connected, windowed, ranged}
use Rattle.c2po_types.specs.Outputs.{Place, before, values_after, asked_at, place_after, asked_from, outputs_of, with_signals}
use Rattle.c2po_types.specs.Values.{formula_of, interval}
use Rattle.c2po_types.specs.Environment.{Env, fields, value, signal_value, declare, value_of}
use Rattle.c2po_types.proofs.ValueWalk.{Any, EnvHas, Keeps, ValueHas, any_constants, declare_has, formula_has, nothing_has, value_has}

-- of whole numbers nothing is said
abbrev AnyTerm : Term → Type 0
AnyTerm a = ⊤

truth_ordered : (b : Bool) → IsOrdered (constant_formula b)
truth_ordered true = tt
truth_ordered false = tt

logic_ordered : (op : LogicOp) (p q : Formula) → IsOrdered p → IsOrdered q → IsOrdered (connected op p q)
logic_ordered And p q g h = (g, h)
logic_ordered _ p q g h = (g, h)

window_ordered : (op : WindowOp) (a b : ℕ) (p : Formula) → IsOrdered p → IsOrdered (windowed op (interval a b) p)
window_ordered F a b p h = (omega arith, h)
window_ordered _ a b p h = (omega arith, h)

between_ordered : (op : BetweenOp) (a b : ℕ) (p q : Formula) → IsOrdered p → IsOrdered q → IsOrdered (ranged op (interval a b) p q)
between_ordered U a b p q g h = (omega arith, (g, h))
between_ordered _ a b p q g h = (omega arith, (g, h))

upward_kept : Keeps Any AnyTerm IsOrdered
upward_kept = record {
  constants = λ n h. tt;
  zero_has = tt;
  negatives = λ a h. tt;
  arithmetics = λ op a b g h. tt;
  comparisons = λ op a b g h. tt;
  truths = truth_ordered;
  negations = λ p h. h;
  connectives = logic_ordered;
  windows = window_ordered;
  ranges = between_ordered;
}

abbrev EnvOrdered : Env → Type 0
EnvOrdered env = EnvHas AnyTerm IsOrdered env

value_ordered : (e : Shape) (env : Env) → EnvOrdered env → ValueHas AnyTerm IsOrdered (value_of e env)
value_ordered e env h = value_has Any AnyTerm IsOrdered upward_kept e env (any_constants e) h

formula_ordered : (e : Shape) (env : Env) → EnvOrdered env → IsOrdered (formula_of (value_of e env))
formula_ordered e env h = formula_has Any AnyTerm IsOrdered upward_kept (value_of e env) (value_ordered e env h)

-- ---- outputs

signal_ordered : (truth : Bool) (n : ℕ) → ValueHas AnyTerm IsOrdered (signal_value truth n)
signal_ordered true n = tt
signal_ordered false n = tt

signals_ordered : (ss : List Signal) (n : ℕ) (env : Env) → EnvOrdered env → EnvOrdered (with_signals n ss env)
signals_ordered [] n env h = h
signals_ordered (s ∷ ss) n env h =
    signals_ordered ss (suc n) (declare s.name (value (signal_value s.truth n)) env) (declare_has AnyTerm IsOrdered s.name (value (signal_value s.truth n)) env (signal_ordered s.truth n) h)

after_ordered : (body : BodyShape) (p : Place) → EnvOrdered p.values → EnvOrdered (values_after body p)
after_ordered (item.structure x fs) p h = declare_has AnyTerm IsOrdered x (fields (map (λ f. f.name) fs)) p.values tt h
after_ordered (item.input xs t) p h = signals_ordered (body_signals (item.input xs t)) p.signals p.values h
after_ordered (item.define x e) p h = declare_has AnyTerm IsOrdered x (value (value_of e p.values)) p.values (value_ordered e p.values h) h
after_ordered _ p h = h

-- each formula of the output is ordered
abbrev pub IsOrderedOutput : Asked → Type 0
IsOrderedOutput asked = All IsOrdered (formulas_of asked.output)

asked_ordered : (body : BodyShape) (p : Place) → EnvOrdered p.values → All IsOrderedOutput (asked_at body p)
asked_ordered (item.formula engine label e) p h =
    let one = formula_ordered e p.values h in
    All-cons IsOrderedOutput _ [] (All-cons IsOrdered _ [] one (All-nil IsOrdered)) (All-nil IsOrderedOutput)
asked_ordered (item.contract engine label e f) p h =
    let left = formula_ordered e p.values h in
    let right = formula_ordered f p.values h in
    All-cons IsOrderedOutput _ [] (All-cons IsOrdered (formula_of (value_of e p.values)) (formula_of (value_of f p.values) ∷ []) left (All-cons IsOrdered (formula_of (value_of f p.values)) [] right (All-nil IsOrdered))) (All-nil IsOrderedOutput)
asked_ordered _ p h = All-nil IsOrderedOutput

items_ordered : (items : List ItemShape) (p : Place) → EnvOrdered p.values → All IsOrderedOutput (asked_from items p)
unfolding asked_from
items_ordered [] p h = All-nil IsOrderedOutput
items_ordered (i ∷ items) p h =
    All-append IsOrderedOutput (asked_at i.body p) (asked_from items (place_after i.body p)) (asked_ordered i.body p h) (items_ordered items (place_after i.body p) (after_ordered i.body p h))

-- intervals in the outputs of a specification run upward
pub outputs_ordered : (items : List ItemShape) → All IsOrderedOutput (outputs_of items)
unfolding outputs_of
outputs_ordered items = items_ordered items before (nothing_has AnyTerm IsOrdered)
