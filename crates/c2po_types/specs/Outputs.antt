-- The outputs of a specification: the plain formulas of their expressions.

use Rattle.std.specs.Prelude.{ℕ, suc, ◌+◌, Option, Some, None, List, [], ◌∷◌, ◌++◌, length, map, fold, decimal}
use Rattle.mltl_base.specs.declared.signal.Signal.{Signal}
use Rattle.mltl_base.specs.Reports.{formula, contract}
use Rattle.mltl_base.specs.Subformulas.{Asked}
use Rattle.c2po_ast.specs.ItemShape as item
use Rattle.c2po_ast.specs.ItemShape.{BodyShape, ItemShape}
use Rattle.c2po_ast.specs.Names.{IsPlainName}
use Rattle.c2po_types.specs.Values.{formula_of}
use Rattle.c2po_types.specs.Environment.{Env, no_names, declare, fields, value, signal_value, value_of}
use Rattle.c2po_types.specs.Signals.{body_signals}

-- The state between two items: the values of names, and the numbers of signals and outputs so far.
pub record Place : Type 0 where
  pub values : Env
  pub signals : ℕ
  pub outputs : ℕ

-- the state before the first item
abbrev pub before : Place
before = record { values = no_names; signals = 0; outputs = 0 }

-- the environment with signals, which are numbered from n on
abbrev pub with_signals : ℕ → List Signal → Env → Env
with_signals n [] env = env
with_signals n (s ∷ ss) env = with_signals (suc n) ss (declare s.name (value (signal_value s.truth n)) env)

-- the environment after an item: a name has the value of its definition, and signals are numbered in the order of
-- declaration
abbrev pub values_after : BodyShape → Place → Env
values_after (item.structure x fs) p = declare x (fields (map (λ f. f.name) fs)) p.values
values_after (item.input xs t) p = with_signals p.signals (body_signals (item.input xs t)) p.values
values_after (item.define x e) p = declare x (value (value_of e p.values)) p.values
values_after (item.formula engine label e) p = p.values
values_after (item.contract engine label e f) p = p.values

-- the name of an output: its label, or the decimal text of its number
abbrev pub name_of : ℕ → Option (List ℕ) → List ℕ
name_of k (Some x) = x
name_of k None = decimal k

-- the outputs of an item at a place: one or none
abbrev pub asked_at : BodyShape → Place → List Asked
asked_at (item.structure x fs) p = []
asked_at (item.input xs t) p = []
asked_at (item.define x e) p = []
asked_at (item.formula engine label e) p = record {
  engine = engine;
  name = name_of p.outputs label;
  output = formula (formula_of (value_of e p.values));
} ∷ []
asked_at (item.contract engine label e f) p = record {
  engine = engine;
  name = name_of p.outputs label;
  output = contract (formula_of (value_of e p.values)) (formula_of (value_of f p.values));
} ∷ []

-- the state after an item
abbrev pub place_after : BodyShape → Place → Place
place_after body p = record {
  values = values_after body p;
  signals = p.signals + length (body_signals body);
  outputs = p.outputs + length (asked_at body p);
}

-- the state after items
abbrev pub place_by : List ItemShape → Place
place_by items = fold (λ p i. place_after i.body p) before items

-- the outputs of items from a place on
unfoldable pub asked_from : List ItemShape → Place → List Asked
asked_from [] p = []
asked_from (i ∷ items) p = asked_at i.body p ++ asked_from items (place_after i.body p)

-- the outputs of a specification in order, counted from 0
unfoldable pub outputs_of : List ItemShape → List Asked
outputs_of items = asked_from items before

-- the output's name consists of letters, digits and `_`
abbrev pub HasPlainName : Asked → Type 0
HasPlainName asked = IsPlainName asked.name
