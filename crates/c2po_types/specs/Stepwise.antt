-- The check of a specification item by item, in the steps of the code. FirstFault has the rule that it follows.

use Rattle.std.specs.Prelude.{ℕ, ◌+◌, nat_le, Bool, ◌||◌, List, [], map, length, drop, Option, Some, None, Ok}
use Rattle.std.specs.Prelude.{Err, if◌then◌else◌}
use Rattle.mltl_base.specs.declared.limits.TheConstants.{MAX_WEIGHT}
use Rattle.mltl_base.specs.declared.interval.Engine.{Engine}
use Rattle.mltl_base.specs.Ranges.{NoRange}
use Rattle.c2po_ast.specs.Shape.{Shape}
use Rattle.c2po_ast.specs.ItemShape.{TypeShape, FieldShape, BodyShape, ItemShape, structure, input, define, formula}
use Rattle.c2po_ast.specs.ItemShape.{contract}
use Rattle.c2po_types.specs.declared.declarations.Declarations.{Declarations}
use Rattle.c2po_types.specs.declared.fault.TypeFault.TheVariants as fault
use Rattle.c2po_types.specs.Checking.{Checked, ◌>>=◌, in_turn}
use Rattle.c2po_types.specs.Items.{Labels, nothing, with_struct, with_input, define_kind, with_value, with_label}
use Rattle.c2po_types.specs.Items.{formula_kind, contract_kind}
use Rattle.c2po_ast.specs.Faults.{formula_fault, or_later}
use Rattle.c2po_types.specs.Environment.{Env, no_names, declare, fields, value, value_of}
use Rattle.c2po_types.specs.Values.{Value, formula_of}
use Rattle.c2po_types.specs.Weights.{weight}
use Rattle.c2po_types.specs.Faults.{value_fault}
use Rattle.c2po_types.specs.Outputs.{with_signals}
use Rattle.c2po_types.specs.FirstFault.{range_fault, is_mixed}

-- The state after some items: their declarations, the labels of outputs, the values of names, and the weight of all outputs.
pub record State : Type 0 where
  pub declared : Declarations
  pub labels : Labels
  pub values : Env
  pub total : ℕ

-- the state before the first item
abbrev pub start : State
start = record { declared = nothing; labels = []; values = no_names; total = 0 }

-- the rest of a check if the weight is within the limit, else a fault
abbrev pub not_wide : ℕ → ℕ → Checked State → Checked State
not_wide line w rest = if nat_le w MAX_WEIGHT then rest else Err (fault.Wide line)

-- the rest of a check if the integers have ranges, else a fault
abbrev pub when_ranged : ℕ → Option NoRange → Checked State → Checked State
when_ranged line None rest = rest
when_ranged line (Some why) rest = Err (range_fault line why)

-- the rest of a check if the tenses aren't mixed, else a fault
abbrev pub one_tense : ℕ → Bool → Checked State → Checked State
one_tense line mixed rest = if mixed then Err (fault.Tense line) else rest

-- the state after a definition with this value, or its first fault
abbrev pub defined : ℕ → List ℕ → Declarations → Value → State → Checked State
defined line x d v s = not_wide line (weight v) (when_ranged line (value_fault v)
    (Ok (record { declared = d; labels = s.labels; values = declare x (value v) s.values; total = s.total })))

-- the state after an output of this weight, or its first fault
abbrev pub with_out : ℕ → Labels → ℕ → Option NoRange → Bool → State → Checked State
with_out line labels w why mixed s = not_wide line (s.total + w) (when_ranged line why (one_tense line mixed
    (Ok (record { declared = s.declared; labels = labels; values = s.values; total = s.total + w }))))

-- the state after an output with a formula, or its first fault
abbrev pub one_out : ℕ → Engine → Labels → Value → State → Checked State
one_out line engine labels v s =
    with_out line labels (weight v) (formula_fault (formula_of v)) (is_mixed engine (formula_of v)) s

-- the state after an output with a contract, or its first fault
abbrev pub two_out : ℕ → Engine → Labels → Value → Value → State → Checked State
two_out line engine labels v w s =
    with_out line labels (weight v + weight w) (or_later (formula_fault (formula_of v)) (formula_fault (formula_of w)))
    (is_mixed engine (formula_of v) || is_mixed engine (formula_of w)) s

-- the state after a struct, or its first fault
abbrev pub struct_step : ℕ → List ℕ → List FieldShape → State → Checked State
struct_step line x fs s = with_struct line x fs s.declared >>= λ d.
    Ok (record {
      declared = d;
      labels = s.labels;
      values = declare x (fields (map (λ f. f.name) fs)) s.values;
      total = s.total;
    })

-- the state after a declaration of signals, or its first fault
abbrev pub input_step : ℕ → List (List ℕ) → TypeShape → State → Checked State
input_step line xs t s = with_input line xs t s.declared >>= λ d. let n = length s.declared.signals in
    Ok (record {
      declared = d;
      labels = s.labels;
      values = with_signals n (drop n d.signals) s.values;
      total = s.total;
    })

-- the state after a definition, or its first fault
abbrev pub define_step : ℕ → List ℕ → Shape → State → Checked State
define_step line x e s = do
  k ← define_kind line x e s.declared
  defined line x (with_value x k s.declared) (value_of e s.values) s

-- the state after an output item with a formula, or its first fault
abbrev pub formula_step : ℕ → Engine → Option (List ℕ) → Shape → State → Checked State
formula_step line engine label e s = do
  labels ← with_label line label s.labels
  _ ← formula_kind line e s.declared
  one_out line engine labels (value_of e s.values) s

-- the state after an output item with a contract, or its first fault
abbrev pub contract_step : ℕ → Engine → Option (List ℕ) → Shape → Shape → State → Checked State
contract_step line engine label e f s = do
  labels ← with_label line label s.labels
  _ ← contract_kind line e f s.declared
  two_out line engine labels (value_of e s.values) (value_of f s.values) s

-- the state after an item by its body, on this line, or its first fault
abbrev pub body_step : ℕ → BodyShape → State → Checked State
body_step line (structure x fs) s = struct_step line x fs s
body_step line (input xs t) s = input_step line xs t s
body_step line (define x e) s = define_step line x e s
body_step line (formula engine label e) s = formula_step line engine label e s
body_step line (contract engine label e f) s = contract_step line engine label e f s

-- the state after an item, or its first fault
abbrev pub item_step : ItemShape → State → Checked State
item_step item s = body_step item.line item.body s

-- the state after all items, or the first fault
unfoldable pub checked : List ItemShape → Checked State
checked items = in_turn item_step items start
