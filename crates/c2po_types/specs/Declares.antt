-- The declarations of items. Each item sees the declarations of the items before it.

use Rattle.std.specs.Prelude.{ℕ, List, [], ◌∷◌, ◌++◌, length, map, fold, sum, Some}
use Rattle.std.specs.List.{flat_map}
use Rattle.std.specs.Result.{result_unwrap_or}
use Rattle.c2po_ast.specs.Shape.{Shape}
use Rattle.c2po_ast.specs.ItemShape.{BodyShape, ItemShape, structure, input, define, formula, contract}
use Rattle.mltl_base.specs.Tables.{Table}
use Rattle.c2po_types.specs.declared.kind.Kind.{Kind}
use Rattle.c2po_types.specs.declared.kind.Meaning.{Meaning}
use Rattle.c2po_types.specs.declared.kind.Meaning.TheVariants.{Struct, Value}
use Rattle.c2po_types.specs.declared.declarations.Declarations.{Declarations}
use Rattle.c2po_types.specs.Checking.{Checked}
use Rattle.c2po_types.specs.Kinds.{whole}
use Rattle.c2po_types.specs.Scopes.{outside}
use Rattle.c2po_types.specs.Expressions.{kind_of}
use Rattle.c2po_types.specs.Items.{nothing, type_kind, signal_kind}
use Rattle.c2po_types.specs.Signals.{is_bool, body_signals}
use Rattle.c2po_types.specs.Outputs.{place_by}
use Rattle.c2po_types.specs.Weights.{weight}
use Rattle.c2po_types.specs.Environment.{Env, value_of}

-- the results for the members of a list in order; f sees the members before each, the last one first
abbrev pub after_others : {X Y : Type 0} → (List X → X → List Y) → List X → List Y
after_others f [] = []
after_others f (x ∷ xs) = f [] x ++ after_others (λ before. f (x ∷ before)) xs

-- the kind that is found; an expression or a type with a fault counts as an integer for the items after it
abbrev pub kind_or_int : Checked Kind → Kind
kind_or_int found = result_unwrap_or found whole

-- the names of structs, signals and defined values that an item declares after other declarations
abbrev pub names_in : BodyShape → Declarations → Table Meaning
names_in (structure x fs) d = (x, Struct (length d.structs)) ∷ []
names_in (input xs t) d = map (λ x. (x, Value (signal_kind (is_bool t)))) xs
names_in (define x e) d = (x, Value (kind_or_int (kind_of e (outside d)))) ∷ []
names_in _ d = []

-- the fields of the struct that an item declares, each with its kind
abbrev pub structs_in : ℕ → BodyShape → Declarations → List (Table Kind)
structs_in line (structure x fs) d = map (λ f. (f.name, kind_or_int (type_kind line d f.kind))) fs ∷ []
structs_in line _ d = []

-- the declarations with the declarations of one more item
abbrev pub with_item : Declarations → ItemShape → Declarations
with_item d i = record {
  names = d.names ++ names_in i.body d;
  structs = d.structs ++ structs_in i.line i.body d;
  signals = d.signals ++ body_signals i.body;
}

-- the declarations of items
abbrev pub declarations_of : List ItemShape → Declarations
declarations_of items = fold with_item nothing items

-- the values of the names that items declare
abbrev pub values_by : List ItemShape → Env
values_by items = (place_by items).values

-- the label of an output, if it has one
abbrev pub body_label : BodyShape → List (List ℕ)
body_label (formula engine (Some x) e) = x ∷ []
body_label (contract engine (Some x) e f) = x ∷ []
body_label _ = []

-- the labels of outputs, which have a name space of their own
abbrev pub labels_in : List ItemShape → List (List ℕ)
labels_in items = flat_map (λ i. body_label i.body) items

-- the expressions of an output: one of a formula, two of a contract
abbrev pub output_trees : BodyShape → List Shape
output_trees (formula engine label e) = e ∷ []
output_trees (contract engine label e f) = e ∷ f ∷ []
output_trees _ = []

-- the weights of the values that expressions unfold to
abbrev pub weights_of : List Shape → Env → List ℕ
weights_of es env = map (λ e. weight (value_of e env)) es

-- the weight of the outputs of items together
abbrev pub total_weight : List ItemShape → ℕ
total_weight items = sum (after_others (λ before i. weights_of (output_trees i.body) (values_by before)) items)
