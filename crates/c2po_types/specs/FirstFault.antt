-- The first fault of a specification. Items are taken in the order of the text, and each sees the declarations of the items
-- before it. The faults of an item are looked for in the order of its list below, in an expression operands first and from
-- the left.

use Rattle.std.specs.Prelude.{ℕ, ◌+◌, nat_le, Bool, ◌||◌, List, [], ◌∷◌, ◌++◌, length, map, sum, Option, Some, None}
use Rattle.std.specs.Prelude.{if◌then◌else◌}
use Rattle.std.specs.List.{list_any}
use Rattle.std.specs.Option.{option_or, option_map}
use Rattle.std.specs.Str.{bytes_eq}
use Rattle.mltl_base.specs.declared.limits.TheConstants.{MAX_WEIGHT, MAX_SIGNALS}
use Rattle.mltl_base.specs.declared.interval.Engine.{Engine}
use Rattle.mltl_base.specs.declared.interval.Engine.TheVariants.{Ft, Pt}
use Rattle.mltl_base.specs.Formula.{Formula}
use Rattle.mltl_base.specs.Ranges.{NoRange, divisor, wide}
use Rattle.mltl_base.specs.Tables.{is_named}
use Rattle.c2po_ast.specs.Shape.{Shape}
use Rattle.c2po_ast.specs.ItemShape.{TypeShape, FieldShape, BodyShape, ItemShape, structure, input, define, formula}
use Rattle.c2po_ast.specs.ItemShape.{contract}
use Rattle.c2po_ast.specs.Faults.{formula_fault}
use Rattle.c2po_ast.specs.Tenses.{has_past, has_future}
use Rattle.c2po_types.specs.Environment.{value_of}
use Rattle.c2po_types.specs.Values.{formula_of}
use Rattle.c2po_types.specs.Weights.{weight}
use Rattle.c2po_types.specs.Faults.{value_fault}
use Rattle.c2po_types.specs.declared.declarations.Declarations.{Declarations}
use Rattle.c2po_types.specs.declared.fault.TypeFault.{TypeFault}
use Rattle.c2po_types.specs.declared.fault.TypeFault.TheVariants as fault
use Rattle.c2po_types.specs.Checking.{◌>>=◌, fault_of}
use Rattle.c2po_types.specs.Kinds.{truth}
use Rattle.c2po_types.specs.Scopes.{outside}
use Rattle.c2po_types.specs.Expressions.{kind_of, of_one}
use Rattle.c2po_types.specs.Items.{type_kind, signal_truth}
use Rattle.c2po_types.specs.Declares.{after_others, declarations_of, values_by, labels_in, weights_of, total_weight}

-- the first fault of a list, if there is any
abbrev pub earliest : List (Option TypeFault) → Option TypeFault
earliest [] = None
earliest (o ∷ os) = option_or o (earliest os)

-- the fault, if a test holds
abbrev pub fault_if : Bool → TypeFault → Option TypeFault
fault_if b fault = if b then Some fault else None

-- the fault, if a test fails
abbrev pub fault_unless : Bool → TypeFault → Option TypeFault
fault_unless b fault = if b then None else Some fault

-- the name is among these names
abbrev pub is_among : List ℕ → List (List ℕ) → Bool
is_among x xs = list_any (bytes_eq x) xs

-- the fault of an item on this line that has an integer without a range
abbrev pub range_fault : ℕ → NoRange → TypeFault
range_fault line divisor = fault.Divisor line
range_fault line wide = fault.Range line

-- the tense that the engine doesn't have occurs: the past for future time, the future for past time
abbrev pub other_tense : Engine → Bool → Bool → Bool
other_tense Ft past future = past
other_tense Pt past future = future

-- the formula has an operator of the tense that the engine doesn't have
abbrev pub is_mixed : Engine → Formula → Bool
is_mixed engine p = other_tense engine (has_past p) (has_future p)

-- the faults of a field after others: its name is declared twice, or its type isn't known
abbrev pub field_faults : ℕ → Declarations → List FieldShape → FieldShape → List (Option TypeFault)
field_faults line d before f =
    fault_if (is_among f.name (map (λ g. g.name) before)) (fault.Twice line)
    ∷ fault_of (type_kind line d f.kind)
    ∷ []

-- the faults of a struct: its name is declared twice, then the faults of its fields
abbrev pub struct_faults : ℕ → List ℕ → List FieldShape → Declarations → List (Option TypeFault)
struct_faults line x fs d =
    fault_if (is_named x d.names) (fault.Twice line)
    ∷ after_others (field_faults line d) fs

-- the faults of a signal after others: its name is declared twice, or there are too many signals
abbrev pub signal_faults : ℕ → Declarations → List (List ℕ) → List ℕ → List (Option TypeFault)
signal_faults line d before x =
    fault_if (is_named x d.names || is_among x before) (fault.Twice line)
    ∷ fault_if (nat_le MAX_SIGNALS (length d.signals + length before)) (fault.Signals line)
    ∷ []

-- the faults of signals: their type isn't known, or is neither `bool` nor `int`; then the faults of each signal
abbrev pub input_faults : ℕ → List (List ℕ) → TypeShape → Declarations → List (Option TypeFault)
input_faults line xs t d =
    fault_of (type_kind line d t >>= signal_truth line)
    ∷ after_others (signal_faults line d) xs

-- the faults of a definition: of its expression, of a name that is declared twice, of its weight, of its integers
abbrev pub define_faults : ℕ → List ℕ → Shape → List ItemShape → List (Option TypeFault)
define_faults line x e before =
    fault_of (kind_of e (outside (declarations_of before)))
    ∷ fault_if (is_named x (declarations_of before).names) (fault.Twice line)
    ∷ fault_unless (nat_le (weight (value_of e (values_by before))) MAX_WEIGHT) (fault.Wide line)
    ∷ option_map (range_fault line) (value_fault (value_of e (values_by before)))
    ∷ []

-- the fault of an output whose label is declared twice
abbrev pub label_fault : ℕ → Option (List ℕ) → List ItemShape → Option TypeFault
label_fault line None before = None
label_fault line (Some x) before = fault_if (is_among x (labels_in before)) (fault.Twice line)

-- the faults of an output: of its label; of its expressions; of an expression that isn't a formula; of the weight of all
-- outputs so far; of its integers; of its tense
abbrev pub output_faults : ℕ → Engine → Option (List ℕ) → List Shape → List ItemShape → List (Option TypeFault)
output_faults line engine label es before =
    let seen = outside (declarations_of before) in
    let env = values_by before in
    label_fault line label before
    ∷ map (λ e. fault_of (kind_of e seen)) es
    ++ map (λ e. fault_of (kind_of e seen >>= of_one line truth truth)) es
    ++ fault_unless (nat_le (total_weight before + sum (weights_of es env)) MAX_WEIGHT) (fault.Wide line)
    ∷ map (λ e. option_map (range_fault line) (formula_fault (formula_of (value_of e env)))) es
    ++ map (λ e. fault_if (is_mixed engine (formula_of (value_of e env))) (fault.Tense line)) es

-- the faults of an item by its body, on this line
abbrev pub body_faults : ℕ → BodyShape → List ItemShape → List (Option TypeFault)
body_faults line (structure x fs) before = struct_faults line x fs (declarations_of before)
body_faults line (input xs t) before = input_faults line xs t (declarations_of before)
body_faults line (define x e) before = define_faults line x e before
body_faults line (formula engine label e) before = output_faults line engine label (e ∷ []) before
body_faults line (contract engine label e f) before = output_faults line engine label (e ∷ f ∷ []) before

-- the faults of an item after others
abbrev pub item_faults : List ItemShape → ItemShape → List (Option TypeFault)
item_faults before i = body_faults i.line i.body before

-- the first fault of a specification
unfoldable pub first_fault : List ItemShape → Option TypeFault
first_fault items = earliest (after_others item_faults items)
