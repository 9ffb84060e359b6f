-- The declarations of items, and their faults of names and kinds, which stand at the item's line.

use Rattle.std.specs.Prelude.{ℕ, nat_le, Bool, true, false, List, [], ◌∷◌, ◌++◌, length, codes, Option, Some, None, Ok}
use Rattle.std.specs.Prelude.{Err, if◌then◌else◌, ⊤}
use Rattle.std.specs.Str.{bytes_eq}
use Rattle.mltl_base.specs.declared.limits.TheConstants.{MAX_SIGNALS}
use Rattle.c2po_ast.specs.Shape.{Shape}
use Rattle.c2po_ast.specs.ItemShape.{TypeShape, FieldShape, type_named, set_of}
use Rattle.c2po_types.specs.declared.kind.Base.TheVariants as base
use Rattle.c2po_types.specs.declared.kind.Kind.{Kind}
use Rattle.c2po_types.specs.declared.kind.Meaning.{Meaning}
use Rattle.c2po_types.specs.declared.kind.Meaning.TheVariants.{Struct, Value}
use Rattle.c2po_types.specs.declared.declarations.Declarations.{Declarations}
use Rattle.c2po_types.specs.declared.fault.TypeFault.TheVariants as fault
use Rattle.c2po_types.specs.Checking.{Checked, ◌>>=◌, in_turn}
use Rattle.mltl_base.specs.Tables.{Table, entry_of, is_named}
use Rattle.c2po_types.specs.Kinds.{single_kind, whole, truth, same_kind, set_kind}
use Rattle.c2po_types.specs.Scopes.{outside}
use Rattle.c2po_types.specs.Expressions.{kind_of, two, of_one, of_two}

-- the declarations before the first item
abbrev pub nothing : Declarations
nothing = record { names = []; structs = []; signals = [] }

-- the rest of a check if the name is new, else a fault
abbrev pub new : {X V : Type 0} → ℕ → List ℕ → Table V → Checked X → Checked X
new line x names rest = if is_named x names then Err (fault.Twice line) else rest

-- the kind of a declared struct
abbrev pub struct_kind : ℕ → Option Meaning → Checked Kind
struct_kind line (Some (Struct n)) = Ok (single_kind (base.Struct n))
struct_kind line _ = Err (fault.Unknown line)

-- the kind that a type names
abbrev pub type_kind : ℕ → Declarations → TypeShape → Checked Kind
type_kind line d (type_named x) = if bytes_eq x (codes "int") then Ok whole
    else if bytes_eq x (codes "bool") then Ok truth
    else struct_kind line (entry_of x d.names)
type_kind line d (set_of t) = type_kind line d t >>= λ k. Ok (set_kind k)

-- the fields with one more field
abbrev pub with_field : ℕ → Declarations → FieldShape → Table Kind → Checked (Table Kind)
with_field line d f fields = new line f.name fields (type_kind line d f.kind >>= λ k. Ok (fields ++ (f.name, k) ∷ []))

-- the declarations with one more struct
abbrev pub with_struct : ℕ → List ℕ → List FieldShape → Declarations → Checked Declarations
with_struct line x fs d = new line x d.names (in_turn (with_field line d) fs [] >>= λ fields. Ok (record {
  names = d.names ++ (x, Struct (length d.structs)) ∷ [];
  structs = d.structs ++ fields ∷ [];
  signals = d.signals;
}))

-- a signal of this kind is Boolean (true) or an integer (false); there is no signal of another kind
abbrev pub signal_truth : ℕ → Kind → Checked Bool
signal_truth line k = if same_kind k truth then Ok true
    else if same_kind k whole then Ok false
    else Err (fault.Kind line)

-- the kind of a signal, Boolean or integer
abbrev pub signal_kind : Bool → Kind
signal_kind true = truth
signal_kind false = whole

-- the declarations with one more signal
abbrev pub with_signal : ℕ → Bool → List ℕ → Declarations → Checked Declarations
with_signal line b x d =
    new line x d.names (if nat_le MAX_SIGNALS (length d.signals) then Err (fault.Signals line) else Ok (record {
      names = d.names ++ (x, Value (signal_kind b)) ∷ [];
      structs = d.structs;
      signals = d.signals ++ record { name = x; truth = b } ∷ [];
    }))

-- the declarations with the signals of an item
abbrev pub with_input : ℕ → List (List ℕ) → TypeShape → Declarations → Checked Declarations
with_input line xs t d = type_kind line d t >>= signal_truth line >>= λ b. in_turn (with_signal line b) xs d

-- the kind of a defined value, whose name is visible only after its item
abbrev pub define_kind : ℕ → List ℕ → Shape → Declarations → Checked Kind
define_kind line x e d = kind_of e (outside d) >>= λ k. new line x d.names (Ok k)

-- the declarations with one more defined value
abbrev pub with_value : List ℕ → Kind → Declarations → Declarations
with_value x k d = record { names = d.names ++ (x, Value k) ∷ []; structs = d.structs; signals = d.signals }

-- The labels of outputs, which have a name space of their own.
abbrev pub Labels : Type 0
Labels = Table ⊤

-- the labels with the label of one more output, if it has one
abbrev pub with_label : ℕ → Option (List ℕ) → Labels → Checked Labels
with_label line None labels = Ok labels
with_label line (Some x) labels = new line x labels (Ok (labels ++ (x, tt) ∷ []))

-- the kind of the formula of an output
abbrev pub formula_kind : ℕ → Shape → Declarations → Checked Kind
formula_kind line e d = kind_of e (outside d) >>= of_one line truth truth

-- the kind of the formulas of a contract; the faults of the left formula come first
abbrev pub contract_kind : ℕ → Shape → Shape → Declarations → Checked Kind
contract_kind line e f d = two (kind_of e (outside d)) (kind_of f (outside d)) >>= of_two line truth truth
