-- Kinds, and the requirements on them.

use Rattle.std.specs.Prelude.{ℕ, suc, pred, ◌==◌, Bool, true, false, ◌&&◌, List, [], ◌∷◌, length, slice_get, Option}
use Rattle.std.specs.Prelude.{Some, None, Ok, Err, if◌then◌else◌}
use Rattle.c2po_types.specs.declared.kind.Base.{Base}
use Rattle.c2po_types.specs.declared.kind.Base.TheVariants as base
use Rattle.c2po_types.specs.declared.kind.Kind.{Kind}
use Rattle.c2po_types.specs.declared.kind.Meaning.{Meaning}
use Rattle.c2po_types.specs.declared.kind.Meaning.TheVariants.{Struct, Value}
use Rattle.c2po_types.specs.declared.declarations.Declarations.{Declarations}
use Rattle.c2po_types.specs.declared.fault.TypeFault.TheVariants as fault
use Rattle.mltl_base.specs.Tables.{Table, entry_of}
use Rattle.c2po_types.specs.Checking.{Checked, ◌>>=◌}

-- the kind of a value that isn't a set
abbrev pub single_kind : Base → Kind
single_kind b = record { sets = 0; base = b }

-- the kind of integers
abbrev pub whole : Kind
whole = single_kind base.Int

-- the kind of Booleans, which is also the kind of formulas
abbrev pub truth : Kind
truth = single_kind base.Bool

-- the two base kinds are the same
abbrev pub same_base : Base → Base → Bool
same_base base.Int base.Int = true
same_base base.Bool base.Bool = true
same_base (base.Struct m) (base.Struct n) = m == n
same_base _ _ = false

-- the two kinds are the same
abbrev pub same_kind : Kind → Kind → Bool
same_kind j k = (j.sets == k.sets) && same_base j.base k.base

-- the kind of sets with members of this kind
abbrev pub set_kind : Kind → Kind
set_kind k = record { sets = suc k.sets; base = k.base }

-- the kind if a test holds, else a fault of kind
abbrev pub expected : ℕ → Bool → Kind → Checked Kind
expected line b k = if b then Ok k else Err (fault.Kind line)

-- the kind of the members of a set
abbrev pub member_kind : ℕ → Kind → Checked Kind
member_kind line k = if k.sets == 0 then Err (fault.Kind line) else Ok (record { sets = pred k.sets; base = k.base })

-- the meaning of a known name
abbrev pub known : ℕ → Option Meaning → Checked Meaning
known line None = Err (fault.Unknown line)
known line (Some m) = Ok m

-- the kind of a name that has a value
abbrev pub value_kind : ℕ → Meaning → Checked Kind
value_kind line (Struct n) = Err (fault.Kind line)
value_kind line (Value k) = Ok k

-- the kind of the value of a known name
abbrev pub known_value : ℕ → Option Meaning → Checked Kind
known_value line m = known line m >>= value_kind line

-- An operand's line and kind.
abbrev pub Placed : Type 0
Placed = ℕ × Kind

-- each operand has the kind of its field
abbrev pub fit : Table Kind → List Placed → Bool
fit [] ps = true
fit (f ∷ fs) [] = true
fit (f ∷ fs) (p ∷ ps) = same_kind p.1 f.1 && fit fs ps

-- the kind of a struct's value, from the kinds of its operands and of the struct's fields
abbrev pub built_from : ℕ → ℕ → List Placed → Option (Table Kind) → Checked Kind
built_from line n ps None = Err (fault.Count line)
built_from line n ps (Some fields) = if length ps == length fields
    then expected line (fit fields ps) (single_kind (base.Struct n))
    else Err (fault.Count line)

-- the kind of a struct's value by the meaning of the name, which has to be a struct
abbrev pub built_kind : ℕ → Declarations → List Placed → Meaning → Checked Kind
built_kind line d ps (Value k) = Err (fault.Kind line)
built_kind line d ps (Struct n) = built_from line n ps (slice_get d.structs n)

-- the kind of a struct's value by the name's meaning, if the name is known
abbrev pub known_built : ℕ → Declarations → List Placed → Option Meaning → Checked Kind
known_built line d ps m = known line m >>= built_kind line d ps

-- the line of the first operand of another kind
abbrev pub other_line : Kind → List Placed → Option ℕ
other_line k [] = None
other_line k (p ∷ ps) = if same_kind p.1 k then other_line k ps else Some p.0

-- the kind of a set with elements of this kind, unless an element on a line has another kind
abbrev pub set_unless : Kind → Option ℕ → Checked Kind
set_unless k None = Ok (set_kind k)
set_unless k (Some line) = Err (fault.Kind line)

-- the kind of a set of elements of one kind; the fault is at the first element that has another kind than the first element
abbrev pub set_of_elements : ℕ → List Placed → Checked Kind
set_of_elements line [] = Err (fault.Kind line)
set_of_elements line (p ∷ ps) = set_unless p.1 (other_line p.1 ps)

-- the number of the struct, if a base kind is one
abbrev pub struct_base : Base → Option ℕ
struct_base (base.Struct n) = Some n
struct_base _ = None

-- the number of the struct, if a kind is one and not a set
abbrev pub struct_of : Kind → Option ℕ
struct_of k = if k.sets == 0 then struct_base k.base else None

-- the kind of a field, which a struct has to have
abbrev pub field_kind : ℕ → Option Kind → Checked Kind
field_kind line None = Err (fault.Field line)
field_kind line (Some k) = Ok k

-- the kind of a field with this name, among the fields of a struct
abbrev pub picked_from : ℕ → List ℕ → Option (Table Kind) → Checked Kind
picked_from line x None = Err (fault.Field line)
picked_from line x (Some fields) = field_kind line (entry_of x fields)

-- the kind of a field with this name, in the struct with this number
abbrev pub picked_of : ℕ → List ℕ → Declarations → Option ℕ → Checked Kind
picked_of line x d None = Err (fault.Kind line)
picked_of line x d (Some n) = picked_from line x (slice_get d.structs n)

-- the kind of a field of a struct's value
abbrev pub picked_kind : ℕ → List ℕ → Declarations → Kind → Checked Kind
picked_kind line x d k = picked_of line x d (struct_of k)
