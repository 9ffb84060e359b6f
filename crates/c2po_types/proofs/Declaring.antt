-- Faults of items.
use Rattle.std.proofs.Common.{◌≡◌, ℕ, Bool, false, List, [], Err, sym, subst, if◌then◌else◌}
use Rattle.c2po_ast.specs.ItemShape.{FieldShape}
use Rattle.mltl_base.specs.Tables.{Table, is_named}
use Rattle.c2po_types.specs.declared.declarations.Declarations.{Declarations}
use Rattle.c2po_types.specs.declared.fault.TypeFault.{TypeFault}
use Rattle.c2po_types.specs.declared.fault.TypeFault.TheVariants.{Twice}
use Rattle.c2po_types.specs.Checking.{Checked, Fails, in_turn}
use Rattle.c2po_types.specs.Items.{new, with_field, with_struct}
use Rattle.c2po_types.proofs.Turns.{fails-bind}

-- what stands after a name that isn't there
pub new-fails : {X V : Type 0} (fault : TypeFault) (line : ℕ) (x : List ℕ) (names : Table V) (rest : Checked X) → is_named x names ≡ false → Fails fault rest → Fails fault (new line x names rest)
new-fails fault line x names rest absent h = subst (λ (b : Bool). Fails fault (if b then Err (Twice line) else rest)) (sym absent) h

-- a fault of the fields is one of the struct
pub struct-fails : (fault : TypeFault) (line : ℕ) (x : List ℕ) (fs : List FieldShape) (d : Declarations) → is_named x d.names ≡ false
    → Fails fault (in_turn (with_field line d) fs []) → Fails fault (with_struct line x fs d)
struct-fails fault line x fs d absent h = new-fails fault line x d.names _ absent (fails-bind fault (in_turn (with_field line d) fs []) _ h)
