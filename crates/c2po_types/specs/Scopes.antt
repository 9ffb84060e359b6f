-- The names that are visible at a place of an expression.

use Rattle.std.specs.Prelude.{ℕ, List, [], ◌∷◌, Option, Some, None}
use Rattle.c2po_types.specs.declared.kind.Kind.{Kind}
use Rattle.c2po_types.specs.declared.kind.Meaning.{Meaning}
use Rattle.c2po_types.specs.declared.kind.Meaning.TheVariants.{Value}
use Rattle.c2po_types.specs.declared.declarations.Declarations.{Declarations}
use Rattle.c2po_types.specs.declared.scope.Scope.{Scope, Items, Within'}
use Rattle.mltl_base.specs.Tables.{Table, entry_of}

-- The names that are visible at a place: the variables of the quantifiers around it, the innermost first, and the
-- declarations of the items before it.
pub record Visible : Type 0 where
  pub variables : Table Kind
  pub declared : Declarations

-- the names that are visible outside quantifiers
abbrev pub outside : Declarations → Visible
outside d = record { variables = []; declared = d }

-- the names that are visible in the body of a quantifier
abbrev pub inside : List ℕ → Kind → Visible → Visible
inside x k seen = record { variables = (x, k) ∷ seen.variables; declared = seen.declared }

-- the names that are visible in a scope of the code
abbrev pub visible : Scope → Visible
visible (Items d) = outside d.now
visible (Within' x k _ around) = inside x.now k (visible around)

-- the meaning of a name with a variable or a declaration; a variable hides the declaration
abbrev pub variable_or : Option Kind → Option Meaning → Option Meaning
variable_or (Some k) declared = Some (Value k)
variable_or None declared = declared

-- the meaning of a name
abbrev pub meaning_of : List ℕ → Visible → Option Meaning
meaning_of x seen = variable_or (entry_of x seen.variables) (entry_of x seen.declared.names)
