use Rattle.std.specs.Prelude.{ℕ, List, Option, map}
use Rattle.mltl_base.specs.declared.interval.Engine.{Engine}
use Rattle.c2po_ast.specs.declared.item.TypeTree.{TypeTree, Named, Set'}
use Rattle.c2po_ast.specs.declared.item.FieldDecl.{FieldDecl}
use Rattle.c2po_ast.specs.declared.item.Body.{Body}
use Rattle.c2po_ast.specs.declared.item.Body.TheVariants.{Struct, Input, Define, Formula, Contract}
use Rattle.c2po_ast.specs.declared.item.Item.{Item}
use Rattle.c2po_ast.specs.declared.item.SpecTree.{SpecTree}
use Rattle.c2po_ast.specs.Shape.{Shape, shape}

-- The trees of items, as contracts compare them. A name is the list of its bytes.

-- a type: a name, or the sets of a type
pub data TypeShape : Type 0 where
  type_named : List ℕ → TypeShape
  set_of : TypeShape → TypeShape

-- a field of a struct: its name and its type
pub record FieldShape : Type 0 where
  pub name : List ℕ
  pub kind : TypeShape

-- the body of an item: a struct, signals, a definition, a formula or a contract
pub data BodyShape : Type 0 where
  structure : List ℕ → List FieldShape → BodyShape
  input : List (List ℕ) → TypeShape → BodyShape
  define : List ℕ → Shape → BodyShape
  formula : Engine → Option (List ℕ) → Shape → BodyShape
  contract : Engine → Option (List ℕ) → Shape → Shape → BodyShape

-- an item with its line
pub record ItemShape : Type 0 where
  pub line : ℕ
  pub body : BodyShape

-- the shape of a type
abbrev pub type_shape : TypeTree → TypeShape
type_shape (Named x) = type_named x
type_shape (Set' p t) = set_of (type_shape t)

-- the shape of a field
abbrev pub field_shape : FieldDecl → FieldShape
field_shape f = record { name = f.name; kind = type_shape f.kind }

-- the shape of the body of an item
abbrev pub body_shape : Body → BodyShape
body_shape (Struct x fs) = structure x (map field_shape fs)
body_shape (Input xs k) = input xs (type_shape k)
body_shape (Define x e) = define x (shape e)
body_shape (Formula engine label e) = formula engine label (shape e)
body_shape (Contract engine label e f) = contract engine label (shape e) (shape f)

-- the shape of an item
abbrev pub item_shape : Item → ItemShape
item_shape i = record { line = i.line; body = body_shape i.body }

-- the shapes of the items of a specification
abbrev pub spec_shape : SpecTree → List ItemShape
spec_shape tree = map item_shape tree.items
