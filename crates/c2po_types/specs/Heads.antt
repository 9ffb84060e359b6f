-- The heads that names and picked fields lead to.

use Rattle.std.specs.Prelude.{ℕ, ◌≡◌, Bool, true, false, List, [], slice_get, Some}
use Rattle.c2po_ast.specs.Shape as tree
use Rattle.c2po_ast.specs.Shape.{Shape, shape, shapes}
use Rattle.c2po_types.specs.declared.variables.Named.{Named}
use Rattle.c2po_types.specs.declared.variables.Named.TheVariants as named
use Rattle.c2po_types.specs.declared.variables.Head.{Head}
use Rattle.c2po_types.specs.declared.variables.Head.TheVariants as head
use Rattle.c2po_types.specs.declared.values.Stored.{Stored}
use Rattle.c2po_types.specs.declared.unfolding.Unfolding.{Unfolding}
use Rattle.c2po_types.specs.Values.{Value, leaf, structure, set, truth_value, built, grouped}
use Rattle.c2po_types.specs.Environment.{Env, Known, nothing, fields, value, value_of, values_of}
use Rattle.c2po_types.specs.Holding.{Holds, HoldAll, Fits}

-- the answer of a look-up is the meaning of the name
abbrev pub Names : Unfolding → Named → Known → Type 0
Names u named.Nothing k = k ≡ nothing
Names u (named.Struct i) k = (xs : List (List ℕ)) × (slice_get u.structs i ≡ Some xs) × (k ≡ fields xs)
Names u (named.Open scope e) k = (env : Env) × Fits u scope.now env × (k ≡ value (value_of (shape e.now) env))
Names u (named.Held s) k = (v : Value) × Holds u s v × (k ≡ value v)

-- the expression is a number, a Boolean, an operator or a quantifier
abbrev pub is_operator : Shape → Bool
is_operator (tree.named line x) = false
is_operator (tree.build line x es) = false
is_operator (tree.group line es) = false
is_operator (tree.pick line e x) = false
is_operator _ = true

-- the stored values represent the members of a set; another value has none
abbrev pub HoldMembers : Unfolding → List Stored → Value → Type 0
HoldMembers u ss (set vs) = HoldAll u ss vs
HoldMembers u ss (structure x vs) = ss ≡ []
HoldMembers u ss (leaf l) = ss ≡ []

-- the head represents the value
abbrev pub Heads : Unfolding → Head → Value → Type 0
Heads u (head.Nothing scope e) v =
    (env : Env) × Fits u scope.now env × (v ≡ truth_value false) × (v ≡ value_of (shape e.now) env)
Heads u (head.Struct scope e x es) v =
    (env : Env) × Fits u scope.now env × (v ≡ built x.now (values_of (shapes es.now) env))
    × (v ≡ value_of (shape e.now) env)
Heads u (head.Set scope e es) v =
    (env : Env) × Fits u scope.now env × (v ≡ grouped (values_of (shapes es.now) env))
    × (v ≡ value_of (shape e.now) env)
Heads u (head.Leaf scope e) v =
    (env : Env) × Fits u scope.now env × (v ≡ value_of (shape e.now) env) × (is_operator (shape e.now) ≡ true)
Heads u (head.Held s) v = Holds u s v
