-- The meanings of scopes, names and heads.

use Rattle.std.specs.Prelude.{ℕ, ◌≡◌, ◌<◌, Bool, true, false, map, ⊤}
use Rattle.mltl_base.specs.Tables.{Table}
use Rattle.c2po_ast.specs.Shape as tree
use Rattle.c2po_ast.specs.Shape.{Shape, shape, shapes}
use Rattle.c2po_ast.specs.ItemShape.{field_shape}
use Rattle.c2po_types.specs.Heads.{is_operator}
use Rattle.c2po_types.specs.Values.{Value, truth_value, built, grouped}
use Rattle.c2po_types.specs.Environment.{Env, Known, nothing, fields, value, bind, signal_value, value_in, value_of}
use Rattle.c2po_types.specs.Environment.{values_of}
use Rattle.set_expand.specs.declared.names.Declared.{Declared}
use Rattle.set_expand.specs.declared.scope.Scope.{Scope, First, Member'}
use Rattle.set_expand.specs.declared.scope.Named.{Named}
use Rattle.set_expand.specs.declared.scope.Named.TheVariants as named
use Rattle.set_expand.specs.declared.scope.Head.{Head}
use Rattle.set_expand.specs.declared.scope.Head.TheVariants as head
use Rattle.set_expand.specs.Names.{env_of}

-- the environment of a scope: a variable has the value of its expression in the expression's own scope
abbrev pub env_in : Table Declared → Scope → Env
env_in names (First n) = env_of names n
env_in names (Member' x e _ within _ outer) =
    bind x.now (value_of (shape e.now) (env_in names within)) (env_in names outer)

-- the meaning that the answer of a look-up stands for
abbrev pub named_meaning : Table Declared → Named → Known
named_meaning names named.Nothing = nothing
named_meaning names (named.Struct fs) = fields (map (λ f. f.name) (map field_shape fs.now))
named_meaning names (named.Signal b n) = value (signal_value b n)
named_meaning names (named.Open scope e made) = value (value_of (shape e.now) (env_in names scope))

-- the value that the answer of a look-up stands for; `false` if it has none
abbrev pub named_value : Table Declared → Named → Value
named_value names found = value_in (named_meaning names found)

-- the expression is a name or a picked field, which leads to another expression
abbrev pub leads_on : Shape → Bool
leads_on (tree.named line x) = true
leads_on (tree.pick line e x) = true
leads_on _ = false

-- the expression builds a struct's value from its parts
abbrev pub is_build : Shape → Bool
is_build (tree.build line x es) = true
is_build _ = false

-- the answer isn't an expression that is a name or a picked field
abbrev pub IsReached : Named → Type 0
IsReached (named.Open scope e made) = leads_on (shape e.now) ≡ false
IsReached _ = ⊤

-- the value of a head
abbrev pub head_value : Table Declared → Head → Value
head_value names head.Nothing = truth_value false
head_value names (head.Signal b n) = signal_value b n
head_value names (head.Struct scope x es) = built x.now (values_of (shapes es.now) (env_in names scope))
head_value names (head.Set scope es) = grouped (values_of (shapes es.now) (env_in names scope))
head_value names (head.Leaf scope e) = value_of (shape e.now) (env_in names scope)
head_value names (head.Kept made scope e) = value_of (shape e.now) (env_in names scope)

-- if the head is an expression, it is a number, a Boolean, an operator or a quantifier
abbrev pub IsHead : Head → Type 0
IsHead (head.Leaf scope e) = is_operator (shape e.now) ≡ true
IsHead (head.Kept made scope e) = is_operator (shape e.now) ≡ true
IsHead _ = ⊤

-- if the answer is a signal, it is among the first n
abbrev pub NamedBelow : ℕ → Named → Type 0
NamedBelow n (named.Signal b k) = k < n
NamedBelow n _ = ⊤

-- if the head is a signal, it is among the first n
abbrev pub HeadBelow : ℕ → Head → Type 0
HeadBelow n (head.Signal b k) = k < n
HeadBelow n _ = ⊤
