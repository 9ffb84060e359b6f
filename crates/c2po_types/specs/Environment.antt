-- The values of names and of expressions.

use Rattle.std.specs.Prelude.{ℕ, Bool, false, List, [], map, if◌then◌else◌}
use Rattle.std.specs.Str.{bytes_eq}
use Rattle.mltl_base.specs.declared.operators.LogicOp.TheVariants.{And, Or}
use Rattle.c2po_ast.specs.Shape as tree
use Rattle.c2po_ast.specs.Shape.{Shape, Shapes}
use Rattle.c2po_types.specs.declared.operators.UnaryOp.TheVariants.{Minus, Not, Window}
use Rattle.c2po_types.specs.declared.operators.BinaryOp.TheVariants.{Arith, Compare, Logic, Between}
use Rattle.c2po_types.specs.Values.{Value, Values, leaf, none, more, signal, one, two, number_value, truth_value}
use Rattle.c2po_types.specs.Values.{built, grouped, members, picked, connected_all, counted}

-- the meaning of a name: a struct with these fields, or a value
pub data Known : Type 0 where
  nothing : Known
  fields : List (List ℕ) → Known
  value : Value → Known

-- an environment: the meaning of each name
abbrev pub Env : Type 0
Env = List ℕ → Known

-- no name is known
abbrev pub no_names : Env
no_names x = nothing

-- the environment in which a variable has a value
abbrev pub bind : List ℕ → Value → Env → Env
bind x v env y = if bytes_eq y x then value v else env y

-- the first meaning if the name is known, else the second
abbrev pub or_else : Known → Known → Known
or_else nothing k = k
or_else (fields xs) k = fields xs
or_else (value v) k = value v

-- the environment with one more declared name; a known name keeps its meaning
abbrev pub declare : List ℕ → Known → Env → Env
declare x k env y = or_else (env y) (if bytes_eq y x then k else nothing)

-- the value of the signal with this number, Boolean or integer
abbrev pub signal_value : Bool → ℕ → Value
signal_value b n = leaf (signal b n)

-- the value of a name; `false` if it has none
abbrev pub value_in : Known → Value
value_in (value v) = v
value_in (fields xs) = truth_value false
value_in nothing = truth_value false

-- the fields of the struct with this name; other names have none
abbrev pub fields_in : Known → List (List ℕ)
fields_in (fields xs) = xs
fields_in (value v) = []
fields_in nothing = []

-- the value that an expression unfolds to; a quantifier joins or counts its bodies, one for each member of its set
abbrev mutual
  pub value_of : Shape → Env → Value
  value_of (tree.number line n) env = number_value n
  value_of (tree.truth line b) env = truth_value b
  value_of (tree.named line x) env = value_in (env x)
  value_of (tree.build line x es) env = built x (values_of es env)
  value_of (tree.group line es) env = grouped (values_of es env)
  value_of (tree.pick line e x) env = picked (λ y. fields_in (env y)) x (value_of e env)
  value_of (tree.minus line e) env = leaf (one Minus (value_of e env))
  value_of (tree.negation line e) env = leaf (one Not (value_of e env))
  value_of (tree.arith line op e f) env = leaf (two (Arith op) (value_of e env) (value_of f env))
  value_of (tree.compare line op e f) env = leaf (two (Compare op) (value_of e env) (value_of f env))
  value_of (tree.logic line op e f) env = leaf (two (Logic op) (value_of e env) (value_of f env))
  value_of (tree.window line op a b e) env = leaf (one (Window op a b) (value_of e env))
  value_of (tree.between line op a b e f) env = leaf (two (Between op a b) (value_of e env) (value_of f env))
  value_of (tree.each line x s e) env = connected_all And
      (map (λ v. value_of e (bind x v env)) (members (value_of s env)))
  value_of (tree.exists line x s e) env = connected_all Or
      (map (λ v. value_of e (bind x v env)) (members (value_of s env)))
  value_of (tree.count line op x s m e) env =
      counted op m (map (λ v. value_of e (bind x v env)) (members (value_of s env)))

  pub values_of : Shapes → Env → Values
  values_of tree.none env = none
  values_of (tree.more e es) env = more (value_of e env) (values_of es env)
