-- The values of operators by the number of their operands, and of quantifiers by their bodies.

use Rattle.std.specs.Prelude.{List, map}
use Rattle.c2po_ast.specs.Shape.{shape}
use Rattle.c2po_types.specs.declared.operators.UnaryOp.{UnaryOp}
use Rattle.c2po_types.specs.declared.operators.BinaryOp.{BinaryOp}
use Rattle.c2po_types.specs.declared.operators.Bodies.{Bodies}
use Rattle.c2po_types.specs.declared.operators.Operation.{Operation}
use Rattle.c2po_types.specs.declared.operators.Operation.TheVariants as operation
use Rattle.c2po_types.specs.Values.{Value, leaf, one, two, members, number_value, truth_value, connected_all, counted}
use Rattle.c2po_types.specs.Environment.{Env, bind, value_of}

-- the value of an operator over the value of its operand
abbrev pub unary_value : UnaryOp → Value → Value
unary_value op v = leaf (one op v)

-- the value of an operator over the values of its two operands
abbrev pub binary_value : BinaryOp → Value → Value → Value
binary_value op v w = leaf (two op v w)

-- the value of a quantifier's body when its variable has this value
abbrev pub body_value : Bodies → Env → Value → Value
body_value q env v = value_of (shape q.body.now) (bind q.name.now v env)

-- the values of a quantifier's bodies, one for each member of a set
abbrev pub bodies_over : Bodies → Env → Value → List Value
bodies_over q env s = map (body_value q env) (members s)

-- the values of a quantifier's bodies, one for each member of its set
abbrev pub bodies_of : Bodies → Env → List Value
bodies_of q env = bodies_over q env (value_of (shape q.set.now) env)

-- the value of a number, a Boolean, an operator or a quantifier
abbrev pub operation_value : Operation → Env → Value
operation_value (operation.Number n) env = number_value n
operation_value (operation.Truth b) env = truth_value b
operation_value (operation.Unary op a) env = unary_value op (value_of (shape a.now) env)
operation_value (operation.Binary op a b) env =
    binary_value op (value_of (shape a.now) env) (value_of (shape b.now) env)
operation_value (operation.Joined op bodies) env = connected_all op (bodies_of bodies env)
operation_value (operation.Counted op m bodies) env = counted op m (bodies_of bodies env)
