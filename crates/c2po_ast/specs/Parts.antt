use Rattle.std.specs.Prelude.{ℕ, List}
use Rattle.c2po_ast.specs.declared.operator.Infix.{Infix}
use Rattle.c2po_ast.specs.declared.operator.Infix.TheVariants.{Logic, Between, Compare, Arith}
use Rattle.c2po_ast.specs.declared.operator.Prefix.{Prefix}
use Rattle.c2po_ast.specs.declared.operator.Prefix.TheVariants.{Not, Minus, Window}
use Rattle.c2po_ast.specs.declared.operator.Quantifier.{Quantifier}
use Rattle.c2po_ast.specs.declared.operator.Quantifier.TheVariants.{Each, Exists, Count}
use Rattle.c2po_ast.specs.declared.operator.Bracket.{Bracket}
use Rattle.c2po_ast.specs.declared.operator.Bracket.TheVariants.{Curly, Call}
use Rattle.c2po_ast.specs.declared.operator.Atom.{Atom}
use Rattle.c2po_ast.specs.declared.operator.Atom.TheVariants.{Number, Truth, Ref}
use Rattle.c2po_ast.specs.Shape.{Shape, number, truth, named, build, group, minus, negation, arith, compare, logic}
use Rattle.c2po_ast.specs.Shape.{window, between, each, exists, count, of_list}

-- The shapes of trees from their parts: an operator, a prefix, brackets or a quantifier with operands.

-- the shape of a number, a Boolean or a name with its line
abbrev pub leaf : ℕ → Atom → Shape
leaf line (Number n) = number line n
leaf line (Truth b) = truth line b
leaf line (Ref x) = named line x

-- the shape of two operands joined by an operator
abbrev pub joined : ℕ → Infix → Shape → Shape → Shape
joined line (Logic op) e f = logic line op e f
joined line (Between op a b) e f = between line op a b e f
joined line (Compare op) e f = compare line op e f
joined line (Arith op) e f = arith line op e f

-- the shape of an operand after a prefix
abbrev pub prefixed : Prefix → Shape → Shape
prefixed (Not line) e = negation line e
prefixed (Minus line) e = minus line e
prefixed (Window line op a b) e = window line op a b e

-- the shape of braces or a call around their elements
abbrev pub enclosed : Bracket → List Shape → Shape
enclosed (Curly line) es = group line (of_list es)
enclosed (Call line x) es = build line x (of_list es)

-- the shape of a quantifier over a set, with its number if it counts
abbrev pub quantified : ℕ → Quantifier → List ℕ → Shape → ℕ → Shape → Shape
quantified line Each x s n e = each line x s e
quantified line Exists x s n e = exists line x s e
quantified line (Count op) x s n e = count line op x s n e
