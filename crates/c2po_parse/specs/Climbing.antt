use Rattle.std.specs.Prelude.{ℕ, zero, suc, List, [], ◌∷◌, ◌++◌, Option, Some, None, nat_le, if◌then◌else◌}
use Rattle.c2po_lexer.specs.declared.token.Sign.TheVariants as sign
use Rattle.c2po_lexer.specs.declared.token.Token.{Token}
use Rattle.c2po_parse.specs.declared.operator.Operator.{Operator}
use Rattle.c2po_parse.specs.declared.operator.Operator.TheVariants.{Binary, Field}
use Rattle.c2po_ast.specs.declared.operator.Bracket.{Bracket}
use Rattle.c2po_ast.specs.declared.operator.Quantifier.{Quantifier}
use Rattle.c2po_ast.specs.declared.operator.Prefix.{Prefix}
use Rattle.c2po_ast.specs.Shape.{Shape, pick}
use Rattle.c2po_parse.specs.Tokens.{right_level}
use Rattle.c2po_ast.specs.Parts.{joined, prefixed}
use Rattle.c2po_parse.specs.Fronts.{◌>>=◌, past, operator_at, start_at, middle_at, level_of}
use Rattle.c2po_ast.specs.Parts.{enclosed, quantified, leaf}
use Rattle.c2po_parse.specs.Fronts.{prefix_level, closing}
use Rattle.c2po_parse.specs.Splitting.{at_end}
use Rattle.c2po_parse.specs.declared.operator.Start.{Start}
use Rattle.c2po_parse.specs.declared.operator.Start.TheVariants.{Leaf, Before, Round, Open, Bind}

-- The reading of an expression from the left, by climbing levels, in the steps of the parser.

-- the part of an expression to read next
pub data Goal : Type 0 where
  -- an expression with operators of this level and above
  Whole : (level : ℕ) → Goal
  -- the first operand of such an expression
  Operand : (level : ℕ) → Goal
  -- the operators of this level and above after an operand that was read
  Rest : (level : ℕ) (left : Shape) → Goal
  -- elements within brackets, after the elements that were read
  Elements : (bracket : Bracket) (so_far : List Shape) → Goal

-- a reading: it finds the tree of a part and the tokens after it
abbrev pub Climbs : Type 0
Climbs = Goal → List Token → Option (Shape × List Token)

-- the reading of an expression and `)`
abbrev pub closed : Climbs → List Token → Option (Shape × List Token)
closed read ts = do
  x ← read (Whole 1) ts
  rest ← past sign.RightRound x.1
  Some (x.0, rest)

-- the reading of a quantifier after its variable
abbrev pub after_variable : Climbs → ℕ → Quantifier → List ℕ → List Token → Option (Shape × List Token)
after_variable read line q x ts = do
  s ← read (Whole 1) ts
  m ← middle_at q s.1
  e ← closed read m.1
  Some (quantified line q x s.0 m.0 e.0, e.1)

-- the reading of an operand after a prefix, which can't be an operand of an operator that binds tighter
abbrev pub after_prefix : Climbs → ℕ → Prefix → List Token → Option (Shape × List Token)
after_prefix read level p ts =
    if nat_le level (prefix_level p) then (read (Whole (prefix_level p)) ts >>= λ x. Some (prefixed p x.0, x.1))
    else None

-- the reading of an operand from its start and the tokens after the start
abbrev pub operand : Climbs → ℕ → Start × List Token → Option (Shape × List Token)
operand read level (Leaf line a, rest) = Some (leaf line a, rest)
operand read level (Before p, rest) = after_prefix read level p rest
operand read level (Round, rest) = closed read rest
operand read level (Open b, rest) = read (Elements b []) rest
operand read level (Bind line q x, rest) = after_variable read line q x rest

-- the reading of an operator after an operand, with its right operand
abbrev pub joins : Climbs → ℕ → Shape → Operator × List Token → Option (Shape × List Token)
joins read level left (Binary line op, rest) = do
  x ← read (Whole (right_level (level_of (Binary line op)))) rest
  read (Rest level (joined line op left x.0)) x.1
joins read level left (Field line x, rest) = read (Rest level (pick line left x)) rest

-- an operand, joined by the operators of this level and above after it
abbrev pub climbed : Climbs → ℕ → Shape → List Token → Option (Operator × List Token) → Option (Shape × List Token)
climbed read level left ts None = Some (left, ts)
climbed read level left ts (Some o) = if nat_le level (level_of o.0) then joins read level left o else Some (left, ts)

-- the reading after an element: a comma leads to more elements, the closing sign ends them
abbrev pub elements_of : Climbs → Bracket → List Shape → List Token → Option (List Token) → Option (Shape × List Token)
elements_of read b es ts (Some rest) = read (Elements b es) rest
elements_of read b es ts None = past (closing b) ts >>= λ rest. Some (enclosed b es, rest)

-- one step of the reading, by the part to read next
abbrev pub climb_step : Climbs → Climbs
climb_step read (Whole level) ts = read (Operand level) ts >>= λ x. read (Rest level x.0) x.1
climb_step read (Operand level) ts = start_at ts >>= λ s. operand read level s
climb_step read (Rest level left) ts = climbed read level left ts (operator_at ts)
climb_step read (Elements b es) ts = do
  x ← read (Whole 1) ts
  elements_of read b (es ++ x.0 ∷ []) x.1 (past sign.Comma x.1)

-- the reading with at most this many nested steps
unfoldable pub climb : ℕ → Climbs
climb zero goal ts = None
climb (suc n) goal ts = climb_step (climb n) goal ts

-- the tree of the whole token list
abbrev pub climb_all : ℕ → List Token → Option Shape
climb_all n ts = climb n (Whole 1) ts >>= λ x. at_end x.0 x.1
