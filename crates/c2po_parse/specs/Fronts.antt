use Rattle.std.specs.Prelude.{ℕ, ℤ, pos, negsuc, true, false, List, [], ◌∷◌, Option, Some, None, option_and_then}
use Rattle.std.specs.Prelude.{if◌then◌else◌}
use Rattle.mltl_base.specs.declared.operators.ArithOp.TheVariants as arith_op
use Rattle.mltl_base.specs.declared.operators.CompareOp.TheVariants as compare_op
use Rattle.mltl_base.specs.declared.operators.LogicOp.TheVariants as logic_op
use Rattle.mltl_base.specs.declared.operators.WindowOp.{WindowOp}
use Rattle.mltl_base.specs.declared.operators.WindowOp.TheVariants as window_op
use Rattle.mltl_base.specs.declared.operators.BetweenOp.{BetweenOp}
use Rattle.mltl_base.specs.declared.operators.BetweenOp.TheVariants as between_op
use Rattle.mltl_base.specs.declared.operators.CountOp.TheVariants as count_op
use Rattle.c2po_lexer.specs.declared.token.Sign.{Sign}
use Rattle.c2po_lexer.specs.declared.token.Sign.TheVariants as sign
use Rattle.c2po_lexer.specs.declared.token.Keyword.{Keyword}
use Rattle.c2po_lexer.specs.declared.token.Keyword.TheVariants as keyword
use Rattle.c2po_lexer.specs.declared.token.What.{What}
use Rattle.c2po_lexer.specs.declared.token.What.TheVariants as what
use Rattle.c2po_lexer.specs.declared.token.Token.{Token}
use Rattle.c2po_ast.specs.declared.operator.Infix.{Infix}
use Rattle.c2po_ast.specs.declared.operator.Infix.TheVariants.{Logic, Between, Compare, Arith}
use Rattle.c2po_parse.specs.declared.operator.Operator.{Operator}
use Rattle.c2po_parse.specs.declared.operator.Operator.TheVariants.{Binary, Field}
use Rattle.c2po_ast.specs.declared.operator.Prefix.{Prefix}
use Rattle.c2po_ast.specs.declared.operator.Prefix.TheVariants.{Not, Minus, Window}
use Rattle.c2po_ast.specs.declared.operator.Quantifier.{Quantifier}
use Rattle.c2po_ast.specs.declared.operator.Quantifier.TheVariants.{Each, Exists, Count}
use Rattle.c2po_ast.specs.declared.operator.Bracket.{Bracket}
use Rattle.c2po_ast.specs.declared.operator.Bracket.TheVariants.{Curly, Call}
use Rattle.c2po_ast.specs.declared.operator.Atom.TheVariants.{Number, Truth, Ref}
use Rattle.c2po_parse.specs.declared.operator.Start.{Start}
use Rattle.c2po_parse.specs.declared.operator.Start.TheVariants.{Leaf, Before, Round, Open, Bind}
use Rattle.c2po_parse.specs.Tokens.{is_sign}

infixl 10 ◌>>=◌
-- the second step continues with the result of the first, if there is one
abbrev pub ◌>>=◌ : {A B : Type 0} → Option A → (A → Option B) → Option B
o >>= f = option_and_then f o

-- the tokens after a sign, if it is at the front
abbrev pub past : Sign → List Token → Option (List Token)
past s [] = None
past s (t ∷ ts) = if is_sign s t.what then Some ts else None

-- the name that a token is, and the tokens after it
abbrev pub word_in : What → List Token → Option (List ℕ × List Token)
word_in (what.Word x) ts = Some (x, ts)
word_in _ ts = None

-- the name at the front, and the tokens after it
abbrev pub name_at : List Token → Option (List ℕ × List Token)
name_at [] = None
name_at (t ∷ ts) = word_in t.what ts

-- the natural number that an integer is; numbers in a text are never negative
abbrev pub natural : ℤ → Option ℕ
natural (pos n) = Some n
natural (negsuc n) = None

-- the number that a token is
abbrev pub natural_in : What → Option ℕ
natural_in (what.Number n) = natural n
natural_in _ = None

-- the number at the front, and the tokens after it
abbrev pub natural_at : List Token → Option (ℕ × List Token)
natural_at [] = None
natural_at (t ∷ ts) = natural_in t.what >>= λ n. Some (n, ts)

-- the bounds of an interval after its first number, which is the upper bound if it is the only one
abbrev pub bounds_or : ℕ × List Token → Option (List Token) → Option (ℕ × ℕ × List Token)
bounds_or first (Some rest) = Some (0, first.0, rest)
bounds_or first None = do
  ts ← past sign.Comma first.1
  second ← natural_at ts
  rest ← past sign.RightSquare second.1
  Some (first.0, second.0, rest)

-- the bounds of an interval after its first number, and the tokens after it
abbrev pub bounds_at : ℕ × List Token → Option (ℕ × ℕ × List Token)
bounds_at first = bounds_or first (past sign.RightSquare first.1)

-- the interval at the front, `[n]` or `[m,n]`, and the tokens after it
unfoldable pub interval_at : List Token → Option (ℕ × ℕ × List Token)
interval_at ts = do
  us ← past sign.LeftSquare ts
  first ← natural_at us
  bounds_at first

-- the operator between operands that a sign stands for
abbrev pub sign_infix : Sign → Option Infix
sign_infix sign.Iff = Some (Logic logic_op.Iff)
sign_infix sign.Implies = Some (Logic logic_op.Implies)
sign_infix sign.OrOr = Some (Logic logic_op.Or)
sign_infix sign.AndAnd = Some (Logic logic_op.And)
sign_infix sign.EqualEqual = Some (Compare compare_op.Eq)
sign_infix sign.NotEqual = Some (Compare compare_op.Ne)
sign_infix sign.Less = Some (Compare compare_op.Lt)
sign_infix sign.LessEqual = Some (Compare compare_op.Le)
sign_infix sign.Greater = Some (Compare compare_op.Gt)
sign_infix sign.GreaterEqual = Some (Compare compare_op.Ge)
sign_infix sign.Plus = Some (Arith arith_op.Add)
sign_infix sign.Minus = Some (Arith arith_op.Sub)
sign_infix sign.Star = Some (Arith arith_op.Mul)
sign_infix sign.Slash = Some (Arith arith_op.Div)
sign_infix sign.Percent = Some (Arith arith_op.Rem)
sign_infix _ = None

-- the temporal operator between formulas that a word stands for
abbrev pub word_between : Keyword → Option BetweenOp
word_between keyword.U = Some between_op.U
word_between keyword.R = Some between_op.R
word_between keyword.S = Some between_op.S
word_between _ = None

-- the temporal prefix that a word stands for
abbrev pub word_window : Keyword → Option WindowOp
word_window keyword.F = Some window_op.F
word_window keyword.G = Some window_op.G
word_window keyword.O = Some window_op.O
word_window keyword.H = Some window_op.H
word_window _ = None

-- the quantifier that a word stands for
abbrev pub word_quantifier : Keyword → Option Quantifier
word_quantifier keyword.ForEach = Some Each
word_quantifier keyword.ForSome = Some Exists
word_quantifier keyword.ForExactly = Some (Count count_op.Exactly)
word_quantifier keyword.ForAtLeast = Some (Count count_op.AtLeast)
word_quantifier keyword.ForAtMost = Some (Count count_op.AtMost)
word_quantifier _ = None

-- the pick of the field whose name is at the front, and the tokens after it
abbrev pub field_pick : List Token → Option (Operator × List Token)
field_pick [] = None
field_pick (t ∷ ts) = word_in t.what ts >>= λ x. Some (Field t.line x.0, x.1)

-- the operator that a sign begins, from the tokens after the sign
abbrev pub sign_operator : ℕ → Sign → List Token → Option (Operator × List Token)
sign_operator line sign.Dot ts = field_pick ts
sign_operator line s ts = sign_infix s >>= λ op. Some (Binary line op, ts)

-- the operator that a token begins, from the tokens after it: `U`, `R` and `S` include an interval, `.` includes the name of
-- a field, whose line counts
abbrev pub operator_in : ℕ → What → List Token → Option (Operator × List Token)
operator_in line (what.Sign s) ts = sign_operator line s ts
operator_in line (what.Reserved k) ts = do
  op ← word_between k
  i ← interval_at ts
  Some (Binary line (Between op i.0 i.1), i.2)
operator_in line _ ts = None

-- the operator at the front, and the tokens after it
unfoldable pub operator_at : List Token → Option (Operator × List Token)
operator_at [] = None
operator_at (t ∷ ts) = operator_in t.line t.what ts

-- the level of an operator between two operands
abbrev pub infix_level : Infix → ℕ
infix_level (Logic logic_op.Iff) = 1
infix_level (Logic logic_op.Implies) = 2
infix_level (Logic logic_op.Or) = 3
infix_level (Logic logic_op.And) = 4
infix_level (Between op a b) = 5
infix_level (Compare op) = 7
infix_level (Arith arith_op.Add) = 8
infix_level (Arith arith_op.Sub) = 8
infix_level (Arith arith_op.Mul) = 9
infix_level (Arith arith_op.Div) = 9
infix_level (Arith arith_op.Rem) = 9

-- the level of an operator
abbrev pub level_of : Operator → ℕ
level_of (Binary line op) = infix_level op
level_of (Field line x) = 11

-- the level of a prefix
abbrev pub prefix_level : Prefix → ℕ
prefix_level (Not line) = 6
prefix_level (Minus line) = 10
prefix_level (Window line op a b) = 6

-- the sign that closes braces or a call
abbrev pub closing : Bracket → Sign
closing (Curly line) = sign.RightCurly
closing (Call line x) = sign.RightRound

-- a call if `(` follows the name, else the name alone
abbrev pub named_or_called : ℕ → List ℕ → List Token → Option (List Token) → Start × List Token
named_or_called line x ts None = (Leaf line (Ref x), ts)
named_or_called line x ts (Some us) = (Open (Call line x), us)

-- a quantifier and its variable, from the tokens after the quantifier's word
abbrev pub bound_start : ℕ → Quantifier → List Token → Option (Start × List Token)
bound_start line q ts = do
  us ← past sign.LeftRound ts
  x ← name_at us
  vs ← past sign.Colon x.1
  Some (Bind line q x.0, vs)

-- a temporal prefix and its interval, from the tokens after the prefix's word
abbrev pub window_start : ℕ → Keyword → List Token → Option (Start × List Token)
window_start line k ts = do
  op ← word_window k
  i ← interval_at ts
  Some (Before (Window line op i.0 i.1), i.2)

-- the start of an operand at a word, from the tokens after the word
abbrev pub word_start : ℕ → Keyword → List Token → Option Quantifier → Option (Start × List Token)
word_start line keyword.True ts q = Some (Leaf line (Truth true), ts)
word_start line keyword.False ts q = Some (Leaf line (Truth false), ts)
word_start line k ts (Some q) = bound_start line q ts
word_start line k ts None = window_start line k ts

-- the start of an operand at a sign, from the tokens after the sign
abbrev pub sign_start : ℕ → Sign → List Token → Option (Start × List Token)
sign_start line sign.Bang ts = Some (Before (Not line), ts)
sign_start line sign.Minus ts = Some (Before (Minus line), ts)
sign_start line sign.LeftRound ts = Some (Round, ts)
sign_start line sign.LeftCurly ts = Some (Open (Curly line), ts)
sign_start line _ ts = None

-- the start of an operand at a token, from the tokens after the token
abbrev pub start_in : ℕ → What → List Token → Option (Start × List Token)
start_in line (what.Number n) ts = Some (Leaf line (Number n), ts)
start_in line (what.Word x) ts = Some (named_or_called line x ts (past sign.LeftRound ts))
start_in line (what.Reserved k) ts = word_start line k ts (word_quantifier k)
start_in line (what.Sign s) ts = sign_start line s ts

-- the start of the operand at the front, and the tokens after it
unfoldable pub start_at : List Token → Option (Start × List Token)
start_at [] = None
start_at (t ∷ ts) = start_in t.line t.what ts

-- the number after the set of a counting quantifier; 0 for any other quantifier
abbrev pub threshold_at : Quantifier → List Token → Option (ℕ × List Token)
threshold_at Each ts = Some (0, ts)
threshold_at Exists ts = Some (0, ts)
threshold_at (Count op) ts = past sign.Comma ts >>= λ us. natural_at us

-- the tokens between a quantifier's set and its body: the number if it counts, `)` and `(`
unfoldable pub middle_at : Quantifier → List Token → Option (ℕ × List Token)
middle_at q ts = do
  n ← threshold_at q ts
  us ← past sign.RightRound n.1
  vs ← past sign.LeftRound us
  Some (n.0, vs)
