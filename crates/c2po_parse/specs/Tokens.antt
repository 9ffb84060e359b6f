use Rattle.std.specs.Prelude.{ℕ, suc, pred, Bool, true, false, ◌||◌, nat_eq, if◌then◌else◌}
use Rattle.c2po_lexer.specs.declared.token.Sign.{Sign}
use Rattle.c2po_lexer.specs.declared.token.Sign.TheVariants as sign
use Rattle.c2po_lexer.specs.declared.token.Keyword.{Keyword}
use Rattle.c2po_lexer.specs.declared.token.Keyword.TheVariants as keyword
use Rattle.c2po_lexer.specs.declared.token.What.{What}
use Rattle.c2po_lexer.specs.declared.token.What.TheVariants as what

-- the place of a sign in the list of signs
abbrev pub sign_index : Sign → ℕ
sign_index sign.Iff = 0
sign_index sign.Implies = 1
sign_index sign.Promises = 2
sign_index sign.Becomes = 3
sign_index sign.EqualEqual = 4
sign_index sign.NotEqual = 5
sign_index sign.LessEqual = 6
sign_index sign.GreaterEqual = 7
sign_index sign.AndAnd = 8
sign_index sign.OrOr = 9
sign_index sign.LeftRound = 10
sign_index sign.RightRound = 11
sign_index sign.LeftCurly = 12
sign_index sign.RightCurly = 13
sign_index sign.LeftSquare = 14
sign_index sign.RightSquare = 15
sign_index sign.Comma = 16
sign_index sign.Semicolon = 17
sign_index sign.Colon = 18
sign_index sign.Dot = 19
sign_index sign.Bang = 20
sign_index sign.Less = 21
sign_index sign.Greater = 22
sign_index sign.Plus = 23
sign_index sign.Minus = 24
sign_index sign.Star = 25
sign_index sign.Slash = 26
sign_index sign.Percent = 27

-- the token is this sign
abbrev pub is_sign : Sign → What → Bool
is_sign s (what.Sign r) = nat_eq (sign_index r) (sign_index s)
is_sign s _ = false

-- Levels of operators between or after operands. Level 1 binds loosest, and 0 means no operator. The prefixes `!`, `F`, `G`,
-- `O` and `H` have level 6, and the prefix `-` has level 10.

-- the level of the operator that a sign stands for
abbrev pub sign_level : Sign → ℕ
sign_level sign.Iff = 1
sign_level sign.Implies = 2
sign_level sign.OrOr = 3
sign_level sign.AndAnd = 4
sign_level sign.EqualEqual = 7
sign_level sign.NotEqual = 7
sign_level sign.Less = 7
sign_level sign.LessEqual = 7
sign_level sign.Greater = 7
sign_level sign.GreaterEqual = 7
sign_level sign.Plus = 8
sign_level sign.Minus = 8
sign_level sign.Star = 9
sign_level sign.Slash = 9
sign_level sign.Percent = 9
sign_level sign.Dot = 11
sign_level _ = 0

-- the level of the temporal operator between formulas that a word stands for
abbrev pub word_level : Keyword → ℕ
word_level keyword.U = 5
word_level keyword.R = 5
word_level keyword.S = 5
word_level _ = 0

-- the level of the operator that a token stands for
abbrev pub token_level : What → ℕ
token_level (what.Sign s) = sign_level s
token_level (what.Reserved k) = word_level k
token_level _ = 0

-- an operand can end with the token: a name, a number, `true`, `false`, `)` or `}`
abbrev pub ends_operand : What → Bool
ends_operand (what.Word x) = true
ends_operand (what.Number n) = true
ends_operand (what.Reserved keyword.True) = true
ends_operand (what.Reserved keyword.False) = true
ends_operand (what.Sign sign.RightRound) = true
ends_operand (what.Sign sign.RightCurly) = true
ends_operand _ = false

-- the level of a token as an operator; `-` is an operator between operands only if the token before it ends an operand
abbrev pub level_after : Bool → What → ℕ
level_after true w = token_level w
level_after false w = if is_sign sign.Minus w then 0 else token_level w

-- the number of open brackets after a token, from the number before it
abbrev pub depth_after : What → ℕ → ℕ
depth_after (what.Sign sign.LeftRound) d = suc d
depth_after (what.Sign sign.LeftCurly) d = suc d
depth_after (what.Sign sign.LeftSquare) d = suc d
depth_after (what.Sign sign.RightRound) d = pred d
depth_after (what.Sign sign.RightCurly) d = pred d
depth_after (what.Sign sign.RightSquare) d = pred d
depth_after _ d = d

-- the token is a sign that ends an expression; a tree has such signs only inside brackets
abbrev pub is_separator : What → Bool
is_separator (what.Sign sign.RightRound) = true
is_separator (what.Sign sign.RightCurly) = true
is_separator (what.Sign sign.RightSquare) = true
is_separator (what.Sign sign.Comma) = true
is_separator (what.Sign sign.Semicolon) = true
is_separator (what.Sign sign.Colon) = true
is_separator (what.Sign sign.Promises) = true
is_separator (what.Sign sign.Becomes) = true
is_separator _ = false

-- the level groups to the right, so its first operator splits: `a -> b -> c` is `a -> (b -> c)`
abbrev pub is_right_level : ℕ → Bool
is_right_level level = nat_eq level 2

-- the level is a level of prefixes
abbrev pub is_prefix_level : ℕ → Bool
is_prefix_level level = nat_eq level 6 || nat_eq level 10

-- the level at which the left operand of an operator is read
abbrev pub left_level : ℕ → ℕ
left_level level = if is_right_level level then suc level else level

-- the level at which the right operand of an operator or the operand of a prefix is read
abbrev pub right_level : ℕ → ℕ
right_level level = if is_right_level level || is_prefix_level level then level else suc level
