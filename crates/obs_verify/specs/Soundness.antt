-- Instructions of the Booleanizer that can be computed in 64 bits on every row that fits them.

use Rattle.std.specs.Prelude.{◌<◌, ℕ, Option, Some, None, List, [], ◌∷◌, ◌++◌, IsOk, slice_get, ⊤}
use Rattle.mltl_base.specs.declared.operators.BzOp.{BzOp}
use Rattle.mltl_base.specs.declared.operators.BzOp.TheVariants.{Column, IsTrue, Const, Neg, Add, Sub, Mul, Div, Rem, Eq}
use Rattle.mltl_base.specs.declared.operators.BzOp.TheVariants.{Lt, Le}
use Rattle.mltl_base.specs.Atoms.{negative, plus, minus, times, quotient, remainder}
use Rattle.mltl_base.specs.Programs.{Expression, whole, truth, expression_of, term_at}
use Rattle.mltl_base.specs.Ranges.{range}

-- there is an expression, and it is an integer
abbrev pub IsWholeExpression : Option Expression → Type 0
IsWholeExpression (Some (whole e)) = ⊤
IsWholeExpression (Some (truth a)) = ⊥
IsWholeExpression None = ⊥

-- an earlier instruction is an integer
abbrev pub IsWhole : List Expression → ℕ → Type 0
IsWhole before a = IsWholeExpression (slice_get before a)

-- two earlier instructions are integers
abbrev pub AreWhole : List Expression → ℕ → ℕ → Type 0
AreWhole before a b = IsWhole before a × IsWhole before b

-- the instruction reads a column below the width or earlier integers, and its integer has a range: so its divisor is a
-- single number other than 0, and its value has 64 bits
abbrev pub SoundOp : ℕ → List Expression → BzOp → Type 0
SoundOp width before (Column c) = c < width
SoundOp width before (IsTrue c) = c < width
SoundOp width before (Const n) = ⊤
SoundOp width before (Neg a) = IsWhole before a × IsOk (range (negative (term_at before a)))
SoundOp width before (Add a b) = AreWhole before a b × IsOk (range (plus (term_at before a) (term_at before b)))
SoundOp width before (Sub a b) = AreWhole before a b × IsOk (range (minus (term_at before a) (term_at before b)))
SoundOp width before (Mul a b) = AreWhole before a b × IsOk (range (times (term_at before a) (term_at before b)))
SoundOp width before (Div a b) = AreWhole before a b × IsOk (range (quotient (term_at before a) (term_at before b)))
SoundOp width before (Rem a b) = AreWhole before a b × IsOk (range (remainder (term_at before a) (term_at before b)))
SoundOp width before (Eq a b) = AreWhole before a b
SoundOp width before (Lt a b) = AreWhole before a b
SoundOp width before (Le a b) = AreWhole before a b

-- each instruction is sound, over the expressions of the instructions before it
unfoldable pub SoundOps : ℕ → List Expression → List BzOp → Type 0
SoundOps width before [] = ⊤
SoundOps width before (op ∷ ops) = SoundOp width before op × SoundOps width (before ++ expression_of before op ∷ []) ops
