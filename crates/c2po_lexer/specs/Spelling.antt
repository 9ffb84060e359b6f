-- The spelling of reserved words and signs.
use Rattle.std.specs.Prelude.{ℕ, List, [], ◌∷◌, Option, find, codes, nat_eq}
use Rattle.std.specs.List.{starts_with}
use Rattle.std.specs.Str.{bytes_eq}
use Rattle.c2po_lexer.specs.declared.token.Keyword.{Keyword}
use Rattle.c2po_lexer.specs.declared.token.Keyword.TheVariants as keyword
use Rattle.c2po_lexer.specs.declared.token.Sign.{Sign}
use Rattle.c2po_lexer.specs.declared.token.Sign.TheVariants as sign

-- the letters of a reserved word
abbrev pub keyword_text : Keyword → List ℕ
keyword_text keyword.Struct = codes "STRUCT"
keyword_text keyword.Input = codes "INPUT"
keyword_text keyword.Define = codes "DEFINE"
keyword_text keyword.FtSpec = codes "FTSPEC"
keyword_text keyword.PtSpec = codes "PTSPEC"
keyword_text keyword.Bool = codes "bool"
keyword_text keyword.Int = codes "int"
keyword_text keyword.Set = codes "set"
keyword_text keyword.True = codes "true"
keyword_text keyword.False = codes "false"
keyword_text keyword.ForEach = codes "foreach"
keyword_text keyword.ForSome = codes "forsome"
keyword_text keyword.ForExactly = codes "forexactly"
keyword_text keyword.ForAtLeast = codes "foratleast"
keyword_text keyword.ForAtMost = codes "foratmost"
keyword_text keyword.F = codes "F"
keyword_text keyword.G = codes "G"
keyword_text keyword.U = codes "U"
keyword_text keyword.R = codes "R"
keyword_text keyword.S = codes "S"
keyword_text keyword.O = codes "O"
keyword_text keyword.H = codes "H"

-- all reserved words
abbrev pub keywords : List Keyword
keywords =
    keyword.Struct ∷ keyword.Input ∷ keyword.Define ∷ keyword.FtSpec ∷ keyword.PtSpec ∷ keyword.Bool ∷ keyword.Int
    ∷ keyword.Set
    ∷ keyword.True ∷ keyword.False ∷ keyword.ForEach ∷ keyword.ForSome ∷ keyword.ForExactly ∷ keyword.ForAtLeast
    ∷ keyword.ForAtMost
    ∷ keyword.F ∷ keyword.G ∷ keyword.U ∷ keyword.R ∷ keyword.S ∷ keyword.O ∷ keyword.H ∷ []

-- the reserved word with these letters, if there is one
abbrev pub keyword_of : List ℕ → Option Keyword
keyword_of word = find (λ k. bytes_eq word (keyword_text k)) keywords

-- the bytes of a sign
abbrev pub sign_text : Sign → List ℕ
sign_text sign.Iff = codes "<->"
sign_text sign.Implies = codes "->"
sign_text sign.Promises = codes "=>"
sign_text sign.Becomes = codes ":="
sign_text sign.EqualEqual = codes "=="
sign_text sign.NotEqual = codes "!="
sign_text sign.LessEqual = codes "<="
sign_text sign.GreaterEqual = codes ">="
sign_text sign.AndAnd = codes "&&"
sign_text sign.OrOr = codes "||"
sign_text sign.LeftRound = codes "("
sign_text sign.RightRound = codes ")"
sign_text sign.LeftCurly = codes "{"
sign_text sign.RightCurly = codes "}"
sign_text sign.LeftSquare = codes "["
sign_text sign.RightSquare = codes "]"
sign_text sign.Comma = codes ","
sign_text sign.Semicolon = codes ";"
sign_text sign.Colon = codes ":"
sign_text sign.Dot = codes "."
sign_text sign.Bang = codes "!"
sign_text sign.Less = codes "<"
sign_text sign.Greater = codes ">"
sign_text sign.Plus = codes "+"
sign_text sign.Minus = codes "-"
sign_text sign.Star = codes "*"
sign_text sign.Slash = codes "/"
sign_text sign.Percent = codes "%"

-- all signs, longer ones first
abbrev pub signs : List Sign
signs =
    sign.Iff ∷ sign.Implies ∷ sign.Promises ∷ sign.Becomes ∷ sign.EqualEqual ∷ sign.NotEqual ∷ sign.LessEqual
    ∷ sign.GreaterEqual ∷ sign.AndAnd ∷ sign.OrOr ∷ sign.LeftRound ∷ sign.RightRound ∷ sign.LeftCurly ∷ sign.RightCurly
    ∷ sign.LeftSquare ∷ sign.RightSquare ∷ sign.Comma ∷ sign.Semicolon ∷ sign.Colon ∷ sign.Dot ∷ sign.Bang ∷ sign.Less
    ∷ sign.Greater ∷ sign.Plus ∷ sign.Minus ∷ sign.Star ∷ sign.Slash ∷ sign.Percent ∷ []

-- the longest sign at the front of a text, if there is one
abbrev pub sign_at : List ℕ → Option Sign
sign_at text = find (λ s. starts_with nat_eq text (sign_text s)) signs
