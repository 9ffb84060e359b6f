-- Written texts: tokens, with spaces and ends of lines between them.

use Rattle.std.specs.Prelude.{◌≡◌, ◌≤◌, ◌+◌, ℕ, ℤ, pos, negsuc, Bool, true, not, ◌==◌, ◌||◌, List, [], ◌∷◌, length}
use Rattle.std.specs.Prelude.{slice_index, flat_map, decimal, None, ⊤}
use Rattle.std.specs.List.{AllPass}
use Rattle.std.specs.Char.{is_ascii_digit}
use Rattle.c2po_lexer.specs.Spelling.{keyword_text, keyword_of, sign_text}
use Rattle.mltl_base.specs.Letters.{is_in_word}
use Rattle.c2po_lexer.specs.Cut.{begins_word}
use Rattle.c2po_lexer.specs.declared.token.Sign.{Sign}
use Rattle.c2po_lexer.specs.declared.token.Sign.TheVariants as sign
use Rattle.c2po_lexer.specs.declared.token.Token.{Token}
use Rattle.c2po_lexer.specs.declared.token.What.{What}
use Rattle.c2po_lexer.specs.declared.token.What.TheVariants as what

-- a part of a written text: a token, a space, or the end of a line
pub data Mark : Type 0 where
  token : What → Mark
  space : Mark
  newline : Mark

-- the bytes of a token; no token is a negative number
abbrev pub token_text : What → List ℕ
token_text (what.Word x) = x
token_text (what.Reserved k) = keyword_text k
token_text (what.Number (pos n)) = decimal n
token_text (what.Number (negsuc n)) = []
token_text (what.Sign s) = sign_text s

-- the bytes of a part of a text
abbrev pub mark_text : Mark → List ℕ
mark_text (token w) = token_text w
mark_text space = 32 ∷ []
mark_text newline = 10 ∷ []

-- the written text
abbrev pub marks_text : List Mark → List ℕ
marks_text marks = flat_map mark_text marks

-- the tokens of the text from a place on, each with its line
unfoldable pub tokens_by : (line start : ℕ) → List Mark → List Token
tokens_by line start [] = []
tokens_by line start (token w ∷ marks) =
    record { what = w; line = line; start = start; end = start + length (token_text w) }
    ∷ tokens_by line (start + length (token_text w)) marks
tokens_by line start (space ∷ marks) = tokens_by line (start + 1) marks
tokens_by line start (newline ∷ marks) = tokens_by (line + 1) (start + 1) marks

-- the name is a name of the language: a word of at most 64 bytes that isn't reserved
pub record IsName (x : List ℕ) : Type 0 where
  pub begins : begins_word (slice_index x 0) ≡ true
  pub word : AllPass is_in_word x
  pub short : length x ≤ 64
  pub free : keyword_of x ≡ None

-- the number can be written in a text: from 0 to 2 ^ 63 - 1
abbrev pub IsNumeral : ℤ → Type 0
IsNumeral (pos n) = n ≤ 9223372036854775807
IsNumeral (negsuc n) = ⊥

-- the token can be written in a text
abbrev pub IsToken : What → Type 0
IsToken (what.Word x) = IsName x
IsToken (what.Reserved k) = ⊤
IsToken (what.Number n) = IsNumeral n
IsToken (what.Sign s) = ⊤

-- the sign ends before the byte: no longer sign and no comment begins with both
abbrev pub ends_before : Sign → ℕ → Bool
ends_before sign.Less b = not (b == 61 || b == 45)
ends_before sign.Minus b = not (b == 62 || b == 45)
ends_before sign.Bang b = not (b == 61)
ends_before sign.Greater b = not (b == 61)
ends_before sign.Colon b = not (b == 61)
ends_before _ b = true

-- the token ends before the byte
abbrev pub token_ends : What → ℕ → Bool
token_ends (what.Word x) b = not (is_in_word b)
token_ends (what.Reserved k) b = not (is_in_word b)
token_ends (what.Number n) b = not (is_ascii_digit b)
token_ends (what.Sign s) b = ends_before s b

-- the token ends before the first byte of the text after it, which isn't empty
abbrev pub Ends : What → List ℕ → Type 0
Ends w [] = ⊥
Ends w (b ∷ bytes) = token_ends w b ≡ true

-- each token can be written in a text, and ends before the text after it
unfoldable pub MarksAreReadable : List Mark → Type 0
MarksAreReadable [] = ⊤
MarksAreReadable (token w ∷ marks) = IsToken w × Ends w (marks_text marks) × MarksAreReadable marks
MarksAreReadable (space ∷ marks) = MarksAreReadable marks
MarksAreReadable (newline ∷ marks) = MarksAreReadable marks
