-- The tokens of a text, or its first fault.
use Rattle.std.specs.Prelude.{◌≡◌, ℕ, ◌+◌, ◌-◌, ◌<◌, ◌≤◌, List, [], ◌∷◌, length, ◌==◌, if◌then◌else◌, nat_lt, take}
use Rattle.std.specs.Prelude.{drop, map, count_by, Option, Some, None, option_map, Result, Ok, Err, pos, ⊤}
use Rattle.std.specs.List.{AllPass}
use Rattle.std.specs.Str.Parse.{digits_value}
use Rattle.mltl_base.specs.declared.limits.TheConstants.{MAX_NUMBER}
use Rattle.c2po_lexer.specs.Spelling.{keyword_text, keyword_of, sign_text}
use Rattle.mltl_base.specs.Letters.{is_in_word}
use Rattle.c2po_lexer.specs.Cut.{Piece, front_of, size_of, piece_at, pieces_of}
use Rattle.c2po_lexer.specs.declared.token.Token.{Token}
use Rattle.c2po_lexer.specs.declared.token.What.{What}
use Rattle.c2po_lexer.specs.declared.token.What.TheVariants as what
use Rattle.c2po_lexer.specs.declared.token.Keyword.{Keyword}
use Rattle.c2po_lexer.specs.declared.fault.LexFault.{LexFault}
use Rattle.c2po_lexer.specs.declared.fault.LexFault.TheVariants as fault
use Rattle.c2po_lexer.specs.declared.front.Front.{Front}
use Rattle.c2po_lexer.specs.declared.front.Front.TheVariants as front

-- the result with its value changed by f, or with its fault
abbrev pub result_map : {A B : Type 0} → (A → B) → Result A LexFault → Result B LexFault
result_map f (Ok x) = Ok (f x)
result_map f (Err e) = Err e

-- the line of a place in a text, counted from 1: 1 more than the number of newlines before it
abbrev pub line_at : List ℕ → ℕ → ℕ
line_at text place = 1 + count_by (λ b. b == 10) (take place text)

-- the reserved word, or a name if the word isn't reserved
abbrev pub reserved_or_name : List ℕ → Option Keyword → What
reserved_or_name word (Some k) = what.Reserved k
reserved_or_name word None = what.Word word

-- the token of a word, which has at most 64 bytes
abbrev pub word_token : ℕ → List ℕ → Result What LexFault
word_token line word =
    if nat_lt 64 (length word) then Err (fault.LongWord line)
    else Ok (reserved_or_name word (keyword_of word))

-- the token of a number, which is at most 2 ^ 63 - 1
abbrev pub number_token : ℕ → List ℕ → Result What LexFault
number_token line digits =
    if nat_lt MAX_NUMBER (digits_value 10 digits) then Err (fault.Number line)
    else Ok (what.Number (pos (digits_value 10 digits)))

-- The sort of token that a piece is. Blanks and comments are none, and a byte that begins nothing is a fault.
abbrev pub what_of : ℕ → Front → List ℕ → Result (Option What) LexFault
what_of line front.Blank bytes = Ok None
what_of line (front.Comment n) bytes = Ok None
what_of line (front.Word n) bytes = result_map Some (word_token line bytes)
what_of line (front.Digits n) bytes = result_map Some (number_token line bytes)
what_of line (front.Sign s) bytes = Ok (Some (what.Sign s))
what_of line front.Stray bytes = Err (fault.Letter line)

-- the token of a piece, with its line and its span
abbrev pub token_of : List ℕ → Piece → What → Token
token_of text piece w =
    record {
      what = w;
      line = line_at text piece.start;
      start = piece.start;
      end = piece.start + length piece.bytes;
    }

-- the token of a piece, if it is one, or its fault
abbrev pub read_piece : List ℕ → Piece → Result (Option Token) LexFault
read_piece text piece =
    result_map (option_map (token_of text piece)) (what_of (line_at text piece.start) piece.front piece.bytes)

-- the token of the piece at a place, if it is one, or its fault
abbrev pub token_at : List ℕ → ℕ → Result (Option Token) LexFault
token_at text start = read_piece text (piece_at start (drop start text))

-- the size of the piece at a place, in bytes
abbrev pub size_at : List ℕ → ℕ → ℕ
size_at text start = size_of (front_of (drop start text))

-- the place `next`, in line `number`, is just after the piece at the place `first`
pub record IsAfter (text : List ℕ) (first next number : ℕ) : Type 0 where
  pub start : next ≡ first + size_at text first
  pub inside : next ≤ length text
  pub line : number ≡ line_at text next

-- the token of a piece, if any, before the other tokens, or the first fault
abbrev pub comes_first :
    Result (Option Token) LexFault → Result (List Token) LexFault → Result (List Token) LexFault
comes_first (Err f) rest = Err f
comes_first (Ok None) rest = rest
comes_first (Ok (Some t)) rest = result_map (λ ts. t ∷ ts) rest

-- all tokens, or the first fault
unfoldable pub all_of : List (Result (Option Token) LexFault) → Result (List Token) LexFault
all_of [] = Ok []
all_of (reading ∷ rest) = comes_first reading (all_of rest)

-- the tokens of a text, or its first fault
unfoldable pub tokens_of : List ℕ → Result (List Token) LexFault
tokens_of text = all_of (map (read_piece text) (pieces_of text))

-- the bytes of a token's span
abbrev pub token_bytes : List ℕ → Token → List ℕ
token_bytes text t = take (t.end - t.start) (drop t.start text)

-- the bytes spell the token
abbrev pub IsWrittenAs : What → List ℕ → Type 0
IsWrittenAs (what.Word name) bytes = name ≡ bytes
IsWrittenAs (what.Reserved k) bytes = keyword_text k ≡ bytes
IsWrittenAs (what.Number value) bytes = value ≡ pos (digits_value 10 bytes)
IsWrittenAs (what.Sign s) bytes = sign_text s ≡ bytes

-- the tokens are in order between two positions of a text, and each has at least one byte
abbrev pub TokensAreInOrder : (from to : ℕ) → List Token → Type 0
TokensAreInOrder from to [] = from ≤ to
TokensAreInOrder from to (t ∷ ts) = (from ≤ t.start) × (t.start < t.end) × TokensAreInOrder t.end to ts

-- if the token is a name, it consists of ASCII letters, digits and `_`
abbrev pub HasPlainLetters : What → Type 0
HasPlainLetters (what.Word name) = AllPass is_in_word name
HasPlainLetters _ = ⊤
