-- The pieces of a text: blanks, comments, words, numbers, signs, and bytes that begin none of these.
use Rattle.std.specs.Str.{all_ascii_digits}
use Rattle.std.specs.Prelude.{ℕ, IsTrue, ◌-◌, zero, suc, List, [], ◌∷◌, length, Bool, not, ◌||◌, ◌==◌, if◌then◌else◌}
use Rattle.std.specs.Prelude.{nat_eq, take, slice_index, codes, Option, Some, None, ⊤}
use Rattle.std.specs.List.{starts_with, prefix_len}
use Rattle.std.specs.Char.{is_ascii_alphabetic, is_ascii_digit}
use Rattle.mltl_base.specs.Letters.{is_in_word}
use Rattle.c2po_lexer.specs.Spelling.{sign_text, sign_at}
use Rattle.c2po_lexer.specs.declared.token.Sign.{Sign}
use Rattle.c2po_lexer.specs.declared.front.Front.{Front}
use Rattle.c2po_lexer.specs.declared.front.Front.TheVariants as front

-- the byte is a space, a tab, a carriage return or a newline
abbrev pub is_white : ℕ → Bool
is_white b = b == 32 || b == 9 || b == 13 || b == 10

-- the byte begins a word: it is an ASCII letter or `_`
abbrev pub begins_word : ℕ → Bool
begins_word b = is_ascii_alphabetic b || b == 95

-- the byte isn't a newline
abbrev pub is_in_line : ℕ → Bool
is_in_line b = not (b == 10)

-- the piece of a sign if there is one, else of a byte that begins nothing
abbrev pub sign_or_stray : Option Sign → Front
sign_or_stray (Some s) = front.Sign s
sign_or_stray None = front.Stray

-- the longest piece at the front of a text; a comment runs from `--` to the end of its line
unfoldable pub front_of : List ℕ → Front
front_of text =
    if is_white (slice_index text 0) then front.Blank
    else (if starts_with nat_eq text (codes "--") then front.Comment (prefix_len is_in_line text)
    else (if begins_word (slice_index text 0) then front.Word (prefix_len is_in_word text)
    else (if is_ascii_digit (slice_index text 0) then front.Digits (prefix_len is_ascii_digit text)
    else sign_or_stray (sign_at text))))

-- the size of a piece in bytes
abbrev pub size_of : Front → ℕ
size_of front.Blank = 1
size_of (front.Comment n) = n
size_of (front.Word n) = n
size_of (front.Digits n) = n
size_of (front.Sign s) = length (sign_text s)
size_of front.Stray = 1

-- if the piece is a number, its bytes are digits
abbrev pub HasDigitsAlone : Front → List ℕ → Type 0
HasDigitsAlone (front.Digits n) bytes = IsTrue (all_ascii_digits bytes)
HasDigitsAlone _ bytes = ⊤

-- A piece of a text: its sort, its start, and its bytes.
pub record Piece : Type 0 where
  pub front : Front
  pub start : ℕ
  pub bytes : List ℕ

-- the piece at the front of the rest of a text, after the first `start` bytes
abbrev pub piece_at : ℕ → List ℕ → Piece
piece_at start rest =
    record { front = front_of rest; start = start; bytes = take (size_of (front_of rest)) rest }

-- The pieces of the rest of a text, after the first `start` bytes. The first `taken` bytes of the rest belong to the piece
-- before.
unfoldable pub pieces_from : (taken start : ℕ) → List ℕ → List Piece
pieces_from taken start [] = []
pieces_from zero start (b ∷ bs) =
    piece_at start (b ∷ bs) ∷ pieces_from (size_of (front_of (b ∷ bs)) - 1) (suc start) bs
pieces_from (suc taken) start (b ∷ bs) = pieces_from taken (suc start) bs

-- the pieces of a text, in order
abbrev pub pieces_of : List ℕ → List Piece
pieces_of text = pieces_from 0 0 text
