-- The names among the tokens of a text are words.
use Rattle.std.proofs.Common.{◌≡◌, ℕ, ◌-◌, ◌+◌, ◌<◌, zero, suc, Bool, true, false, if◌then◌else◌, List, [], ◌∷◌, length, take, map, Option, Some, None, option_map, Result, Ok, Err, IfOk, IfSome, pos, refl, sym, subst, arith, nat_lt}
use Rattle.std.specs.List.{All, AllPass, prefix_len, starts_with}
use Rattle.std.specs.Prelude.{nat_eq, codes, slice_index, ⊤}
use Rattle.std.specs.Char.{is_ascii_digit}
use Rattle.std.specs.Str.Parse.{digits_value}
use Rattle.std.proofs.lemmas.List.{get_or-take, length-take-le}
use Rattle.std.proofs.lemmas.List.Sums.{prefix_len_passes, prefix_len-le-length}
use Rattle.std.proofs.lemmas.List.Elements.{All-cons}
use Rattle.c2po_lexer.specs.Spelling.{keyword_of, sign_at}
use Rattle.mltl_base.specs.Letters.{is_in_word}
use Rattle.c2po_lexer.specs.Cut.{is_white, begins_word, is_in_line, sign_or_stray, front_of, size_of, piece_at, pieces_from}
use Rattle.c2po_lexer.specs.Tokens.{HasPlainLetters, reserved_or_name, line_at, what_of, read_piece, result_map, comes_first, all_of, tokens_of, token_of}
use Rattle.c2po_lexer.proofs.Spans.{in_word}
use Rattle.c2po_lexer.specs.declared.token.Token.{Token}
use Rattle.c2po_lexer.specs.declared.token.What.{What}
use Rattle.c2po_lexer.specs.declared.token.What.TheVariants as what
use Rattle.c2po_lexer.specs.declared.token.Keyword.{Keyword}
use Rattle.c2po_lexer.specs.declared.token.Sign.{Sign}
use Rattle.c2po_lexer.specs.declared.fault.LexFault.{LexFault}
use Rattle.c2po_lexer.specs.declared.front.Front.{Front}
use Rattle.c2po_lexer.specs.declared.front.Front.TheVariants as front

-- the longest prefix that passes a test passes it
pub AllPass-prefix : (p : ℕ → Bool) (xs : List ℕ) → AllPass p (take (prefix_len p xs) xs)
AllPass-prefix p xs k d inside =
    let short : length (take (prefix_len p xs) xs) ≡ prefix_len p xs = length-take-le (prefix_len p xs) xs (prefix_len-le-length p xs) in
    let here : k < prefix_len p xs = omega (arith, short) in
    rw (get_or-take (prefix_len p xs) xs k d here) (prefix_len_passes p xs k d here)

-- the bytes of a word
abbrev pub IsWord : Front → List ℕ → Type 0
IsWord (front.Word n) bytes = (begins_word (slice_index bytes 0) ≡ true) × AllPass is_in_word bytes
IsWord _ bytes = ⊤

-- a word begins as the text does
begins_too : (text : List ℕ) → begins_word (slice_index text 0) ≡ true → begins_word (slice_index (take (prefix_len is_in_word text) text) 0) ≡ true
begins_too [] h = h
begins_too (c ∷ text) h =
    let n : ℕ = prefix_len is_in_word text in
    let next : 1 + n ≡ suc n = omega arith in
    rw (in_word c h) (rw next h)

sign_no_word : (s : Option Sign) (bytes : List ℕ) → IsWord (sign_or_stray s) bytes
sign_no_word (Some s) bytes = tt
sign_no_word None bytes = tt

front_word : (blank comment word digit : Bool) (n m : ℕ) (s : Option Sign) (text : List ℕ) → begins_word (slice_index text 0) ≡ word
    → IsWord (if blank then front.Blank else (if comment then front.Comment n else (if word then front.Word (prefix_len is_in_word text) else (if digit then front.Digits m else sign_or_stray s))))
    (take (size_of (if blank then front.Blank else (if comment then front.Comment n else (if word then front.Word (prefix_len is_in_word text) else (if digit then front.Digits m else sign_or_stray s))))) text)
front_word true comment word digit n m s text e = tt
front_word false true word digit n m s text e = tt
front_word false false true digit n m s text e = (begins_too text e, AllPass-prefix is_in_word text)
front_word false false false true n m s text e = tt
front_word false false false false n m s text e = sign_no_word s (take (size_of (sign_or_stray s)) text)

pub piece_word : (text : List ℕ) → IsWord (front_of text) (take (size_of (front_of text)) text)
unfolding front_of
piece_word text =
    front_word (is_white (slice_index text 0)) (starts_with nat_eq text (codes "--")) (begins_word (slice_index text 0)) (is_ascii_digit (slice_index text 0))
    (prefix_len is_in_line text) (prefix_len is_ascii_digit text) (sign_at text) text refl

abbrev pub PlainReading : Result (Option What) LexFault → Type 0
PlainReading r = IfOk r (λ w. IfSome w HasPlainLetters)

plain_word : (long : Bool) (k : Option Keyword) (line : ℕ) (bytes : List ℕ) (fault : LexFault) → AllPass is_in_word bytes → PlainReading (result_map Some (if long then Err fault else Ok (reserved_or_name bytes k)))
plain_word true k line bytes fault word = tt
plain_word false (Some k) line bytes fault word = tt
plain_word false None line bytes fault word = word

plain_number : (large : Bool) (value : ℕ) (fault : LexFault) → PlainReading (result_map Some (if large then Err fault else Ok (what.Number (pos value))))
plain_number true value fault = tt
plain_number false value fault = tt

what_plain : (line : ℕ) (f : Front) (bytes : List ℕ) → IsWord f bytes → PlainReading (what_of line f bytes)
what_plain line (front.Word n) bytes word = plain_word (nat_lt 64 (length bytes)) (keyword_of bytes) line bytes _ word.1
what_plain line (front.Digits n) bytes word = plain_number (nat_lt 9223372036854775807 (digits_value 10 bytes)) (digits_value 10 bytes) _
what_plain line _ bytes word = tt

abbrev pub PlainTokens : Result (List Token) LexFault → Type 0
PlainTokens r = IfOk r (All (λ t. HasPlainLetters t.what))

before_plain : (token : What → Token) → ((w : What) → (token w).what ≡ w) → (r : Result (Option What) LexFault) (rest : Result (List Token) LexFault) → PlainReading r → PlainTokens rest → PlainTokens (comes_first (result_map (option_map token) r) rest)
before_plain token same (Err f) rest plain others = tt
before_plain token same (Ok None) rest plain others = others
before_plain token same (Ok (Some w)) (Err f) plain others = tt
before_plain token same (Ok (Some w)) (Ok ts) plain others =
    All-cons (λ t. HasPlainLetters t.what) (token w) ts (subst HasPlainLetters (sym (same w)) plain) others

pieces_plain : (text : List ℕ) (k s : ℕ) (xs : List ℕ) → PlainTokens (all_of (map (read_piece text) (pieces_from k s xs)))
unfolding pieces_from all_of
pieces_plain text zero s [] = λ k d inside. absurd (omega arith)
pieces_plain text (suc k) s [] = λ k d inside. absurd (omega arith)
pieces_plain text (suc k) s (x ∷ xs) = pieces_plain text k (suc s) xs
pieces_plain text zero s (x ∷ xs) =
    before_plain (token_of text (piece_at s (x ∷ xs))) (λ w. refl) (what_of (line_at text s) (front_of (x ∷ xs)) (take (size_of (front_of (x ∷ xs))) (x ∷ xs)))
    (all_of (map (read_piece text) (pieces_from (size_of (front_of (x ∷ xs)) - 1) (suc s) xs)))
    (what_plain (line_at text s) (front_of (x ∷ xs)) (take (size_of (front_of (x ∷ xs))) (x ∷ xs)) (piece_word (x ∷ xs)))
    (pieces_plain text (size_of (front_of (x ∷ xs)) - 1) (suc s) xs)

pub tokens_plain : (text : List ℕ) (ts : List Token) → tokens_of text ≡ Ok ts → All (λ t. HasPlainLetters t.what) ts
unfolding tokens_of
tokens_plain text ts e = subst PlainTokens e (pieces_plain text 0 0 text)
