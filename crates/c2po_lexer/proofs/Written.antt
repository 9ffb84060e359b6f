-- The bytes of a token's span are how the token is written.
use Rattle.std.proofs.Common.{◌≡◌, ◌∙◌, ℕ, pos, ◌+◌, ◌-◌, ◌≤◌, zero, suc, Bool, true, false, if◌then◌else◌, List, [], ◌∷◌, length, take, drop, map, Option, Some, None, option_map, Result, Ok, Err, IfOk, IfSome, refl, ap, sym, subst, arith, nat_lt}
use Rattle.std.specs.Prelude.{nat_eq, codes, slice_index, ⊤}
use Rattle.std.specs.List.{All, prefix_len, starts_with}
use Rattle.std.specs.Str.{bytes_eq}
use Rattle.std.specs.Str.Parse.{digits_value}
use Rattle.std.specs.Char.{is_ascii_digit}
use Rattle.std.proofs.lemmas.Slice.Eq.{bytes_eq-Decides}
use Rattle.std.proofs.lemmas.List.{length-take-le, drop-drop}
use Rattle.std.proofs.lemmas.List.Elements.{All-cons}
use Rattle.c2po_lexer.proofs.Fronts.{find_passes}
use Rattle.c2po_lexer.proofs.Spans.{piece_sized}
use Rattle.c2po_lexer.specs.Spelling.{keyword_text, keyword_of, keywords, sign_text, sign_at, signs}
use Rattle.mltl_base.specs.Letters.{is_in_word}
use Rattle.c2po_lexer.specs.Cut.{is_white, begins_word, is_in_line, sign_or_stray, front_of, size_of, piece_at, pieces_from}
use Rattle.c2po_lexer.specs.Tokens.{IsWrittenAs, token_bytes, reserved_or_name, line_at, what_of, read_piece, result_map, comes_first, all_of, tokens_of, token_of}
use Rattle.c2po_lexer.specs.declared.token.Token.{Token}
use Rattle.c2po_lexer.specs.declared.token.What.{What}
use Rattle.c2po_lexer.specs.declared.token.What.TheVariants as what
use Rattle.c2po_lexer.specs.declared.token.Keyword.{Keyword}
use Rattle.c2po_lexer.specs.declared.token.Sign.{Sign}
use Rattle.c2po_lexer.specs.declared.fault.LexFault.{LexFault}
use Rattle.c2po_lexer.specs.declared.front.Front.{Front}
use Rattle.c2po_lexer.specs.declared.front.Front.TheVariants as front

-- a sign stands where it was found
pub sign_stands : (text : List ℕ) (s : Sign) → sign_at text ≡ Some s → sign_text s ≡ take (length (sign_text s)) text
sign_stands text s e =
    (bytes_eq-Decides (sign_text s) (take (length (sign_text s)) text)).0
    (find_passes (λ t. starts_with nat_eq text (sign_text t)) signs s e)

-- a reserved word has the letters by which it was found
pub keyword_stands : (word : List ℕ) (k : Keyword) → keyword_of word ≡ Some k → keyword_text k ≡ word
keyword_stands word k e =
    sym ((bytes_eq-Decides word (keyword_text k)).0 (find_passes (λ t. bytes_eq word (keyword_text t)) keywords k e))

-- the bytes of a sign
abbrev pub IsSign : Front → List ℕ → Type 0
IsSign (front.Sign s) bytes = sign_text s ≡ bytes
IsSign _ bytes = ⊤

sign_or_none : (text : List ℕ) (s : Option Sign) → sign_at text ≡ s → IsSign (sign_or_stray s) (take (size_of (sign_or_stray s)) text)
sign_or_none text (Some s) e = sign_stands text s e
sign_or_none text None e = tt

front_sign : (blank comment word digit : Bool) (n m l : ℕ) (text : List ℕ)
    → IsSign (if blank then front.Blank else (if comment then front.Comment n else (if word then front.Word m else (if digit then front.Digits l else sign_or_stray (sign_at text)))))
    (take (size_of (if blank then front.Blank else (if comment then front.Comment n else (if word then front.Word m else (if digit then front.Digits l else sign_or_stray (sign_at text)))))) text)
front_sign true comment word digit n m l text = tt
front_sign false true word digit n m l text = tt
front_sign false false true digit n m l text = tt
front_sign false false false true n m l text = tt
front_sign false false false false n m l text = sign_or_none text (sign_at text) refl

piece_sign : (text : List ℕ) → IsSign (front_of text) (take (size_of (front_of text)) text)
unfolding front_of
piece_sign text =
    front_sign (is_white (slice_index text 0)) (starts_with nat_eq text (codes "--")) (begins_word (slice_index text 0)) (is_ascii_digit (slice_index text 0))
    (prefix_len is_in_line text) (prefix_len is_in_word text) (prefix_len is_ascii_digit text) text

abbrev pub ReadingOf : List ℕ → Result (Option What) LexFault → Type 0
ReadingOf bytes r = IfOk r (λ w. IfSome w (λ v. IsWrittenAs v bytes))

word_written : (long : Bool) (k : Option Keyword) (bytes : List ℕ) (fault : LexFault) → keyword_of bytes ≡ k → ReadingOf bytes (result_map Some (if long then Err fault else Ok (reserved_or_name bytes k)))
word_written true k bytes fault e = tt
word_written false (Some k) bytes fault e = keyword_stands bytes k e
word_written false None bytes fault e = refl

number_written : (large : Bool) (bytes : List ℕ) (fault : LexFault) → ReadingOf bytes (result_map Some (if large then Err fault else Ok (what.Number (pos (digits_value 10 bytes)))))
number_written true bytes fault = tt
number_written false bytes fault = refl

what_written : (line : ℕ) (f : Front) (bytes : List ℕ) → IsSign f bytes → ReadingOf bytes (what_of line f bytes)
what_written line (front.Word n) bytes sign = word_written (nat_lt 64 (length bytes)) (keyword_of bytes) bytes _ refl
what_written line (front.Digits n) bytes sign = number_written (nat_lt 9223372036854775807 (digits_value 10 bytes)) bytes _
what_written line (front.Sign s) bytes sign = sign
what_written line _ bytes sign = tt

abbrev pub WrittenTokens : List ℕ → Result (List Token) LexFault → Type 0
WrittenTokens text r = IfOk r (All (λ t. IsWrittenAs t.what (token_bytes text t)))

before_written : (text bytes : List ℕ) (token : What → Token) → ((w : What) → (token w).what ≡ w) → ((w : What) → bytes ≡ token_bytes text (token w))
    → (r : Result (Option What) LexFault) (rest : Result (List Token) LexFault) → ReadingOf bytes r → WrittenTokens text rest → WrittenTokens text (comes_first (result_map (option_map token) r) rest)
before_written text bytes token same at (Err f) rest reading others = tt
before_written text bytes token same at (Ok None) rest reading others = others
before_written text bytes token same at (Ok (Some w)) (Err f) reading others = tt
before_written text bytes token same at (Ok (Some w)) (Ok ts) reading others =
    All-cons (λ t. IsWrittenAs t.what (token_bytes text t)) (token w) ts
    (subst (λ v. IsWrittenAs v (token_bytes text (token w))) (sym (same w)) (subst (λ b. IsWrittenAs w b) (at w) reading)) others

next_rest : (text : List ℕ) (s x : ℕ) (xs : List ℕ) → x ∷ xs ≡ drop s text → xs ≡ drop (suc s) text
next_rest text s x xs e =
    let next : s + 1 ≡ suc s = omega arith in
    ap (λ l. drop 1 l) e ∙ drop-drop 1 s text ∙ ap (λ n. drop n text) next

span_bytes : (text : List ℕ) (s size : ℕ) (rest : List ℕ) → rest ≡ drop s text → size ≤ length rest → take size rest ≡ take (s + length (take size rest) - s) (drop s text)
span_bytes text s size rest e inside =
    let whole : length (take size rest) ≡ size = length-take-le size rest inside in
    let n : s + length (take size rest) - s ≡ size = omega (arith, whole) in
    rw n (ap (λ l. take size l) e)

pieces_written : (text : List ℕ) (k s : ℕ) (xs : List ℕ) → xs ≡ drop s text → WrittenTokens text (all_of (map (read_piece text) (pieces_from k s xs)))
unfolding pieces_from all_of
pieces_written text zero s [] e = λ k d inside. absurd (omega arith)
pieces_written text (suc k) s [] e = λ k d inside. absurd (omega arith)
pieces_written text (suc k) s (x ∷ xs) e = pieces_written text k (suc s) xs (next_rest text s x xs e)
pieces_written text zero s (x ∷ xs) e =
    before_written text (take (size_of (front_of (x ∷ xs))) (x ∷ xs)) (token_of text (piece_at s (x ∷ xs))) (λ w. refl)
    (λ w. span_bytes text s (size_of (front_of (x ∷ xs))) (x ∷ xs) e (piece_sized (x ∷ xs) (omega arith)).1)
    (what_of (line_at text s) (front_of (x ∷ xs)) (take (size_of (front_of (x ∷ xs))) (x ∷ xs)))
    (all_of (map (read_piece text) (pieces_from (size_of (front_of (x ∷ xs)) - 1) (suc s) xs)))
    (what_written (line_at text s) (front_of (x ∷ xs)) (take (size_of (front_of (x ∷ xs))) (x ∷ xs)) (piece_sign (x ∷ xs)))
    (pieces_written text (size_of (front_of (x ∷ xs)) - 1) (suc s) xs (next_rest text s x xs e))

pub tokens_written : (text : List ℕ) (ts : List Token) → tokens_of text ≡ Ok ts → All (λ t. IsWrittenAs t.what (token_bytes text t)) ts
unfolding tokens_of
tokens_written text ts e = subst (WrittenTokens text) e (pieces_written text 0 0 text refl)
