-- The tokens of a text are tokens of the language: its names are names of the language, and none of its numbers is negative.
use Rattle.std.proofs.Common.{◌≡◌, ℕ, ◌-◌, ◌≤◌, zero, suc, Bool, true, false, if◌then◌else◌, List, [], ◌∷◌, length, take, map, Option, Some, None, option_map, Result, Ok, Err, IfOk, IfSome, pos, refl, sym, subst, arith, nat_lt}
use Rattle.std.specs.List.{All, AllPass}
use Rattle.std.specs.Prelude.{slice_index}
use Rattle.std.specs.Str.Parse.{digits_value}
use Rattle.std.proofs.lemmas.List.Elements.{All-cons}
use Rattle.c2po_lexer.specs.Spelling.{keyword_of}
use Rattle.mltl_base.specs.Letters.{is_in_word}
use Rattle.c2po_lexer.specs.Cut.{begins_word, front_of, size_of, piece_at, pieces_from}
use Rattle.c2po_lexer.specs.Tokens.{reserved_or_name, line_at, what_of, read_piece, result_map, comes_first, all_of, tokens_of, token_of}
use Rattle.std.proofs.lemmas.Bool.Decides.{nat_tests}
use Rattle.c2po_lexer.proofs.Names.{IsWord, piece_word}
use Rattle.show_roundtrip.specs.Written.{IsToken}
use Rattle.c2po_lexer.specs.declared.token.Token.{Token}
use Rattle.c2po_lexer.specs.declared.token.What.{What}
use Rattle.c2po_lexer.specs.declared.token.What.TheVariants as what
use Rattle.c2po_lexer.specs.declared.token.Keyword.{Keyword}
use Rattle.c2po_lexer.specs.declared.fault.LexFault.{LexFault}
use Rattle.c2po_lexer.specs.declared.front.Front.{Front}
use Rattle.c2po_lexer.specs.declared.front.Front.TheVariants as front

abbrev GoodReading : Result (Option What) LexFault → Type 0
GoodReading r = IfOk r (λ w. IfSome w IsToken)

short_enough : (n : ℕ) → nat_lt 64 n ≡ false → n ≤ 64
short_enough n h = grind (arith, nat_tests)

small_enough : (n : ℕ) → nat_lt 9223372036854775807 n ≡ false → n ≤ 9223372036854775807
small_enough n h = grind (arith, nat_tests)

good_word : (long : Bool) (k : Option Keyword) (bytes : List ℕ) (fault : LexFault) → nat_lt 64 (length bytes) ≡ long → keyword_of bytes ≡ k → (begins_word (slice_index bytes 0) ≡ true) × AllPass is_in_word bytes
    → GoodReading (result_map Some (if long then Err fault else Ok (reserved_or_name bytes k)))
good_word false None bytes fault long free word = record { begins = word.0; word = word.1; short = short_enough (length bytes) long; free = free }
good_word _ _ bytes fault long free word = tt

good_number : (large : Bool) (value : ℕ) (fault : LexFault) → nat_lt 9223372036854775807 value ≡ large → GoodReading (result_map Some (if large then Err fault else Ok (what.Number (pos value))))
good_number true value fault e = tt
good_number false value fault e = small_enough value e

what_good : (line : ℕ) (f : Front) (bytes : List ℕ) → IsWord f bytes → GoodReading (what_of line f bytes)
what_good line (front.Word n) bytes word = good_word (nat_lt 64 (length bytes)) (keyword_of bytes) bytes _ refl refl word
what_good line (front.Digits n) bytes word = good_number (nat_lt 9223372036854775807 (digits_value 10 bytes)) (digits_value 10 bytes) _ refl
what_good line _ bytes word = tt

abbrev GoodTokens : Result (List Token) LexFault → Type 0
GoodTokens r = IfOk r (All (λ t. IsToken t.what))

before_good : (token : What → Token) → ((w : What) → (token w).what ≡ w) → (r : Result (Option What) LexFault) (rest : Result (List Token) LexFault) → GoodReading r → GoodTokens rest → GoodTokens (comes_first (result_map (option_map token) r) rest)
before_good token same (Ok None) rest plain others = others
before_good token same (Ok (Some w)) (Ok ts) plain others =
    All-cons (λ t. IsToken t.what) (token w) ts (subst IsToken (sym (same w)) plain) others
before_good token same _ _ plain others = tt

pieces_good : (text : List ℕ) (k s : ℕ) (xs : List ℕ) → GoodTokens (all_of (map (read_piece text) (pieces_from k s xs)))
unfolding pieces_from all_of
pieces_good text zero s [] = λ k d inside. absurd (omega arith)
pieces_good text (suc k) s [] = λ k d inside. absurd (omega arith)
pieces_good text (suc k) s (x ∷ xs) = pieces_good text k (suc s) xs
pieces_good text zero s (x ∷ xs) =
    before_good (token_of text (piece_at s (x ∷ xs))) (λ w. refl) (what_of (line_at text s) (front_of (x ∷ xs)) (take (size_of (front_of (x ∷ xs))) (x ∷ xs)))
    (all_of (map (read_piece text) (pieces_from (size_of (front_of (x ∷ xs)) - 1) (suc s) xs)))
    (what_good (line_at text s) (front_of (x ∷ xs)) (take (size_of (front_of (x ∷ xs))) (x ∷ xs)) (piece_word (x ∷ xs)))
    (pieces_good text (size_of (front_of (x ∷ xs)) - 1) (suc s) xs)

pub tokens_good : (text : List ℕ) (ts : List Token) → tokens_of text ≡ Ok ts → All (λ t. IsToken t.what) ts
unfolding tokens_of
tokens_good text ts e = subst GoodTokens e (pieces_good text 0 0 text)
