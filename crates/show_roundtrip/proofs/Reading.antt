-- The tokens of a written text are those that were written.

use Rattle.std.proofs.Common.{◌≡◌, ◌∙◌, ℕ, pos, negsuc, ◌+◌, ◌<◌, ◌≤◌, ◌^◌, Bool, true, false, not, List, [], ◌∷◌, ◌++◌, length, take, drop, Option, Some, None, option_map, Result, Ok, refl, ap, sym, subst, arith, count_by, nat_lt}
use Rattle.std.specs.Prelude.{nat_eq, codes, slice_index, decimal, ◌==◌, ◌||◌}
use Rattle.std.specs.List.{prefix_len, starts_with, list_all}
use Rattle.std.specs.Char.{is_ascii_digit}
use Rattle.std.specs.Str.{all_ascii_digits}
use Rattle.std.specs.Str.Parse.{digits_value}
use Rattle.std.proofs.lemmas.Bool.{and_parts}
use Rattle.std.proofs.lemmas.Bool.Decides.{nat_tests}
use Rattle.std.proofs.lemmas.List.{drop-drop, length-drop, length-append}
use Rattle.std.proofs.Math.Seq.{take-append_seam, drop-append_seam}
use Rattle.std.proofs.lemmas.List.Sums.{list_all-from_AllPass}
use Rattle.c2po_lexer.proofs.Steps.{tokens_from, tokens_step, tokens_begin, onto, line_at-add}
use Rattle.std.proofs.lemmas.Fmt.{decimal_nonempty, digits_decimal, digits_value-decimal}
use Rattle.std.proofs.lemmas.Str.Parse.{IsNumeralModel, numerals_by_value, tells_all_ascii_digits}
use Rattle.c2po_lexer.specs.Spelling.{keyword_text, keyword_of, sign_text}
use Rattle.mltl_base.specs.Letters.{is_in_word}
use Rattle.c2po_lexer.specs.Cut.{is_white, begins_word, front_of, size_of, piece_at, pieces_from}
use Rattle.c2po_lexer.specs.Tokens.{what_of, reserved_or_name, line_at, read_piece, token_at, size_at, comes_first, all_of, tokens_of, result_map}
use Rattle.c2po_lexer.specs.declared.token.Keyword.{Keyword}
use Rattle.c2po_lexer.specs.declared.token.Keyword.TheVariants as keyword
use Rattle.c2po_lexer.specs.declared.token.Sign.{Sign}
use Rattle.c2po_lexer.specs.declared.token.Sign.TheVariants as sign
use Rattle.c2po_lexer.specs.declared.token.What.{What}
use Rattle.c2po_lexer.specs.declared.token.What.TheVariants as what
use Rattle.c2po_lexer.specs.declared.front.Front.{Front}
use Rattle.c2po_lexer.specs.declared.front.Front.TheVariants as front
use Rattle.c2po_lexer.specs.declared.token.Token.{Token}
use Rattle.c2po_lexer.specs.declared.fault.LexFault.{LexFault}
use Rattle.show_roundtrip.proofs.Formed.{not_true}
use Rattle.show_roundtrip.specs.Written.{Mark, token, space, newline, IsName, IsToken, Ends, token_text, ends_before, MarksAreReadable, tokens_by, marks_text}

-- a run that a further byte ends
run_ends : (p : ℕ → Bool) (xs : List ℕ) (b : ℕ) (rest : List ℕ) → list_all p xs ≡ true → p b ≡ false → prefix_len p (xs ++ b ∷ rest) ≡ length xs
run_ends p [] b rest all stop = rw stop refl
run_ends p (x ∷ xs) b rest all stop =
    let parts : (p x ≡ true) × (list_all p xs ≡ true) = and_parts (p x) (list_all p xs) all in
    rw parts.0 (rw (run_ends p xs b rest parts.1 stop) (omega arith))

-- a keyword is a word
keyword_begins : (k : Keyword) → begins_word (slice_index (keyword_text k) 0) ≡ true
keyword_begins keyword.Struct = refl
keyword_begins _ = refl

-- what is known of a keyword's letters
abbrev pub IsWordOf : List ℕ → Option Keyword → Type 0
IsWordOf w k = (list_all is_in_word w ≡ true) × (nat_lt 64 (length w) ≡ false) × (keyword_of w ≡ k)

keyword_word : (k : Keyword) → IsWordOf (keyword_text k) (Some k)
keyword_word keyword.Struct = (refl, refl, refl)
keyword_word _ = (refl, refl, refl)

-- a text that begins with a word, and with digits
front_is_word : (text : List ℕ) → is_white (slice_index text 0) ≡ false → starts_with nat_eq text (codes "--") ≡ false → begins_word (slice_index text 0) ≡ true → front_of text ≡ front.Word (prefix_len is_in_word text)
unfolding front_of
front_is_word text a b c = rw a (rw b (rw c refl))

front_is_digits : (text : List ℕ) → is_white (slice_index text 0) ≡ false → starts_with nat_eq text (codes "--") ≡ false → begins_word (slice_index text 0) ≡ false → is_ascii_digit (slice_index text 0) ≡ true → front_of text ≡ front.Digits (prefix_len is_ascii_digit text)
unfolding front_of
front_is_digits text a b c d = rw a (rw b (rw c (rw d refl)))

no_comment : (c : ℕ) (text : List ℕ) → nat_eq 45 c ≡ false → starts_with nat_eq (c ∷ text) (codes "--") ≡ false
no_comment c text e = rw e refl

word_no_blank : (c : ℕ) → begins_word c ≡ true → is_white c ≡ false
word_no_blank c h = grind (arith, nat_tests)

word_no_dash : (c : ℕ) → begins_word c ≡ true → nat_eq 45 c ≡ false
word_no_dash c h = grind (arith, nat_tests)

digit_no_blank : (c : ℕ) → is_ascii_digit c ≡ true → is_white c ≡ false
digit_no_blank c h = grind (arith, nat_tests)

digit_no_dash : (c : ℕ) → is_ascii_digit c ≡ true → nat_eq 45 c ≡ false
digit_no_dash c h = grind (arith, nat_tests)

digit_no_word : (c : ℕ) → is_ascii_digit c ≡ true → begins_word c ≡ false
digit_no_word c h = grind (arith, nat_tests)

-- what stands at the front of a text, and the token that it is
pub record Reads (o : Option What) (breaks : ℕ) (bytes tail : List ℕ) : Type 0 where
  pub kind : Front
  pub front : front_of (bytes ++ tail) ≡ kind
  pub size : size_of kind ≡ length bytes
  pub some : 1 ≤ length bytes
  pub lines : count_by (λ b. b == 10) bytes ≡ breaks
  pub token : (line : ℕ) → what_of line kind bytes ≡ Ok o

no_newline : (b : ℕ) → is_in_word b ≡ true → (b == 10) ≡ false
no_newline b h = grind (arith, nat_tests)

digit_in_word : (b : ℕ) → is_ascii_digit b ≡ true → is_in_word b ≡ true
digit_in_word b h = grind (arith, nat_tests)

-- words have no ends of lines
no_newlines : (w : List ℕ) → list_all is_in_word w ≡ true → count_by (λ b. b == 10) w ≡ 0
no_newlines [] all = refl
no_newlines (c ∷ w) all =
    let parts : (is_in_word c ≡ true) × (list_all is_in_word w ≡ true) = and_parts (is_in_word c) (list_all is_in_word w) all in
    rw (no_newline c parts.0) (no_newlines w parts.1)

pub digits_in_word : (w : List ℕ) → all_ascii_digits w ≡ true → list_all is_in_word w ≡ true
digits_in_word [] all = refl
digits_in_word (c ∷ w) all =
    let parts : (is_ascii_digit c ≡ true) × (all_ascii_digits w ≡ true) = and_parts (is_ascii_digit c) (all_ascii_digits w) all in
    rw (digit_in_word c parts.0) (digits_in_word w parts.1)

word_what : (line : ℕ) (w : List ℕ) (k : Option Keyword) → IsWordOf w k → what_of line (front.Word (length w)) w ≡ Ok (Some (reserved_or_name w k))
word_what line w k h = rw h.1 (rw h.2 refl)

reads_word : (w : List ℕ) (k : Option Keyword) (b : ℕ) (tail : List ℕ) → begins_word (slice_index w 0) ≡ true → IsWordOf w k → is_in_word b ≡ false → Reads (Some (reserved_or_name w k)) 0 w (b ∷ tail)
reads_word [] k b tail begins h stop = absurd (cc)
reads_word (c ∷ w) k b tail begins h stop =
    let run : prefix_len is_in_word ((c ∷ w) ++ b ∷ tail) ≡ length (c ∷ w) = run_ends is_in_word (c ∷ w) b tail h.0 stop in
    record {
      kind = front.Word (length (c ∷ w));
      front = front_is_word ((c ∷ w) ++ b ∷ tail) (word_no_blank c begins) (no_comment c (w ++ b ∷ tail) (word_no_dash c begins)) begins ∙ ap front.Word run;
      size = refl;
      some = omega arith;
      lines = no_newlines (c ∷ w) h.0;
      token = λ line. word_what line (c ∷ w) k h;
    }

short_test : (n : ℕ) → n ≤ 64 → nat_lt 64 n ≡ false
short_test n h = grind (arith, nat_tests)

name_word : (x : List ℕ) → IsName x → IsWordOf x None
name_word x h = (list_all-from_AllPass is_in_word x h.word, short_test (length x) h.short, h.free)

-- numbers
pub decimals : IsNumeralModel (λ ds. all_ascii_digits ds ≡ true) (digits_value 10)
decimals = numerals_by_value _ tells_all_ascii_digits

limit_test : (n : ℕ) → n ≤ 9223372036854775807 → nat_lt 9223372036854775807 n ≡ false
limit_test n h = grind (arith, nat_tests)

number_what : (line n : ℕ) (ds : List ℕ) → digits_value 10 ds ≡ n → nat_lt 9223372036854775807 n ≡ false → what_of line (front.Digits (length ds)) ds ≡ Ok (Some (what.Number (pos n)))
number_what line n ds e h = rw e (rw h refl)

reads_digits : (n : ℕ) (ds : List ℕ) (b : ℕ) (tail : List ℕ) → 0 < length ds → all_ascii_digits ds ≡ true → digits_value 10 ds ≡ n → n ≤ 9223372036854775807 → is_ascii_digit b ≡ false → Reads (Some (what.Number (pos n))) 0 ds (b ∷ tail)
reads_digits n [] b tail some all e small stop = absurd (omega arith)
reads_digits n (c ∷ ds) b tail some all e small stop =
    let parts : (is_ascii_digit c ≡ true) × (all_ascii_digits ds ≡ true) = and_parts (is_ascii_digit c) (all_ascii_digits ds) all in
    let run : prefix_len is_ascii_digit ((c ∷ ds) ++ b ∷ tail) ≡ length (c ∷ ds) = run_ends is_ascii_digit (c ∷ ds) b tail all stop in
    record {
      kind = front.Digits (length (c ∷ ds));
      front = front_is_digits ((c ∷ ds) ++ b ∷ tail) (digit_no_blank c parts.0) (no_comment c (ds ++ b ∷ tail) (digit_no_dash c parts.0)) (digit_no_word c parts.0) parts.0 ∙ ap front.Digits run;
      size = refl;
      some = omega arith;
      lines = no_newlines (c ∷ ds) (digits_in_word (c ∷ ds) all);
      token = λ line. number_what line n (c ∷ ds) e (limit_test n small);
    }

reads_number : (n b : ℕ) (tail : List ℕ) → n ≤ 9223372036854775807 → is_ascii_digit b ≡ false → Reads (Some (what.Number (pos n))) 0 (decimal n) (b ∷ tail)
reads_number n b tail small stop =
    let fits : n < 2 ^ 64 = omega arith in
    reads_digits n (decimal n) b tail (decimal_nonempty n fits) (digits_decimal decimals n fits) (digits_value-decimal decimals n fits) small stop

-- signs
-- two tests that fail
both_fail : (b m n : ℕ) → not (b == m || b == n) ≡ true → (nat_eq m b ≡ false) × (nat_eq n b ≡ false)
both_fail b m n h = (grind (arith, nat_tests), grind (arith, nat_tests))

one_fails : (b m : ℕ) → not (b == m) ≡ true → nat_eq m b ≡ false
one_fails b m h = grind (arith, nat_tests)

front_sign : (s : Sign) (b : ℕ) (tail : List ℕ) → ends_before s b ≡ true → front_of (sign_text s ++ b ∷ tail) ≡ front.Sign s
unfolding front_of
front_sign sign.Colon b tail h = rw (one_fails b 61 h) refl
front_sign sign.Bang b tail h = rw (one_fails b 61 h) refl
front_sign sign.Less b tail h = let f = both_fail b 61 45 h in rw f.0 (rw f.1 refl)
front_sign sign.Greater b tail h = rw (one_fails b 61 h) refl
front_sign sign.Minus b tail h = let f = both_fail b 62 45 h in rw f.0 (rw f.1 refl)
front_sign _ b tail h = refl

sign_size : (s : Sign) → (1 ≤ length (sign_text s)) × (count_by (λ b. b == 10) (sign_text s) ≡ 0)
sign_size sign.Iff = (omega arith, refl)
sign_size _ = (omega arith, refl)

reads_sign : (s : Sign) (b : ℕ) (tail : List ℕ) → ends_before s b ≡ true → Reads (Some (what.Sign s)) 0 (sign_text s) (b ∷ tail)
reads_sign s b tail h =
    record { kind = front.Sign s; front = front_sign s b tail h; size = refl; some = (sign_size s).0; lines = (sign_size s).1; token = λ line. refl }

reads_blank : (tail : List ℕ) → Reads None 0 (32 ∷ []) tail
unfolding front_of
reads_blank tail = record { kind = front.Blank; front = refl; size = refl; some = omega arith; lines = refl; token = λ line. refl }

reads_break : (tail : List ℕ) → Reads None 1 (10 ∷ []) tail
unfolding front_of
reads_break tail = record { kind = front.Blank; front = refl; size = refl; some = omega arith; lines = refl; token = λ line. refl }

reads_token : (w : What) (tail : List ℕ) → IsToken w → Ends w tail → Reads (Some w) 0 (token_text w) tail
reads_token w [] h ends = absurd ends
reads_token (what.Word x) (b ∷ tail) h ends = reads_word x None b tail h.begins (name_word x h) (not_true (is_in_word b) ends)
reads_token (what.Reserved k) (b ∷ tail) h ends = reads_word (keyword_text k) (Some k) b tail (keyword_begins k) (keyword_word k) (not_true (is_in_word b) ends)
reads_token (what.Number (pos n)) (b ∷ tail) h ends = reads_number n b tail h (not_true (is_ascii_digit b) ends)
reads_token (what.Number (negsuc n)) (b ∷ tail) h ends = absurd h
reads_token (what.Sign s) (b ∷ tail) h ends = reads_sign s b tail ends

-- a place in a text: its line, and what follows
pub record At (text : List ℕ) (start line : ℕ) (rest : List ℕ) : Type 0 where
  pub here : drop start text ≡ rest
  pub line_is : line_at text start ≡ line

take_front : (xs ys : List ℕ) → take (length xs) (xs ++ ys) ≡ xs
take_front xs ys = take-append_seam xs ys

drop_front : (xs ys : List ℕ) → drop (length xs) (xs ++ ys) ≡ ys
drop_front xs ys = drop-append_seam xs ys

at_next : (text : List ℕ) (start line breaks : ℕ) (bytes tail : List ℕ) → At text start line (bytes ++ tail) → count_by (λ b. b == 10) bytes ≡ breaks → At text (start + length bytes) (line + breaks) tail
at_next text start line breaks bytes tail at lines = record {
  here = sym (drop-drop (length bytes) start text) ∙ ap (λ xs. drop (length bytes) xs) at.here ∙ drop_front bytes tail;
  line_is = line_at-add text start (length bytes) ∙ ap (λ xs. line_at text start + count_by (λ b. b == 10) (take (length bytes) xs)) at.here
      ∙ ap (λ xs. line_at text start + count_by (λ b. b == 10) xs) (take_front bytes tail) ∙ ap (λ n. line_at text start + n) lines ∙ ap (λ n. n + breaks) at.line_is;
}

-- the token of a piece, where it is one
abbrev pub piece_token : (line start end : ℕ) → Option What → Option Token
piece_token line start end o = option_map (λ w. record { what = w; line = line; start = start; end = end }) o

reading_is : (text : List ℕ) (start line breaks : ℕ) (o : Option What) (bytes tail : List ℕ) → At text start line (bytes ++ tail) → Reads o breaks bytes tail
    → token_at text start ≡ Ok (piece_token line start (start + length bytes) o)
reading_is text start line breaks o bytes tail at r =
    let cut : take (size_of (front_of (bytes ++ tail))) (bytes ++ tail) ≡ bytes = ap (λ f. take (size_of f) (bytes ++ tail)) r.front ∙ ap (λ n. take n (bytes ++ tail)) r.size ∙ take_front bytes tail in
    ap (λ rest. read_piece text (piece_at start rest)) at.here
    ∙ ap (λ bs. read_piece text (record { front = front_of (bytes ++ tail); start = start; bytes = bs })) cut
    ∙ ap (λ f. read_piece text (record { front = f; start = start; bytes = bytes })) r.front
    ∙ ap (λ l. result_map (option_map (λ w. record { what = w; line = l; start = start; end = start + length bytes })) (what_of l r.kind bytes)) at.line_is
    ∙ ap (λ res. result_map (option_map (λ w. record { what = w; line = line; start = start; end = start + length bytes })) res) (r.token line)

step : (text : List ℕ) (start line breaks : ℕ) (o : Option What) (bytes tail : List ℕ) → At text start line (bytes ++ tail) → Reads o breaks bytes tail
    → tokens_from text start ≡ comes_first (Ok (piece_token line start (start + length bytes) o)) (tokens_from text (start + length bytes))
step text start line breaks o bytes tail at r =
    let size : size_at text start ≡ length bytes = ap (λ rest. size_of (front_of rest)) at.here ∙ ap size_of r.front ∙ r.size in
    let some : 1 ≤ size_at text start = omega (arith, size, r.some) in
    let more : start < length text = omega (arith, length-drop start text, ap length at.here, length-append bytes tail, r.some) in
    tokens_step text start more some
    ∙ ap (λ n. comes_first (token_at text start) (tokens_from text (start + n))) size
    ∙ ap (λ res. comes_first res (tokens_from text (start + length bytes))) (reading_is text start line breaks o bytes tail at r)

at_end : (text : List ℕ) (start : ℕ) → drop start text ≡ [] → tokens_from text start ≡ Ok []
unfolding tokens_from all_of pieces_from
at_end text start none = rw none refl

tokens_written : (text : List ℕ) (start line : ℕ) (marks : List Mark) → At text start line (marks_text marks) → MarksAreReadable marks → tokens_from text start ≡ Ok (tokens_by line start marks)
unfolding tokens_by MarksAreReadable
tokens_written text start line [] at h = at_end text start at.here
tokens_written text start line (token w ∷ marks) at h =
    let r : Reads (Some w) 0 (token_text w) (marks_text marks) = reads_token w (marks_text marks) h.0 h.1 in
    let next : At text (start + length (token_text w)) (line + 0) (marks_text marks) = at_next text start line 0 (token_text w) (marks_text marks) at r.lines in
    let same : line + 0 ≡ line = omega arith in
    step text start line 0 (Some w) (token_text w) (marks_text marks) at r
    ∙ ap (λ rest. comes_first (Ok (piece_token line start (start + length (token_text w)) (Some w))) rest)
    (tokens_written text (start + length (token_text w)) line marks (subst (λ n. At text (start + length (token_text w)) n (marks_text marks)) same next) h.2)
tokens_written text start line (space ∷ marks) at h =
    let r : Reads None 0 (32 ∷ []) (marks_text marks) = reads_blank (marks_text marks) in
    let next : At text (start + 1) (line + 0) (marks_text marks) = at_next text start line 0 (32 ∷ []) (marks_text marks) at r.lines in
    let same : line + 0 ≡ line = omega arith in
    step text start line 0 None (32 ∷ []) (marks_text marks) at r
    ∙ tokens_written text (start + 1) line marks (subst (λ n. At text (start + 1) n (marks_text marks)) same next) h
tokens_written text start line (newline ∷ marks) at h =
    let r : Reads None 1 (10 ∷ []) (marks_text marks) = reads_break (marks_text marks) in
    step text start line 1 None (10 ∷ []) (marks_text marks) at r
    ∙ tokens_written text (start + 1) (line + 1) marks (at_next text start line 1 (10 ∷ []) (marks_text marks) at r.lines) h

onto_none : (rest : Result (List Token) LexFault) (ts : List Token) → rest ≡ Ok ts → onto [] rest ≡ Ok ts
onto_none rest ts e = ap (λ r. onto [] r) e

pub written_tokens : (marks : List Mark) → MarksAreReadable marks → tokens_of (marks_text marks) ≡ Ok (tokens_by 1 0 marks)
written_tokens marks h =
    tokens_begin (marks_text marks)
    ∙ onto_none (tokens_from (marks_text marks) 0) (tokens_by 1 0 marks) (tokens_written (marks_text marks) 0 1 marks (record { here = refl; line_is = refl }) h)
