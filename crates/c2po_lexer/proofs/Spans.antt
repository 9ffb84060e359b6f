-- The tokens of a text stand in order, and each has a byte or more.
use Rattle.std.proofs.Common.{◌≡◌, ℕ, ◌+◌, ◌-◌, ◌<◌, ◌≤◌, zero, suc, Bool, true, false, cond, if◌then◌else◌, List, [], ◌∷◌, length, take, map, Option, Some, None, option_map, Result, Ok, Err, IfOk, refl, ap, sym, subst, arith}
use Rattle.std.specs.Prelude.{nat_eq, nat_le, codes, slice_index, ◌&&◌, find}
use Rattle.std.specs.List.{prefix_len, starts_with, list_all}
use Rattle.std.specs.Char.{is_ascii_digit}
use Rattle.std.proofs.lemmas.List.{length-take-le}
use Rattle.std.proofs.lemmas.List.Sums.{prefix_len-le-length}
use Rattle.std.proofs.lemmas.Bool.Decides.{nat_tests}
use Rattle.c2po_lexer.proofs.Fronts.{size_of_sign}
use Rattle.c2po_lexer.specs.Spelling.{sign_at, sign_text, signs}
use Rattle.mltl_base.specs.Letters.{is_in_word}
use Rattle.c2po_lexer.specs.Cut.{is_white, begins_word, is_in_line, sign_or_stray, front_of, size_of, piece_at, pieces_from}
use Rattle.c2po_lexer.specs.Tokens.{TokensAreInOrder, line_at, what_of, read_piece, result_map, comes_first, all_of, tokens_of, token_of}
use Rattle.c2po_lexer.specs.declared.token.Token.{Token}
use Rattle.c2po_lexer.specs.declared.token.What.{What}
use Rattle.c2po_lexer.specs.declared.token.Sign.{Sign}
use Rattle.c2po_lexer.specs.declared.fault.LexFault.{LexFault}
use Rattle.c2po_lexer.specs.declared.front.Front.{Front}
use Rattle.c2po_lexer.specs.declared.front.Front.TheVariants as front

prefix_len_some : (p : ℕ → Bool) (text : List ℕ) → 0 < length text → p (slice_index text 0) ≡ true → 1 ≤ prefix_len p text
prefix_len_some p [] some first = absurd (omega arith)
prefix_len_some p (x ∷ xs) some first = rw first (omega arith)

in_line : (b : ℕ) → is_white b ≡ false → is_in_line b ≡ true
in_line b h = grind (arith, nat_tests)

pub in_word : (b : ℕ) → begins_word b ≡ true → is_in_word b ≡ true
in_word b h = grind (arith, nat_tests)

some_step : (p q : Sign → Bool) (y : Sign) (ys : List Sign) (x : Sign) → (find p ys ≡ Some x → list_all q ys ≡ true → q x ≡ true) → (b : Bool) → cond b (Some y) (find p ys) ≡ Some x → (c : Bool) → q y ≡ c → (c && list_all q ys) ≡ true → q x ≡ true
some_step p q y ys x rest true e true qy all = cc
some_step p q y ys x rest false e true qy all = rest e all
some_step p q y ys x rest b e false qy all = cc

-- what all members pass, the one that is found passes
found_too : (p q : Sign → Bool) (xs : List Sign) (x : Sign) → find p xs ≡ Some x → list_all q xs ≡ true → q x ≡ true
found_too p q [] x e all = cc
found_too p q (y ∷ ys) x e all = some_step p q y ys x (found_too p q ys x) (p y) e (q y) refl all

some_sign : (text : List ℕ) (s : Sign) → sign_at text ≡ Some s → 1 ≤ length (sign_text s)
some_sign text s e = grind (arith, nat_tests, found_too (λ t. starts_with nat_eq text (sign_text t)) (λ t. nat_le 1 (length (sign_text t))) signs s e refl)

-- a piece has a byte or more, and no more than the text
abbrev pub IsSized : List ℕ → Front → Type 0
IsSized text f = (1 ≤ size_of f) × (size_of f ≤ length text)

sign_sized : (text : List ℕ) → 0 < length text → (s : Option Sign) → sign_at text ≡ s → IsSized text (sign_or_stray s)
sign_sized text some (Some s) e = (some_sign text s e, size_of_sign text s e)
sign_sized text some None e = (omega arith, omega arith)

run_sized : (p : ℕ → Bool) (text : List ℕ) → 0 < length text → p (slice_index text 0) ≡ true → (1 ≤ prefix_len p text) × (prefix_len p text ≤ length text)
run_sized p text some first = (prefix_len_some p text some first, prefix_len-le-length p text)

front_sized : (text : List ℕ) → 0 < length text → (blank comment word digit : Bool)
    → is_white (slice_index text 0) ≡ blank → begins_word (slice_index text 0) ≡ word → is_ascii_digit (slice_index text 0) ≡ digit
    → IsSized text (if blank then front.Blank else (if comment then front.Comment (prefix_len is_in_line text) else (if word then front.Word (prefix_len is_in_word text) else (if digit then front.Digits (prefix_len is_ascii_digit text) else sign_or_stray (sign_at text)))))
front_sized text some true comment word digit b w d = (omega arith, omega arith)
front_sized text some false true word digit b w d = run_sized is_in_line text some (in_line (slice_index text 0) b)
front_sized text some false false true digit b w d = run_sized is_in_word text some (in_word (slice_index text 0) w)
front_sized text some false false false true b w d = run_sized is_ascii_digit text some d
front_sized text some false false false false b w d = sign_sized text some (sign_at text) refl

pub piece_sized : (text : List ℕ) → 0 < length text → IsSized text (front_of text)
unfolding front_of
piece_sized text some =
    front_sized text some (is_white (slice_index text 0)) (starts_with nat_eq text (codes "--")) (begins_word (slice_index text 0)) (is_ascii_digit (slice_index text 0)) refl refl refl

abbrev pub OrderedTokens : (from to : ℕ) → Result (List Token) LexFault → Type 0
OrderedTokens from to r = IfOk r (TokensAreInOrder from to)

earlier : (from start to : ℕ) (ts : List Token) → from ≤ start → TokensAreInOrder start to ts → TokensAreInOrder from to ts
earlier from start to [] comes_first order = omega arith
earlier from start to (t ∷ ts) comes_first order = (omega arith, order.1, order.2)

before_ordered : (from next to : ℕ) (token : What → Token) → ((w : What) → (token w).start ≡ from) → ((w : What) → (token w).end ≡ next) → from < next
    → (r : Result (Option What) LexFault) (rest : Result (List Token) LexFault) → OrderedTokens next to rest → OrderedTokens from to (comes_first (result_map (option_map token) r) rest)
before_ordered from next to token at past more (Err f) rest others = tt
before_ordered from next to token at past more (Ok None) (Err f) others = tt
before_ordered from next to token at past more (Ok None) (Ok ts) others = earlier from next to ts (omega arith) others
before_ordered from next to token at past more (Ok (Some w)) (Err f) others = tt
before_ordered from next to token at past more (Ok (Some w)) (Ok ts) others =
    (omega (arith, at w), omega (arith, at w, past w), subst (λ n. TokensAreInOrder n to ts) (sym (past w)) others)

ordered_at : (a b c d : ℕ) (r : Result (List Token) LexFault) → a ≡ b → c ≡ d → OrderedTokens a c r → OrderedTokens b d r
ordered_at a b c d r e f order = subst (λ n. OrderedTokens b n r) f (subst (λ n. OrderedTokens n c r) e order)

pieces_ordered : (text : List ℕ) (k s : ℕ) (xs : List ℕ) → k ≤ length xs → OrderedTokens (s + k) (s + length xs) (all_of (map (read_piece text) (pieces_from k s xs)))
unfolding pieces_from all_of
pieces_ordered text zero s [] inside = omega arith
pieces_ordered text (suc k) s [] inside = absurd (omega arith)
pieces_ordered text (suc k) s (x ∷ xs) inside =
    ordered_at (suc s + k) (s + suc k) (suc s + length xs) (s + suc (length xs)) (all_of (map (read_piece text) (pieces_from k (suc s) xs)))
    (omega arith) (omega arith) (pieces_ordered text k (suc s) xs (omega arith))
pieces_ordered text zero s (x ∷ xs) inside =
    let sized : IsSized (x ∷ xs) (front_of (x ∷ xs)) = piece_sized (x ∷ xs) (omega arith) in
    let whole : length (take (size_of (front_of (x ∷ xs))) (x ∷ xs)) ≡ size_of (front_of (x ∷ xs)) = length-take-le (size_of (front_of (x ∷ xs))) (x ∷ xs) sized.1 in
    let rest = all_of (map (read_piece text) (pieces_from (size_of (front_of (x ∷ xs)) - 1) (suc s) xs)) in
    let others : OrderedTokens (s + size_of (front_of (x ∷ xs))) (s + suc (length xs)) rest =
    ordered_at (suc s + (size_of (front_of (x ∷ xs)) - 1)) (s + size_of (front_of (x ∷ xs))) (suc s + length xs) (s + suc (length xs)) rest
    (omega (arith, sized.0)) (omega arith) (pieces_ordered text (size_of (front_of (x ∷ xs)) - 1) (suc s) xs (omega (arith, sized.0, sized.1))) in
    let begin : s ≡ s + 0 = omega arith in
    subst (λ n. OrderedTokens n (s + suc (length xs)) (comes_first (read_piece text (piece_at s (x ∷ xs))) rest)) begin
    (before_ordered s (s + size_of (front_of (x ∷ xs))) (s + suc (length xs)) (token_of text (piece_at s (x ∷ xs))) (λ w. refl) (λ w. ap (λ n. s + n) whole) (omega (arith, sized.0))
    (what_of (line_at text s) (front_of (x ∷ xs)) (take (size_of (front_of (x ∷ xs))) (x ∷ xs))) rest others)

pub tokens_ordered : (text : List ℕ) (ts : List Token) → tokens_of text ≡ Ok ts → TokensAreInOrder 0 (length text) ts
unfolding tokens_of
tokens_ordered text ts e =
    subst (OrderedTokens 0 (length text)) e
    (ordered_at (0 + 0) 0 (0 + length text) (length text) (all_of (map (read_piece text) (pieces_from 0 0 text))) (omega arith) (omega arith)
    (pieces_ordered text 0 0 text (omega arith)))
