-- One step of reading: the piece at a place, then the tokens from the next place on.
use Rattle.std.proofs.Common.{◌≡◌, ℕ, ◌+◌, ◌-◌, ◌<◌, ◌≤◌, zero, suc, List, [], ◌∷◌, ◌++◌, length, take, drop, map, count_by, Option, Some, None, Result, Ok, Err, ◌==◌, if◌then◌else◌, option_to_list, refl, sym, ◌∙◌, ap, append_assoc, arith}
use Rattle.std.proofs.lemmas.List.{drop-drop, length-drop, length-take-le, drop_all, append-nil}
use Rattle.std.proofs.Math.Seq.{take-add}
use Rattle.std.proofs.lemmas.List.Sums.{sum_by-append}
use Rattle.c2po_lexer.specs.Cut.{front_of, size_of, piece_at, pieces_from}
use Rattle.c2po_lexer.specs.Tokens.{IsAfter, line_at, read_piece, token_at, size_at, comes_first, all_of, tokens_of, result_map}
use Rattle.c2po_lexer.specs.declared.token.Token.{Token}
use Rattle.c2po_lexer.specs.declared.fault.LexFault.{LexFault}

-- bytes that belong to the piece before are passed over
pub pieces_past : (k s : ℕ) (xs : List ℕ) → pieces_from k s xs ≡ pieces_from 0 (s + k) (drop k xs)
unfolding pieces_from
pieces_past zero s [] = refl
pieces_past (suc k) s [] = refl
pieces_past zero s (x ∷ xs) =
    let same : s ≡ s + 0 = omega arith in
    ap (λ t. pieces_from 0 t (x ∷ xs)) same
pieces_past (suc k) s (x ∷ xs) =
    let same : suc s + k ≡ s + suc k = omega arith in
    pieces_past k (suc s) xs ∙ ap (λ t. pieces_from 0 t (drop k xs)) same

pieces_next : (s k x : ℕ) (xs : List ℕ) → 1 ≤ k → pieces_from (k - 1) (suc s) xs ≡ pieces_from 0 (s + k) (drop k (x ∷ xs))
pieces_next s zero x xs size = absurd (omega arith)
pieces_next s (suc k) x xs size =
    let less : suc k - 1 ≡ k = omega arith in
    let same : suc s + k ≡ s + suc k = omega arith in
    ap (λ t. pieces_from t (suc s) xs) less ∙ pieces_past k (suc s) xs ∙ ap (λ t. pieces_from 0 t (drop k xs)) same

-- the pieces of a text that has one: the first, then those after it
pub pieces_step : (s : ℕ) (xs : List ℕ) → 0 < length xs → 1 ≤ size_of (front_of xs) → pieces_from 0 s xs ≡ piece_at s xs ∷ pieces_from 0 (s + size_of (front_of xs)) (drop (size_of (front_of xs)) xs)
unfolding pieces_from
pieces_step s [] some size = absurd (omega arith)
pieces_step s (x ∷ xs) some size = ap (λ ps. piece_at s (x ∷ xs) ∷ ps) (pieces_next s (size_of (front_of (x ∷ xs))) x xs size)

-- a line, after more bytes
pub line_at-add : (text : List ℕ) (start n : ℕ) → line_at text (start + n) ≡ line_at text start + count_by (λ b. b == 10) (take n (drop start text))
line_at-add text start n =
    let cut : take (start + n) text ≡ take start text ++ take n (drop start text) = take-add start n text in
    let joined = sum_by-append (λ b. if b == 10 then 1 else 0) (take start text) (take n (drop start text)) in
    rw cut (omega (arith, joined))

-- the line after a piece
line_past : (text : List ℕ) (start size line count : ℕ) (rest : List ℕ) → rest ≡ drop start text → size ≤ length rest → line ≡ line_at text start → count ≡ count_by (λ b. b == 10) (take size rest) → line + count ≡ line_at text (start + length (take size rest))
line_past text start size line count rest e inside l k =
    let n : length (take size rest) ≡ size = length-take-le size rest inside in
    let past = line_at-add text start size in
    cc

-- the place after a piece
pub after_piece : (text : List ℕ) (start size line count : ℕ) (rest : List ℕ) → start < length text → rest ≡ drop start text → size ≡ size_of (front_of rest) → size ≤ length rest → line ≡ line_at text start
    → count ≡ count_by (λ b. b == 10) (take size rest) → IsAfter text start (start + length (take size rest)) (line + count)
after_piece text start size line count rest within e is inside l k =
    let whole : length (take size rest) ≡ size = length-take-le size rest inside in
    let same : size ≡ size_at text start = is ∙ ap (λ r. size_of (front_of r)) e in
    let left : length rest ≡ length text - start = ap length e ∙ length-drop start text in
    record {
      start = omega (arith, whole, same);
      inside = omega (arith, whole, inside, left, within);
      line = line_past text start size line count rest e inside l k;
    }

-- the tokens of a text from a place on, or the first fault from there on
unfoldable pub tokens_from : List ℕ → ℕ → Result (List Token) LexFault
tokens_from text start = all_of (map (read_piece text) (pieces_from 0 start (drop start text)))

-- these tokens, then those
abbrev pub onto : List Token → Result (List Token) LexFault → Result (List Token) LexFault
onto ts rest = result_map (λ us. ts ++ us) rest

-- tokens from a place on: the reading of the piece there, then the tokens from the next place on
pub tokens_step : (text : List ℕ) (start : ℕ) → start < length text → 1 ≤ size_at text start → tokens_from text start ≡ comes_first (token_at text start) (tokens_from text (start + size_at text start))
unfolding tokens_from all_of
tokens_step text start inside size =
    let some : 0 < length (drop start text) = omega (arith, length-drop start text) in
    let pieces = pieces_step start (drop start text) some size in
    let past : drop (size_at text start) (drop start text) ≡ drop (start + size_at text start) text = drop-drop (size_at text start) start text in
    ap (λ ps. all_of (map (read_piece text) ps)) pieces
    ∙ ap (λ rest. comes_first (token_at text start) (all_of (map (read_piece text) (pieces_from 0 (start + size_at text start) rest)))) past

onto-before : (old : List Token) (token : Option Token) (rest : Result (List Token) LexFault) → onto old (comes_first (Ok token) rest) ≡ onto (old ++ option_to_list token) rest
onto-before old None (Ok ts) = ap (λ us. Ok (us ++ ts)) (sym (append-nil old))
onto-before old None (Err f) = refl
onto-before old (Some t) (Ok ts) = ap (λ us. Ok us) (sym (append_assoc old (t ∷ []) ts))
onto-before old (Some t) (Err f) = refl

-- a piece that was read well: its token stands after those before
pub tokens_read : (text : List ℕ) (old : List Token) (start next : ℕ) (token : Option Token) → start < length text → 1 ≤ size_at text start → token_at text start ≡ Ok token → next ≡ start + size_at text start → onto old (tokens_from text start) ≡ onto (old ++ option_to_list token) (tokens_from text next)
tokens_read text old start next token inside size reading same =
    ap (λ r. onto old r) (tokens_step text start inside size)
    ∙ ap (λ r. onto old (comes_first r (tokens_from text (start + size_at text start)))) reading
    ∙ onto-before old token (tokens_from text (start + size_at text start))
    ∙ ap (λ n. onto (old ++ option_to_list token) (tokens_from text n)) (sym same)

-- a piece that has a fault: it is the first fault from there on
pub tokens_fault : (text : List ℕ) (old : List Token) (start : ℕ) (fault : LexFault) → start < length text → 1 ≤ size_at text start → token_at text start ≡ Err fault → onto old (tokens_from text start) ≡ Err fault
tokens_fault text old start fault inside size reading =
    ap (λ r. onto old r) (tokens_step text start inside size)
    ∙ ap (λ r. onto old (comes_first r (tokens_from text (start + size_at text start)))) reading

onto-nil : (rest : Result (List Token) LexFault) → rest ≡ onto [] rest
onto-nil (Ok ts) = refl
onto-nil (Err f) = refl

-- at the first place no token stands before, and at the end none comes
pub tokens_begin : (text : List ℕ) → tokens_of text ≡ onto [] (tokens_from text 0)
unfolding tokens_of tokens_from
tokens_begin text = onto-nil (all_of (map (read_piece text) (pieces_from 0 0 text)))

pub tokens_end : (text : List ℕ) (old : List Token) (start : ℕ) → length text ≤ start → onto old (tokens_from text start) ≡ Ok old
unfolding tokens_from all_of pieces_from
tokens_end text old start all =
    let none : drop start text ≡ [] = drop_all start text all in
    let last : old ++ [] ≡ old = append-nil old in
    rw none (rw last refl)
