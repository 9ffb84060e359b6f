-- Laws of lines: where the first newline is, and what a front of bytes without a newline is.
use Rattle.std.proofs.Common.{◌≡◌, ℕ, suc, zero, ◌+◌, ◌≤◌, ◌<◌, ◌==◌, true, false, not, cond, nat_lt, Some, None, List, [], ◌∷◌, ◌++◌, length, take, drop, get_or, position, refl, sym, ◌∙◌, ap, subst, arith}
use Rattle.std.specs.List.{prefix_len, position_or_len}
use Rattle.std.proofs.lemmas.List.{append_assoc, take-append-drop, take_more, take_all, length-drop}
use Rattle.std.proofs.lemmas.List.Quantifiers.{position-Some}
use Rattle.std.proofs.lemmas.Bool.{eqb-true}
use Rattle.std.proofs.lemmas.Bool.Decides.{nat_tests}
use Rattle.tool_io.specs.Cutting.{HasNoNewline, EndsLine}
use Rattle.tool_io.proofs.ListLaws.{take-plus}

pub HasNoNewline-append : (xs ys : List ℕ) → HasNoNewline xs → HasNoNewline ys → HasNoNewline (xs ++ ys)
HasNoNewline-append [] ys a b = b
HasNoNewline-append (x ∷ xs) ys a b = (a.0, HasNoNewline-append xs ys a.1 b)

-- bytes none of which is a newline
no_newline_below : (xs : List ℕ) (n : ℕ) → ((k : ℕ) → k < n → (get_or xs k 0 == 10) ≡ false) → HasNoNewline (take n xs)
no_newline_below xs zero others = tt
no_newline_below [] (suc n) others = tt
no_newline_below (x ∷ xs) (suc n) others = (others 0 (omega arith), no_newline_below xs n (λ k below. others (suc k) (omega arith)))

-- the bytes before the first newline
no_newline_front : (xs : List ℕ) → HasNoNewline (take (prefix_len (λ byte. not (byte == 10)) xs) xs)
no_newline_front [] = tt
no_newline_front (x ∷ xs) =
    let n = prefix_len (λ byte. not (byte == 10)) xs in
    elim (x == 10) as (λ v. (x == 10) ≡ v → HasNoNewline (take (cond (not v) (1 + n) 0) (x ∷ xs))) [
      | true ↦ λ is. tt
      | false ↦ λ is. let more : 1 + n ≡ suc n = omega arith in rw more (is, no_newline_front xs)
    ]
    refl

-- no newline was found
pub no_newline_found : (xs : List ℕ) → position (λ byte. byte == 10) xs ≡ None → HasNoNewline xs
no_newline_found xs none =
    let n = position_or_len (λ byte. byte == 10) xs in
    let past : nat_lt n (length xs) ≡ false = elim (nat_lt n (length xs)) as (λ v. cond v (Some n) None ≡ None → v ≡ false) [
      | true ↦ λ is. cc
      | false ↦ λ is. refl
    ] none in
    let all : length xs ≤ n = grind (arith, nat_tests) in
    subst HasNoNewline (take_all n xs all) (no_newline_front xs)

pub none_after : (bytes : List ℕ) (seen : ℕ) → HasNoNewline (take seen bytes) → position (λ byte. byte == 10) (drop seen bytes) ≡ None → HasNoNewline bytes
none_after bytes seen before none =
    subst HasNoNewline (take-append-drop seen bytes)
    (HasNoNewline-append (take seen bytes) (drop seen bytes) before (no_newline_found (drop seen bytes) none))

-- the first newline after bytes that hold none ends the first line
pub EndsLine-found : (bytes : List ℕ) (seen at : ℕ) → seen ≤ length bytes → HasNoNewline (take seen bytes) → position (λ byte. byte == 10) (drop seen bytes) ≡ Some at → (seen + at + 1 ≤ length bytes) × EndsLine (take (seen + at + 1) bytes)
EndsLine-found bytes seen at within before found =
    let rest = drop seen bytes in
    let first = position-Some (λ byte. byte == 10) rest at 0 found in
    let newline : get_or rest at 0 ≡ 10 = eqb-true (get_or rest at 0) 10 first.1 in
    let sum : seen + at + 1 ≡ seen + (at + 1) = omega arith in
    let whole : take (seen + at + 1) bytes ≡ (take seen bytes ++ take at rest) ++ 10 ∷ [] = ap (λ n. take n bytes) sum ∙ take-plus seen (at + 1) bytes ∙ ap (λ end. take seen bytes ++ end) (take_more rest at 0 first.0 ∙ ap (λ byte. take at rest ++ byte ∷ []) newline) ∙ sym (append_assoc (take seen bytes) (take at rest) (10 ∷ [])) in (
      omega (arith, length-drop seen bytes, first.0),
      record {
        body = take seen bytes ++ take at rest;
        is = whole;
        one = HasNoNewline-append (take seen bytes) (take at rest) before (no_newline_below rest at first.2);
      },
    )
