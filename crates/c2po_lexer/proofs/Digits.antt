-- Runs of digits: they are ASCII, and `parse` reads them.
use Rattle.std.proofs.Common.{◌≡◌, ◌<◌, ◌≤◌, ◌↔◌, ◌^◌, ◌+◌, ℕ, ℤ, pos, Bool, true, false, cond, List, [], ◌∷◌, length, take, Result, Ok, Err, IsSome, refl, arith, suc}
use Rattle.std.specs.Result.{OkIff, result_ok}
use Rattle.std.specs.List.{prefix_len}
use Rattle.std.specs.Char.{is_ascii_digit}
use Rattle.std.specs.Str.{all_ascii_digits, IsAscii, IsUtf8}
use Rattle.std.specs.Str.Parse.{digits_value, ParsesSigned}
use Rattle.std.proofs.lemmas.Str.{IsUtf8-from_ascii}
use Rattle.std.proofs.lemmas.Str.Ascii.{IsAscii-nil, IsAscii-cons}
use Rattle.std.proofs.lemmas.Str.Parse.{IsNumeralModel, numerals_by_value, tells_all_ascii_digits, parse_signed_digits}
use Rattle.std.proofs.lemmas.Bool.{and_parts}
use Rattle.mltl_base.proofs.Digits.{below_128}
use mir.Syntax.{w64}

prefix_step : (x : ℕ) (xs : List ℕ) → all_ascii_digits (take (prefix_len is_ascii_digit xs) xs) ≡ true → (b : Bool) → is_ascii_digit x ≡ b → all_ascii_digits (take (cond b (1 + prefix_len is_ascii_digit xs) 0) (x ∷ xs)) ≡ true
prefix_step x xs rest true e =
    let n : ℕ = prefix_len is_ascii_digit xs in
    let next : 1 + n ≡ suc n = omega arith in
    rw next (rw e rest)
prefix_step x xs rest false e = refl

-- a longest run of digits has digits alone
pub all_ascii_digits_prefix : (xs : List ℕ) → all_ascii_digits (take (prefix_len is_ascii_digit xs) xs) ≡ true
all_ascii_digits_prefix [] = refl
all_ascii_digits_prefix (x ∷ xs) = prefix_step x xs (all_ascii_digits_prefix xs) (is_ascii_digit x) refl

digit_step : (x : ℕ) (xs : List ℕ) → (all_ascii_digits xs ≡ true → IsAscii xs) → all_ascii_digits (x ∷ xs) ≡ true → IsAscii (x ∷ xs)
digit_step x xs rest h =
    let parts : (is_ascii_digit x ≡ true) × (all_ascii_digits xs ≡ true) = and_parts (is_ascii_digit x) (all_ascii_digits xs) h in
    IsAscii-cons x xs (below_128 x parts.0) (rest parts.1)

digits_ascii : (xs : List ℕ) → all_ascii_digits xs ≡ true → IsAscii xs
digits_ascii [] h = IsAscii-nil
digits_ascii (x ∷ xs) h = digit_step x xs (digits_ascii xs) h

pub digits_utf8 : (xs : List ℕ) → all_ascii_digits xs ≡ true → IsUtf8 xs
digits_utf8 xs h = IsUtf8-from_ascii xs (digits_ascii xs h)

numerals : IsNumeralModel (λ ds. all_ascii_digits ds ≡ true) (digits_value 10)
numerals = numerals_by_value _ tells_all_ascii_digits

limited : {E : Type 0} (r : Result ℤ E) (size n : ℕ) → OkIff r ((0 < size) × (n < 2 ^ 63)) (pos n) → 1 ≤ size → IsSome (result_ok r) ↔ (n ≤ 9223372036854775807)
limited (Ok x) size n h some = ((λ _. omega arith), (λ _. refl))
limited (Err e) size n h some = ((λ bad. cc), (λ small. absurd (h (omega arith, omega arith))))

pub parse_limit : {E : Type 0} (digits : List ℕ) (r : Result ℤ E) → ParsesSigned w64 10 digits r → all_ascii_digits digits ≡ true → 1 ≤ length digits → IsSome (result_ok r) ↔ (digits_value 10 digits ≤ 9223372036854775807)
parse_limit digits r h all some = limited r (length digits) (digits_value 10 digits) (parse_signed_digits numerals w64 digits r h all) some
