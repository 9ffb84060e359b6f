-- Runs of digits: they are text, and `parse` reads them.
use Rattle.std.proofs.Common.{◌≡◌, ◌<◌, ◌^◌, ◌+◌, ℕ, Bool, true, false, cond, List, [], ◌∷◌, length, take, Some, Result, Ok, Err, refl, arith, suc, ap}
use Rattle.std.specs.Prelude.{nat_lt}
use Rattle.std.specs.Result.{OkIff, result_ok}
use Rattle.std.specs.List.{list_all, prefix_len}
use Rattle.std.specs.Char.{is_ascii_digit}
use Rattle.std.specs.Str.{IsUtf8}
use Rattle.std.specs.Str.Parse.{ParsesUnsigned, digits_value}
use Rattle.std.proofs.lemmas.Bool.{false_from_ne_true, lt-ltb, ltb-true}
use Rattle.std.proofs.lemmas.Str.{IsUtf8-from_ascii}
use Rattle.std.proofs.lemmas.Str.Parse.{parse_digits}
use Rattle.mltl_base.proofs.Digits.{digits_ascii, numerals}
use Rattle.sparse_feed.specs.Stamps.{in_64_bits}

prefix_step : (x : ℕ) (xs : List ℕ) → list_all is_ascii_digit (take (prefix_len is_ascii_digit xs) xs) ≡ true → (b : Bool) → is_ascii_digit x ≡ b → list_all is_ascii_digit (take (cond b (1 + prefix_len is_ascii_digit xs) 0) (x ∷ xs)) ≡ true
prefix_step x xs rest true e =
    let n : ℕ = prefix_len is_ascii_digit xs in
    let next : 1 + n ≡ suc n = omega arith in
    rw next (rw e rest)
prefix_step x xs rest false e = refl

-- a longest run of digits has digits alone
pub prefix_digits : (xs : List ℕ) → list_all is_ascii_digit (take (prefix_len is_ascii_digit xs) xs) ≡ true
prefix_digits [] = refl
prefix_digits (x ∷ xs) = prefix_step x xs (prefix_digits xs) (is_ascii_digit x) refl

pub digits_utf8 : (xs : List ℕ) → list_all is_ascii_digit xs ≡ true → IsUtf8 xs
digits_utf8 xs h = IsUtf8-from_ascii xs (digits_ascii xs h)

limited : {E : Type 0} (r : Result ℕ E) (size n : ℕ) → OkIff r ((0 < size) × (n < 2 ^ 64)) n → 0 < size → result_ok r ≡ in_64_bits n
limited (Ok x) size n h some = let fits : nat_lt n 18446744073709551616 ≡ true = lt-ltb n 18446744073709551616 h.0.1 in rw fits (ap Some h.1)
limited (Err e) size n h some =
    let wide : nat_lt n 18446744073709551616 ≡ false = false_from_ne_true (nat_lt n 18446744073709551616) (λ fits. h (some, ltb-true n 18446744073709551616 fits)) in
    rw wide refl

-- what is parsed of digits
pub parsed : {E : Type 0} (digits : List ℕ) (r : Result ℕ E) → ParsesUnsigned 64 10 digits r → list_all is_ascii_digit digits ≡ true → 0 < length digits → result_ok r ≡ in_64_bits (digits_value 10 digits)
parsed digits r h all some = limited r (length digits) (digits_value 10 digits) (parse_digits numerals 64 digits r h all) some
