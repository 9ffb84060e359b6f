-- Fields that write whole numbers.
use Rattle.std.proofs.Common.{◌≡◌, ℕ, ℤ, Bool, true, false, cond, List, [], ◌∷◌, length, drop, Err, refl, arith}
use Rattle.std.specs.Char.{is_ascii_digit}
use Rattle.std.specs.Prelude.{◌==◌, nat_lt}
use Rattle.std.specs.List.{list_all}
use Rattle.std.specs.Str.{IsAscii, IsUtf8}
use Rattle.std.specs.Str.Parse.{ParsesSigned, signed_digits_value, without_leading_sign, IsNumeral}
use Rattle.std.proofs.lemmas.Str.{IsUtf8-from_ascii}
use Rattle.std.proofs.lemmas.Str.Ascii.{IsAscii-nil, IsAscii-cons}
use Rattle.std.proofs.lemmas.Bool.{false_from_ne_true, ltb-true, and_parts}
use Rattle.std.proofs.lemmas.Bool.Decides.{nat_tests}
use Rattle.std.proofs.lemmas.Int.{ints}
use Rattle.std.specs.Prelude.{FitsSigned}
use Rattle.std.specs.Int.{w32}
use Rattle.mltl_base.proofs.Digits.{digits_ascii, numerals}
use Rattle.trace_feed.specs.Rows.{has_32_bits, is_bit, is_numeral, field_number}
use Rattle.trace_feed.specs.declared.fields.FieldFault.TheVariants.{OutOfRange}

signed_ascii : (x : ℕ) (xs : List ℕ) (minus plus : Bool) → (x == 45) ≡ minus → (x == 43) ≡ plus → list_all is_ascii_digit (cond minus xs (drop (cond plus 1 0) (x ∷ xs))) ≡ true → IsAscii (x ∷ xs)
signed_ascii x xs true plus e f h = IsAscii-cons x xs (grind (arith, nat_tests)) (digits_ascii xs h)
signed_ascii x xs false true e f h = IsAscii-cons x xs (grind (arith, nat_tests)) (digits_ascii xs h)
signed_ascii x xs false false e f h = digits_ascii (x ∷ xs) h

-- a numeral is text
pub numeral_utf8 : (field : List ℕ) → is_numeral field ≡ true → IsUtf8 field
numeral_utf8 [] h = IsUtf8-from_ascii [] IsAscii-nil
numeral_utf8 (x ∷ xs) h = IsUtf8-from_ascii (x ∷ xs) (signed_ascii x xs (x == 45) (x == 43) refl refl (and_parts (nat_lt 0 (length (without_leading_sign (x ∷ xs)))) (list_all is_ascii_digit (without_leading_sign (x ∷ xs))) h).1)

pub fits_from_has : (n : ℤ) → has_32_bits n ≡ true → FitsSigned w32 n
fits_from_has n h = grind (arith, ints)

is_numeral_parts : (field : List ℕ) → is_numeral field ≡ true → IsNumeral 10 (without_leading_sign field)
is_numeral_parts field h =
    let digits : List ℕ = without_leading_sign field in
    let parts : (nat_lt 0 (length digits) ≡ true) × (list_all is_ascii_digit digits ≡ true) = and_parts (nat_lt 0 (length digits)) (list_all is_ascii_digit digits) h in
    (ltb-true 0 (length digits) parts.0, numerals.to digits parts.1)

-- what isn't parsed is out of range
pub refused : {E : Type 0} (field : List ℕ) (e : E) → ParsesSigned w32 10 field (Err e) → is_numeral field ≡ true → Err OutOfRange ≡ field_number has_32_bits field
refused field e h numeral =
    let fits : has_32_bits (signed_digits_value 10 field) ≡ false = false_from_ne_true (has_32_bits (signed_digits_value 10 field)) (λ has. h (is_numeral_parts field numeral, fits_from_has (signed_digits_value 10 field) has)) in
    rw (numeral, fits) refl

-- a number of 32 bits may be a truth; no other number is one
pub bits_have : (n : ℤ) → is_bit n ≡ true → has_32_bits n ≡ true
bits_have n h = grind (arith, ints)
