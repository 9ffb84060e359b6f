-- Runs of decimal digits: they are text, and write numbers.

use Rattle.std.proofs.Common.{◌≡◌, ◌<◌, ℕ, true, List, [], ◌∷◌, arith, rules}
use Rattle.std.specs.List.{list_all}
use Rattle.std.specs.Char.{is_ascii_digit}
use Rattle.std.specs.Str.{IsAscii}
use Rattle.std.specs.Str.Parse.{digits_value}
use Rattle.std.proofs.lemmas.Bool.{and_parts}
use Rattle.std.proofs.lemmas.Bool.Decides.{nat_tests}
use Rattle.std.proofs.lemmas.Str.Ascii.{IsAscii-nil, IsAscii-cons}
use Rattle.std.proofs.lemmas.Str.Parse.{IsDigitsTest, IsNumeralModel, numerals_by_value}

-- a digit is ASCII, and so are digits
pub below_128 : (x : ℕ) → is_ascii_digit x ≡ true → x < 128
below_128 x h = grind (arith, nat_tests)

pub digits_ascii : (xs : List ℕ) → list_all is_ascii_digit xs ≡ true → IsAscii xs
digits_ascii [] h = IsAscii-nil
digits_ascii (x ∷ xs) h =
    let parts = and_parts (is_ascii_digit x) (list_all is_ascii_digit xs) h in
    IsAscii-cons x xs (below_128 x parts.0) (digits_ascii xs parts.1)

-- what `parse` needs to know of them
tells_digits : IsDigitsTest (λ ds. list_all is_ascii_digit ds ≡ true)
tells_digits = search rules

pub numerals : IsNumeralModel (λ ds. list_all is_ascii_digit ds ≡ true) (digits_value 10)
numerals = numerals_by_value _ tells_digits
