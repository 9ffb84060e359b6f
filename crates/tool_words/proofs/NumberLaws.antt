-- `parse` reads the numbers among the words.

use Rattle.std.proofs.Common.{◌≡◌, ◌≢◌, ℕ, ◌<◌, ◌≤◌, ◌^◌, true, false, List, length, arith, ap, sym, get_or, cond, ◌∙◌}
use Rattle.std.specs.Prelude.{Ok, Err, Some, None}
use Rattle.std.specs.Str.{all_ascii_digits}
use Rattle.std.specs.Str.Parse.{ParsesUnsigned, digits_value}
use Rattle.std.specs.declared.num.ParseIntError.{ParseIntError}
use Rattle.std.proofs.lemmas.Bool.{and_parts, and_from, cond-true, ltb-true, leb-true, lt-ltb, le-leb, false_from_ne_true}
use Rattle.std.proofs.lemmas.Str.Parse.{IsNumeralModel, numerals_by_value, tells_all_ascii_digits, parse_plain}
use Rattle.tool_words.specs.Reading.{is_number, word_value}

own : IsNumeralModel (λ ds. all_ascii_digits ds ≡ true) (digits_value 10)
own = numerals_by_value _ tells_all_ascii_digits

-- what makes a word a number
pub record IsNumber (digits least greatest : ℕ) (word : List ℕ) : Type 0 where
  pub plain : all_ascii_digits word ≡ true
  pub some : 0 < length word
  pub few : length word ≤ digits
  pub low : least ≤ digits_value 10 word
  pub high : digits_value 10 word ≤ greatest

number-parts : (digits least greatest : ℕ) (word : List ℕ) → is_number digits least greatest word ≡ true → IsNumber digits least greatest word
number-parts digits least greatest word h =
    let plain = and_parts _ _ h in
    let some = and_parts _ _ plain.1 in
    let few = and_parts _ _ some.1 in
    let low = and_parts _ _ few.1 in
    record { plain = plain.0; some = ltb-true _ _ some.0; few = leb-true _ _ few.0; low = leb-true _ _ low.0; high = leb-true _ _ low.1 }

is_number-from : (digits least greatest : ℕ) (word : List ℕ) → IsNumber digits least greatest word → is_number digits least greatest word ≡ true
is_number-from digits least greatest word h =
    and_from _ _ h.plain (and_from _ _ (lt-ltb _ _ h.some) (and_from _ _ (le-leb _ _ h.few) (and_from _ _ (le-leb _ _ h.low) (le-leb _ _ h.high))))

-- what `parse` reads within the bounds
pub number_in-read : (digits least greatest : ℕ) (word : List ℕ) (n : ℕ) → ParsesUnsigned {E = ParseIntError} 64 10 word (Ok n) → get_or word 0 0 ≢ 43
    → length word ≤ digits → least ≤ n → n ≤ greatest → Some n ≡ word_value digits least greatest word
number_in-read digits least greatest word n read no_plus few low high =
    let number = parse_plain own {E = ParseIntError} 64 word (Ok n) read no_plus in
    let fits : IsNumber digits least greatest word = record { plain = number.0.0; some = number.0.1; few = few; low = omega (arith, number.1, low); high = omega (arith, number.1, high) } in
    ap Some number.1 ∙ sym (cond-true (is_number digits least greatest word) (Some (digits_value 10 word)) None (is_number-from _ _ _ _ fits))

-- no number in bounds below 2 ^ 64 is refused by `parse`
pub number_in-refused : (digits least greatest : ℕ) (word : List ℕ) (e : ParseIntError) → ParsesUnsigned {E = ParseIntError} 64 10 word (Err e) → get_or word 0 0 ≢ 43
    → greatest < 2 ^ 64 → None ≡ word_value digits least greatest word
number_in-refused digits least greatest word e refused no_plus small =
    let no = parse_plain own {E = ParseIntError} 64 word (Err e) refused no_plus in
    let none : is_number digits least greatest word ≡ false = false_from_ne_true _ (λ h.
    let number = number-parts digits least greatest word h in
    no (number.plain, number.some, omega (arith, number.high, small))) in
    sym (ap (λ b. cond b (Some (digits_value 10 word)) None) none)
