-- Digits that are gathered one by one, and the field that they are with a sign.
use Rattle.std.proofs.Common.{◌≡◌, ◌<◌, ◌≤◌, ◌+◌, ◌-◌, ◌*◌, ◌^◌, ◌==◌, ℕ, ℤ, pos, zero, suc, Bool, true, false, cond, List, [], ◌∷◌, length, take, drop, get_or, refl, arith, ◌∙◌, ap, subst}
use Rattle.std.specs.Prelude.{nat_lt, neg_ℤ, slice_index, ◌&&◌}
use Rattle.std.specs.Char.{digit_value, is_ascii_digit}
use Rattle.std.specs.List.{list_all, position_or_len, prefix_len, suffix_len}
use Rattle.std.specs.Str.Parse.{AllDigits, digits_value, signed_digits_value, starts_with_minus, without_leading_sign}
use Rattle.std.proofs.lemmas.Bool.{and_parts, lt-ltb}
use Rattle.std.proofs.lemmas.Bool.Decides.{nat_tests}
use Rattle.std.proofs.lemmas.Int.Digits.{digits_more, digits_value_more}
use Rattle.std.proofs.lemmas.List.{get_or-take, length-drop, length-take-le, take_all}
use Rattle.std.proofs.lemmas.List.Sums.{position_or_len_is, prefix_len_is, suffix_len_is, AllPass-from_list_all}
use Rattle.std.proofs.lemmas.List.Elements.{All-get_or}
use Rattle.std.proofs.lemmas.Str.Parse.{IsNumeralModel, digits_value_short, numerals_by_value, tells_digits}
use Rattle.mltl_base.proofs.Digits.{numerals}
use Rattle.mltl_base.specs.Blanks.{is_blank}
use Rattle.trace_columns.specs.Blanks.{trimmed}
use Rattle.trace_feed.specs.Readings.{sign_length, read_value}
use Rattle.trace_feed.specs.Rows.{is_comma, is_numeral, field_value}
use Rattle.trace_feed.specs.declared.fields.Reading.{Reading}
use Rattle.trace_feed.specs.declared.fields.Reading.TheVariants.{Unread, Whole, Truth}

own : IsNumeralModel (AllDigits 10) (digits_value 10)
own = numerals_by_value (AllDigits 10) tells_digits

digit_is : (x : ℕ) → is_ascii_digit x ≡ true → digit_value x ≡ x - 48
digit_is x is = grind (arith, nat_tests)

digit_below : (x : ℕ) → is_ascii_digit x ≡ true → digit_value x < 10
digit_below x is = grind (arith, nat_tests)

-- one digit more
pub digit_more : (bytes : List ℕ) (i : ℕ) → i < length bytes → is_ascii_digit (get_or bytes i 0) ≡ true → AllDigits 10 (take i bytes) → AllDigits 10 (take (i + 1) bytes)
digit_more bytes i inside is all = digits_more 10 bytes i inside all (digit_below (get_or bytes i 0) is)

pub value_more : (bytes : List ℕ) (i : ℕ) → i < length bytes → is_ascii_digit (get_or bytes i 0) ≡ true → digits_value 10 (take (i + 1) bytes) ≡ digits_value 10 (take i bytes) * 10 + (get_or bytes i 0 - 48)
value_more bytes i inside is = digits_value_more 10 bytes i inside ∙ ap (λ d. digits_value 10 (take i bytes) * 10 + d) (digit_is (get_or bytes i 0) is)

-- few digits write a small number
pub value_short : (bytes : List ℕ) (i k : ℕ) → AllDigits 10 (take i bytes) → i ≤ length bytes → i ≤ k → digits_value 10 (take i bytes) < 10 ^ k
value_short bytes i k all inside few = digits_value_short own (take i bytes) k all (omega (arith, length-take-le i bytes inside, few))

-- digits after a sign, or without one
front_step : (x : ℕ) (xs : List ℕ) (d : ℕ) (minus plus : Bool) → (x == 45) ≡ minus → (x == 43) ≡ plus → 0 < d → d ≤ length (cond minus xs (drop (cond plus 1 0) (x ∷ xs)))
    → without_leading_sign (take (length (x ∷ xs) - length (cond minus xs (drop (cond plus 1 0) (x ∷ xs))) + d) (x ∷ xs)) ≡ take d (cond minus xs (drop (cond plus 1 0) (x ∷ xs)))
front_step x xs d true plus e f some inside =
    let size : length (x ∷ xs) - length xs + d ≡ suc d = omega arith in
    ap (λ n. without_leading_sign (take n (x ∷ xs))) size
    ∙ ap (λ b. cond b (take d xs) (drop (cond (x == 43) 1 0) (x ∷ take d xs))) e
front_step x xs d false true e f some inside =
    let size : length (x ∷ xs) - length xs + d ≡ suc d = omega arith in
    ap (λ n. without_leading_sign (take n (x ∷ xs))) size
    ∙ ap (λ b. cond b (take d xs) (drop (cond (x == 43) 1 0) (x ∷ take d xs))) e
    ∙ ap (λ b. drop (cond b 1 0) (x ∷ take d xs)) f
front_step x xs d false false e f some inside =
    let n : ℕ = d - 1 in
    let size : length (x ∷ xs) - length (x ∷ xs) + d ≡ suc n = omega arith in
    let back : suc n ≡ d = omega arith in
    ap (λ n. without_leading_sign (take n (x ∷ xs))) size
    ∙ ap (λ b. cond b (take n xs) (drop (cond (x == 43) 1 0) (x ∷ take n xs))) e
    ∙ ap (λ b. drop (cond b 1 0) (x ∷ take n xs)) f
    ∙ ap (λ n. take n (x ∷ xs)) back

front : (line : List ℕ) (d : ℕ) → 0 < d → d ≤ length (without_leading_sign line)
    → without_leading_sign (take (length line - length (without_leading_sign line) + d) line) ≡ take d (without_leading_sign line)
front [] d some inside = absurd (omega arith)
front (x ∷ xs) d some inside = front_step x xs d (x == 45) (x == 43) refl refl some inside

same_minus : (line : List ℕ) (n : ℕ) → 0 < n → starts_with_minus (take n line) ≡ (get_or line 0 0 == 45)
same_minus line zero some = absurd (omega arith)
same_minus [] (suc n) some = refl
same_minus (x ∷ xs) (suc n) some = refl

-- they are a numeral
pub numeral_front : (line : List ℕ) (d : ℕ) → 0 < d → d ≤ length (without_leading_sign line) → AllDigits 10 (take d (without_leading_sign line))
    → is_numeral (take (length line - length (without_leading_sign line) + d) line) ≡ true
numeral_front line d some inside all =
    let digits : List ℕ = take d (without_leading_sign line) in
    let many : nat_lt 0 (length digits) ≡ true = lt-ltb 0 (length digits) (omega (arith, length-take-le d (without_leading_sign line) inside)) in
    let alone : list_all is_ascii_digit digits ≡ true = numerals.from digits all in
    ap (λ ds. nat_lt 0 (length ds) && list_all is_ascii_digit ds) (front line d some inside) ∙ ap (λ b. b && list_all is_ascii_digit digits) many ∙ alone

-- and write their number, with its sign
pub value_front : (line : List ℕ) (d : ℕ) → 0 < d → d ≤ length (without_leading_sign line)
    → signed_digits_value 10 (take (length line - length (without_leading_sign line) + d) line)
    ≡ cond (get_or line 0 0 == 45) (neg_ℤ (pos (digits_value 10 (take d (without_leading_sign line))))) (pos (digits_value 10 (take d (without_leading_sign line))))
value_front line d some inside =
    let n : ℕ = length line - length (without_leading_sign line) + d in
    ap (λ ds. cond (starts_with_minus (take n line)) (neg_ℤ (pos (digits_value 10 ds))) (pos (digits_value 10 ds))) (front line d some inside)
    ∙ ap (λ b. cond b (neg_ℤ (pos (digits_value 10 (take d (without_leading_sign line))))) (pos (digits_value 10 (take d (without_leading_sign line))))) (same_minus line n (omega arith))

-- no byte of a numeral is a comma or a blank
abbrev pub IsPlain : ℕ → Type 0
IsPlain x = (is_comma x ≡ false) × (is_blank x ≡ false)

digit_plain : (x : ℕ) → is_ascii_digit x ≡ true → IsPlain x
digit_plain x is = (grind (arith, nat_tests), grind (arith, nat_tests))

digits_plain : (xs : List ℕ) → list_all is_ascii_digit xs ≡ true → (k : ℕ) → k < length xs → IsPlain (get_or xs k 0)
digits_plain xs all k inside = digit_plain (get_or xs k 0) (All-get_or (λ x. is_ascii_digit x ≡ true) xs k 0 inside (AllPass-from_list_all is_ascii_digit xs all))

sign_plain : (x c : ℕ) → (x == c) ≡ true → IsPlain c → IsPlain x
sign_plain x c is plain = (grind (arith, nat_tests), grind (arith, nat_tests))

plain_step : (x : ℕ) (xs : List ℕ) (minus plus : Bool) → (x == 45) ≡ minus → (x == 43) ≡ plus → list_all is_ascii_digit (cond minus xs (drop (cond plus 1 0) (x ∷ xs))) ≡ true → (k : ℕ) → k < length (x ∷ xs) → IsPlain (get_or (x ∷ xs) k 0)
plain_step x xs true plus e f h zero inside = sign_plain x 45 e (refl, refl)
plain_step x xs true plus e f h (suc k) inside = digits_plain xs h k (omega arith)
plain_step x xs false true e f h zero inside = sign_plain x 43 f (refl, refl)
plain_step x xs false true e f h (suc k) inside = digits_plain xs h k (omega arith)
plain_step x xs false false e f h k inside = digits_plain (x ∷ xs) h k inside

pub numeral_plain : (field : List ℕ) → is_numeral field ≡ true → (k : ℕ) → k < length field → IsPlain (get_or field k 0)
numeral_plain [] is k inside = absurd (omega arith)
numeral_plain (x ∷ xs) is k inside =
    plain_step x xs (x == 45) (x == 43) refl refl (and_parts (nat_lt 0 (length (without_leading_sign (x ∷ xs)))) (list_all is_ascii_digit (without_leading_sign (x ∷ xs))) is).1 k inside

-- so it stands before the first comma, where one stands after it, or the end
pub numeral_ends : (line : List ℕ) (n : ℕ) → n ≤ length line → is_numeral (take n line) ≡ true → (n < length line → is_comma (get_or line n 0) ≡ true) → position_or_len is_comma line ≡ n
numeral_ends line n inside is ends =
    position_or_len_is is_comma line n 0 inside (λ k below. subst (λ (x : ℕ). is_comma x ≡ false) (get_or-take n line k 0 below) (numeral_plain (take n line) is k (omega (arith, below, length-take-le n line inside))).0) ends

-- and no blank around it is trimmed
numeral_trimmed : (field : List ℕ) → is_numeral field ≡ true → trimmed field ≡ field
unfolding trimmed
numeral_trimmed field is =
    let front : prefix_len is_blank field ≡ 0 = prefix_len_is is_blank field 0 0 (omega arith) (λ k below. absurd (omega arith)) (λ some. (numeral_plain field is 0 some).1) in
    let end : suffix_len is_blank field ≡ length field - length field = suffix_len_is is_blank field (length field) 0 (omega arith) (λ k past inside. absurd (omega arith)) (λ some. (numeral_plain field is (length field - 1) (omega arith)).1) in
    ap (λ n. take (length (drop n field) - suffix_len is_blank (drop n field)) (drop n field)) front ∙ take_all (length field - suffix_len is_blank field) field (omega (arith, end))

-- the value of a field that is a numeral
pub numeral_value : (reading : Reading) (field : List ℕ) (n : ℤ) → is_numeral field ≡ true → n ≡ signed_digits_value 10 field → field_value reading field ≡ read_value reading n
numeral_value Unread field n is value = refl
numeral_value Whole field n is value = rw (numeral_trimmed field is, is, value) refl
numeral_value Truth field n is value = rw (numeral_trimmed field is, is, value) refl

-- what stands after the sign
pub after_sign : (field : List ℕ) (n : ℕ) → n ≡ sign_length field → take (length field - n) (drop n field) ≡ without_leading_sign field
after_sign field n is =
    take_all (length field - n) (drop n field) (omega (arith, length-drop n field))
    ∙ ap (λ k. drop k field) is
    ∙ go (starts_with_minus field) (slice_index field 0 == 43)
  where
    go : (minus plus : Bool) → drop (cond minus 1 (cond plus 1 0)) field ≡ cond minus (drop 1 field) (drop (cond plus 1 0) field)
    go true plus = refl
    go false plus = refl
