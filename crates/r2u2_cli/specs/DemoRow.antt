-- The rows of the demo.

use Rattle.std.specs.Prelude.{ℕ, ◌+◌, ◌*◌, ◌%◌, ◌^◌, ◌==◌, nat_lt, ℤ, pos, ◌-ℤ◌, Bool, if◌then◌else◌, List, [], ◌∷◌}

-- the number from which a row is generated, below 1,000
abbrev pub demo_value : ℕ → ℕ → ℕ
demo_value seed k = ((k % 65536) ^ 2 * 7 + (k % 999) * 13 + seed * 31) % 1000

-- a Boolean as the number in its column
abbrev pub bit : Bool → ℤ
bit b = if b then pos 1 else pos 0

-- the row that is generated from a number: two Booleans and an integer
abbrev pub made_row : ℕ → List ℤ
made_row v = bit (v % 3 == 0) ∷ bit (nat_lt (v % 5) 2) ∷ (pos v -ℤ pos 500) ∷ []

-- row k, counted from 0: a, b and x
abbrev pub demo_row : ℕ → ℕ → List ℤ
demo_row seed k = made_row (demo_value seed k)
