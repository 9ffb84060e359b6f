-- The bytes of names of the language.
-- A reader of the contracts needs this file.

use Rattle.std.specs.Prelude.{ℕ, Bool, ◌==◌, ◌||◌}
use Rattle.std.specs.Char.{is_ascii_alphanumeric}

-- an ASCII letter, a digit or `_`
abbrev pub is_in_word : ℕ → Bool
is_in_word b = is_ascii_alphanumeric b || b == 95
