-- Blanks are spaces and tabs.
-- A reader of the contracts needs this file.

use Rattle.std.specs.Prelude.{ℕ, Bool, ◌==◌, ◌||◌, List}
use Rattle.std.specs.List.{list_all}

-- true if the byte is a space or a tab
abbrev pub is_blank : ℕ → Bool
is_blank byte = (byte == 32) || (byte == 9)

-- true if the line has nothing but blanks
abbrev pub is_blank_line : List ℕ → Bool
is_blank_line line = list_all is_blank line
