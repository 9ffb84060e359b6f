-- Bytes without the blanks around them.

use Rattle.std.specs.Prelude.{ℕ, ◌-◌, List, length, take, drop}
use Rattle.std.specs.List.{prefix_len, suffix_len}
use Rattle.mltl_base.specs.Blanks.{is_blank}

-- the bytes without the blanks at the front
abbrev pub without_front : List ℕ → List ℕ
without_front bytes = drop (prefix_len is_blank bytes) bytes

-- the bytes without the blanks at the end
abbrev pub without_end_blanks : List ℕ → List ℕ
without_end_blanks bytes = take (length bytes - suffix_len is_blank bytes) bytes

-- the bytes without the blanks at both ends
unfoldable pub trimmed : List ℕ → List ℕ
trimmed bytes = without_end_blanks (without_front bytes)
