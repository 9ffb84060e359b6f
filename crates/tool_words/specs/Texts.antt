-- Words as texts.

use Rattle.std.specs.Prelude.{ℕ, Bool, if◌then◌else◌, List, []}
use Rattle.std.specs.List.{list_all}
use Rattle.std.specs.Str.{is_utf8}

-- each word is UTF-8
abbrev pub are_texts : List (List ℕ) → Bool
are_texts words = list_all is_utf8 words

-- a word as a text: its bytes if they are UTF-8, else none
abbrev pub text_of : List ℕ → List ℕ
text_of word = if is_utf8 word then word else []
