-- The places of a struct's fields.

use Rattle.std.specs.Prelude.{ℕ, ◌≡◌, List, position}
use Rattle.std.specs.Str.{bytes_eq}
use Rattle.mltl_base.specs.Tables.{Table, entry_of}

-- the table has the place of each name in the list; a name that occurs twice has its first place
pub record ArePlaces (table : Table ℕ) (names : List (List ℕ)) : Type 0 where
  pub found : (x : List ℕ) → entry_of x table ≡ position (bytes_eq x) names
