-- The columns of names, by two tables.

use Rattle.std.specs.Prelude.{ℕ, ◌≡◌, ◌==◌, ◌≤◌, nat_lt, if◌then◌else◌, Option, Some, None, List, length}
use Rattle.mltl_base.specs.Tables.{entry_of, is_named}
use Rattle.trace_columns.specs.Header.{times, first_place}
use Rattle.trace_columns.specs.declared.names.Places.{Places}

-- the first column that has a name, if one has it
abbrev pub column_of : List (List ℕ) → List ℕ → Option ℕ
column_of names name = if times names name == 0 then None else Some (first_place names name)

-- the tables have the first column of each name of 1 to 64 bytes, and the names with a second column
pub record AreColumnPlaces (names : List (List ℕ)) (places : Places) : Type 0 where
  pub first : (name : List ℕ) → 1 ≤ length name → length name ≤ 64 → entry_of name places.first ≡ column_of names name
  pub again : (name : List ℕ) → 1 ≤ length name → length name ≤ 64
      → is_named name places.again ≡ nat_lt 1 (times names name)
