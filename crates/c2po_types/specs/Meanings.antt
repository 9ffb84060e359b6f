-- Meanings that are found at their places.

use Rattle.std.specs.Prelude.{ℕ, ◌≡◌, List, Some, slice_get}
use Rattle.mltl_base.specs.Tables.{Table, entry_of}
use Rattle.c2po_types.specs.declared.meanings.Numbered.{Numbered}

-- each name of the list stands in the table at its number, and its entry there is its meaning
pub record ArePlaced {V : Type 0} (names : List Numbered) (table : Table V) : Type 0 where
  pub means : (i : ℕ) (n : Numbered) → slice_get names i ≡ Some n
      → (v : V) × (slice_get table n.number ≡ Some (n.name, v)) × (entry_of n.name table ≡ Some v)
