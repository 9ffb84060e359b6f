-- The entries of a table: the values in order, and the number of each name's value.

use Rattle.std.specs.Prelude.{◌≡◌, ℕ, ◌+◌, ◌<◌, ◌==◌, List, [], ◌∷◌, Option, Some, None, if◌then◌else◌, length, ⊤}
use Rattle.std.specs.Map.{lookup}
use Rattle.std.specs.Str.{bytes_eq}
use Rattle.std.specs.declared.vec.Vec.{Vec}
use Rattle.mltl_base.specs.Tables.{Table}

-- the name with the number n
abbrev pub entry_name : {A : Type 0} → ℕ → List (Vec ℕ A × ℕ) → List ℕ
entry_name n [] = []
entry_name n (e ∷ numbers) = if e.1 == n then e.0.items else entry_name n numbers

-- the values with their names; the first value has number n
abbrev pub entries_from : {A V : Type 0} → ℕ → List (Vec ℕ A × ℕ) → List V → Table V
entries_from n numbers [] = []
entries_from n numbers (v ∷ values) = (entry_name n numbers, v) ∷ entries_from (n + 1) numbers values

-- the number of a name's entry, if the first entry has number n
abbrev pub entry_number : {V : Type 0} → List ℕ → ℕ → Table V → Option ℕ
entry_number name n [] = None
entry_number name n (e ∷ entries) = if bytes_eq name e.0 then Some n else entry_number name (n + 1) entries

-- each number is below n
abbrev pub AreBelow : {A : Type 0} → ℕ → List (Vec ℕ A × ℕ) → Type 0
AreBelow n [] = ⊤
AreBelow n (e ∷ numbers) = (e.1 < n) × AreBelow n numbers

-- each name has the number of its entry
pub record AreNumbered {A V : Type 0} (numbers : List (Vec ℕ A × ℕ)) (values : List V) : Type 0 where
  pub below : AreBelow (length values) numbers
  pub found : (name : List ℕ) → lookup (λ key. bytes_eq name key.items) numbers ≡ entry_number name 0
      (entries_from 0 numbers values)
