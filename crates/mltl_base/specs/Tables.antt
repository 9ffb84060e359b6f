use Rattle.std.specs.Prelude.{ℕ, Bool, List, [], ◌∷◌, Option, Some, None, is_some, if◌then◌else◌}
use Rattle.std.specs.Str.{bytes_eq}

-- Names with their values. A name is the list of its bytes.
abbrev pub Table : Type 0 → Type 0
Table V = List (List ℕ × V)

-- the value of a name in a table
abbrev pub entry_of : {V : Type 0} → List ℕ → Table V → Option V
entry_of x [] = None
entry_of x (e ∷ es) = if bytes_eq x e.0 then Some e.1 else entry_of x es

-- true if the table has the name
abbrev pub is_named : {V : Type 0} → List ℕ → Table V → Bool
is_named x es = is_some (entry_of x es)
