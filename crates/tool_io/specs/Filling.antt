-- A read into a buffer after its first bytes.
use Rattle.std.specs.Prelude.{◌≡◌, ℕ, ◌+◌, ◌<◌, ◌≤◌, Option, List, [], ◌∷◌, ◌++◌, length, take}
use Rattle.tool_io.specs.declared.host.Place.{Place}
use Rattle.tool_io.specs.declared.host.Got as got
use Rattle.tool_io.specs.Log.{Event, Took, Appends}

-- a read after the first bytes of a buffer keeps them, puts its bytes after them, and logs these
abbrev pub Fills : got.Got → List ℕ → List ℕ → Option (List Event) → Option (List Event) → Place → Type 0
Fills (got.TheVariants.Bytes n) kept buffer before now place =
    (piece : List ℕ) × (length piece ≡ n) × (0 < n) × (length kept + n ≤ length buffer)
    × (take (length kept + n) buffer ≡ kept ++ piece) × Appends before now (Took place piece ∷ [])
Fills got.TheVariants.End kept buffer before now place =
    (take (length kept) buffer ≡ kept) × Appends before now (Took place [] ∷ [])
Fills got.TheVariants.Failed kept buffer before now place = (take (length kept) buffer ≡ kept) × Appends before now []
