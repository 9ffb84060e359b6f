-- The first line of a file that is read by lines.

use Rattle.std.specs.Prelude.{◌≡◌, ◌≢◌, ◌⊎◌, ℕ, Bool, true, false, List, [], ◌∷◌}
use Rattle.tool_io.specs.Cutting.{is_long}

-- the first line is too long
abbrev pub begins_long : List (List ℕ) → Bool
begins_long [] = false
begins_long (raw ∷ raws) = is_long raw

-- the first line is there, or the end was met
abbrev pub HasBegun : Bool → List (List ℕ) → Type 0
HasBegun ended lines = (ended ≡ true) ⊎ (lines ≢ [])
