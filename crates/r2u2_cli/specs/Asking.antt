-- The places that the arguments of r2u2 request to be attached.

use Rattle.std.specs.Prelude.{ℕ, List, [], ◌∷◌}
use Rattle.tool_io.specs.declared.host.Place.{Place}
use Rattle.tool_io.specs.declared.host.Place.TheVariants.{Trace}
use Rattle.tool_words.specs.R2u2Words.{R2u2Request, help, run, demo, nothing}
use Rattle.tool_words.specs.Files.{file_place}

-- the places that the request attaches, with their names, in order
abbrev pub asked_names : R2u2Request → List (Place × List ℕ)
asked_names help = []
asked_names (run asked) = (file_place asked.kind, asked.file) ∷ (Trace, asked.trace) ∷ []
asked_names (demo seed rows) = []
asked_names nothing = []
