-- Bodies by the members of their set.

use Rattle.std.proofs.Common.{◌≡◌, ℕ, Some, length, slice_get, option_map, ap, ◌∙◌}
use Rattle.std.proofs.lemmas.List.{length-map}
use Rattle.std.proofs.lemmas.Option.{slice_get-map}
use Rattle.c2po_types.specs.declared.operators.Bodies.{Bodies}
use Rattle.c2po_types.specs.Values.{Value, members}
use Rattle.c2po_types.specs.Environment.{Env}
use Rattle.c2po_types.specs.Operators.{bodies_over, body_value}

-- a member of a set, and the body with it
pub body_at : (q : Bodies) (env : Env) (s v : Value) (i : ℕ) → slice_get (members s) i ≡ Some v →
    slice_get (bodies_over q env s) i ≡ Some (body_value q env v)
body_at q env s v i h =
    slice_get-map (body_value q env) (members s) i
    ∙ ap (option_map (body_value q env)) h

pub bodies_count : (q : Bodies) (env : Env) (s : Value) → length (bodies_over q env s) ≡ length (members s)
bodies_count q env s = length-map (members s) (body_value q env)
