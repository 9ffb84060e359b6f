-- Summaries of bodies of quantifiers.

use Rattle.std.specs.Prelude.{◌≡◌, Some}
use Rattle.c2po_types.specs.declared.values.Stored.{Stored}
use Rattle.c2po_types.specs.declared.operators.Bodies.{Bodies}
use Rattle.c2po_types.specs.declared.variables.Scope.{Scope}
use Rattle.c2po_types.specs.declared.summing.BodyFact.{BodyFact}
use Rattle.c2po_types.specs.declared.unfolding.Unfolding.{Unfolding}
use Rattle.c2po_types.specs.Values.{Value}
use Rattle.c2po_types.specs.Environment.{Env}
use Rattle.c2po_types.specs.Holding.{Holds, Fits}
use Rattle.c2po_types.specs.Operators.{body_value}
use Rattle.c2po_types.specs.Summaries.{IsSummary}

-- the summary of a quantifier's body is right for each value of its variable that the stored value represents
pub record IsOfBody (u : Unfolding) (scope : Scope) (q : Bodies) (known : BodyFact) : Type 0 where
  pub holds : (env : Env) (s : Stored) (v : Value) → known.member ≡ Some s → Fits u scope env → Holds u s v
      → IsSummary known.summary (body_value q env v)
