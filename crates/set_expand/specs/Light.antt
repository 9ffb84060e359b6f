-- Values, and items of a specification, that weigh no more than the limit.

use Rattle.std.specs.Prelude.{◌≤◌, List, [], ◌∷◌, ⊤}
use Rattle.mltl_base.specs.declared.limits.TheConstants.{MAX_WEIGHT}
use Rattle.c2po_ast.specs.ItemShape.{BodyShape, ItemShape, structure, input, define, formula, contract}
use Rattle.c2po_types.specs.Outputs.{Place, place_after}
use Rattle.c2po_types.specs.Environment.{Env, value_of}
use Rattle.c2po_types.specs.Values.{Value}
use Rattle.c2po_types.specs.Weights.{weight}

-- the value weighs no more than the limit
abbrev pub IsLight : Value → Type 0
IsLight v = weight v ≤ MAX_WEIGHT

-- if the item is a definition or an output, its values weigh no more than the limit in this environment
abbrev pub IsLightItem : Env → BodyShape → Type 0
IsLightItem env (structure x fs) = ⊤
IsLightItem env (input xs t) = ⊤
IsLightItem env (define x e) = IsLight (value_of e env)
IsLightItem env (formula engine label e) = IsLight (value_of e env)
IsLightItem env (contract engine label e f) = IsLight (value_of e env) × IsLight (value_of f env)

-- the values of each item, in the environment after the items before it, weigh no more than the limit
abbrev pub AreLight : List ItemShape → Place → Type 0
AreLight [] p = ⊤
AreLight (i ∷ items) p = IsLightItem p.values i.body × AreLight items (place_after i.body p)
