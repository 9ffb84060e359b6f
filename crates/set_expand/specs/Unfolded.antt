-- The result of unfolding some items: nodes, and outputs over them.

use Rattle.std.specs.Prelude.{◌≡◌, ◌+◌, List, ◌++◌, Result, length, map, All, IfOk}
use Rattle.mltl_base.specs.Subformulas.{Asked}
use Rattle.c2po_ast.specs.declared.nodes.Plain.{Plain}
use Rattle.c2po_ast.specs.declared.nodes.PlainOut.{PlainOut}
use Rattle.c2po_ast.specs.Nodes.{trees, AreSound}
use Rattle.c2po_ast.specs.Outputs.{asked_by, NamesFormulas}
use Rattle.c2po_ast.specs.ItemShape.{BodyShape, ItemShape}
use Rattle.c2po_types.specs.Outputs.{Place, place_after, asked_at, asked_from, outputs_of}
use Rattle.c2po_types.specs.Signals.{signals_of}
use Rattle.set_expand.specs.declared.items.Unfolded.{Unfolded}
use Rattle.set_expand.specs.Light.{AreLight}
use Rattle.set_expand.specs.Names.{SignalsBelow, env_now}
use Rattle.set_expand.specs.Nodes.{HaveNodes}

-- the outputs name formulas among the nodes, and are these outputs of the specification
pub record AskFor (nodes : List Plain) (outs : List PlainOut) (told : List Asked) : Type 0 where
  pub formulas : All (NamesFormulas (trees nodes)) outs
  pub asked : map (asked_by (trees nodes)) outs ≡ told

-- the result of unfolding represents the state at a place, is sound, and has these outputs
pub record StandsAt (u : Unfolded) (place : Place) (told : List Asked) : Type 0 where
  pub values : env_now u.names ≡ place.values
  pub numbered : u.signals ≡ place.signals
  pub below : SignalsBelow u.signals u.names
  pub kept : HaveNodes u.nodes u.names
  pub counted : length u.outs ≡ place.outputs
  pub sound : AreSound u.signals u.nodes
  pub asked : AskFor u.nodes u.outs told

-- if the old result represents the state at a place, the new one represents the state after the item, with the item's
-- outputs after the old ones
abbrev pub Puts : {E : Type 0} → BodyShape → Unfolded → Result Unfolded E → Type 0
Puts body old result = (place : Place) (told : List Asked) → StandsAt old place told
    → IfOk result (λ new. StandsAt new (place_after body place) (told ++ asked_at body place))

-- the items in `left` are still to be unfolded, their outputs complete the outputs of all items, and each is light
pub record Leaves (u : Unfolded) (left all : List ItemShape) : Type 0 where
  pub place : Place
  pub told : List Asked
  pub stands : StandsAt u place told
  pub outputs : told ++ asked_from left place ≡ outputs_of all
  pub signals : place.signals + length (signals_of left) ≡ length (signals_of all)
  pub light : AreLight left place
