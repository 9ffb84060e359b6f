-- The most instructions of each part of a graph.

use Rattle.std.specs.Prelude.{◌<◌, ◌≤◌, ◌⊎◌, List, length}
use Rattle.mltl_base.specs.declared.interval.Engine.TheVariants.{Ft, Pt}
use Rattle.mltl_base.specs.declared.limits.TheConstants.{MAX_INSTRUCTIONS}
use Rattle.mltl_base.specs.Subformulas.{Asked, subformulas, bz_expressions}

-- no list of a specification has more members than the limit
pub record AreFew (outs : List Asked) : Type 0 where
  pub bz : length (bz_expressions outs) ≤ MAX_INSTRUCTIONS
  pub ft : length (subformulas Ft outs) ≤ MAX_INSTRUCTIONS
  pub pt : length (subformulas Pt outs) ≤ MAX_INSTRUCTIONS

-- a list of the specification has more members than the limit
abbrev pub AreMany : List Asked → Type 0
AreMany outs =
    (MAX_INSTRUCTIONS < length (bz_expressions outs))
    ⊎ ((MAX_INSTRUCTIONS < length (subformulas Ft outs)) ⊎ (MAX_INSTRUCTIONS < length (subformulas Pt outs)))
