-- The table of `least`, a row at a time, and the formulas of its cells.

use Rattle.std.specs.Prelude.{◌≡◌, ℕ, ◌+◌, ◌*◌, ◌^◌, ◌<◌, ◌≤◌, min, List, length, slice_get, slice_index, Some}
use Rattle.count_sets.specs.declared.gate.Gate.{Gate}
use Rattle.count_sets.specs.declared.gate.Gate.TheVariants.{Body, Not}
use Rattle.count_sets.specs.declared.table.Plan.{Plan}
use Rattle.count_sets.specs.Counting.{Counted, least}
use Rattle.count_sets.specs.Gates.{gate_formulas, formula_of_gate, IsNetwork, IsShared}

-- a table can hold the plan: the lowest threshold is within the bodies, the highest is not below it and at least 1, and the
-- numbers of gates have 32 bits
pub record IsPlan (plan : Plan) : Type 0 where
  pub asked : plan.lowest ≤ plan.bodies
  pub order : plan.lowest ≤ plan.highest
  pub some : 1 ≤ plan.highest
  pub capped : plan.highest + plan.bodies < 2 ^ 31

-- gate i exists and unfolds to the formula
pub record UnfoldsTo (gates : List Gate) (i : ℕ) (formula : Counted) : Type 0 where
  pub within : i < length gates
  pub is : formula_of_gate (gate_formulas gates) i ≡ formula

-- row k of the table: cell j is the gate of `least j k`, if the plan or a later row needs it
pub record IsGateRow (plan : Plan) (k : ℕ) (gates : List Gate) (row : List ℕ) : Type 0 where
  pub width : length row ≡ plan.highest + 1
  pub cells : (j : ℕ) → j ≤ plan.highest → plan.lowest + k ≤ j + plan.bodies
      → UnfoldsTo gates (slice_index row j) (least j k)
  pub formed : IsNetwork plan.bodies gates
  pub size : length gates ≤ 2 + k * (1 + 2 * plan.highest)
  pub last : 0 < k → slice_index row (min k plan.highest) + 1 ≡ length gates

-- no gate of the table occurs twice, since the cells of a row are in order
pub record GatesRise (plan : Plan) (k : ℕ) (gates : List Gate) (row : List ℕ) : Type 0 where
  pub shared : IsShared gates
  pub bodies : (i b : ℕ) → slice_get gates i ≡ Some (Body b) → b < k
  pub nots : (i a : ℕ) → ¬ (slice_get gates i ≡ Some (Not a))
  pub rising : (j : ℕ) → j + 1 ≤ k → j + 1 ≤ plan.highest → plan.lowest + k ≤ j + plan.bodies
      → slice_index row j < slice_index row (j + 1)
