-- Networks of gates: the formula and the truth of each gate.

use Rattle.std.specs.Prelude.{◌≡◌, ℕ, ◌-◌, ◌<◌, Bool, false, not, ◌&&◌, ◌||◌, List, [], ◌∷◌, ◌++◌, length, slice_get}
use Rattle.std.specs.Prelude.{slice_index_or, Option, Some, fold, ⊤}
use Rattle.count_sets.specs.declared.gate.Gate.{Gate}
use Rattle.count_sets.specs.declared.gate.Gate.TheVariants.{Truth, Body, Both, Either, Not}
use Rattle.count_sets.specs.Counting.{Counted, truth, body, both, either, negation}

-- the formula of gate i
abbrev pub formula_of_gate : List Counted → ℕ → Counted
formula_of_gate gate_formulas i = slice_index_or gate_formulas i (truth false)

-- the formula of a gate, over the formulas of the gates before it
abbrev pub gate_meaning : List Counted → Gate → Counted
gate_meaning earlier (Truth v) = truth v
gate_meaning earlier (Body i) = body i
gate_meaning earlier (Both a b) = both (formula_of_gate earlier a) (formula_of_gate earlier b)
gate_meaning earlier (Either a b) = either (formula_of_gate earlier a) (formula_of_gate earlier b)
gate_meaning earlier (Not a) = negation (formula_of_gate earlier a)

-- the formulas that the gates unfold to, in order
unfoldable pub gate_formulas : List Gate → List Counted
gate_formulas gates = fold (λ earlier gate. earlier ++ gate_meaning earlier gate ∷ []) [] gates

-- the truth of body or gate i
abbrev pub gate_holds : List Bool → ℕ → Bool
gate_holds truths i = slice_index_or truths i false

-- the truth of a gate, from the truths of the bodies and of the gates before it
abbrev pub gate_truth : List Bool → List Bool → Gate → Bool
gate_truth bodies earlier (Truth v) = v
gate_truth bodies earlier (Body i) = gate_holds bodies i
gate_truth bodies earlier (Both a b) = gate_holds earlier a && gate_holds earlier b
gate_truth bodies earlier (Either a b) = gate_holds earlier a || gate_holds earlier b
gate_truth bodies earlier (Not a) = not (gate_holds earlier a)

-- the truths of the gates, in order
unfoldable pub truths : List Bool → List Gate → List Bool
truths bodies gates = fold (λ earlier gate. earlier ++ gate_truth bodies earlier gate ∷ []) [] gates

-- the formula of the last gate
abbrev pub last_formula : List Gate → Option Counted
last_formula gates = slice_get (gate_formulas gates) (length gates - 1)

-- the truth of the last gate
abbrev pub last_truth : List Bool → List Gate → Option Bool
last_truth bodies gates = slice_get (truths bodies gates) (length gates - 1)

-- gate i has earlier gates as operands, and bodies below n
abbrev pub IsOver : ℕ → ℕ → Gate → Type 0
IsOver n i (Truth v) = ⊤
IsOver n i (Body k) = k < n
IsOver n i (Both a b) = (a < i) × (b < i)
IsOver n i (Either a b) = (a < i) × (b < i)
IsOver n i (Not a) = a < i

-- each gate of the list has earlier gates as operands, and bodies below n
pub record IsNetwork (n : ℕ) (gates : List Gate) : Type 0 where
  pub over : (i : ℕ) (gate : Gate) → slice_get gates i ≡ Some gate → IsOver n i gate

-- no gate occurs twice
pub record IsShared (gates : List Gate) : Type 0 where
  pub once : (i j : ℕ) (gate : Gate) → slice_get gates i ≡ Some gate → slice_get gates j ≡ Some gate → i ≡ j
