-- The simplified outputs of a specification.
-- A reader of the contracts needs this file.

use Rattle.std.specs.Prelude.{◌≡◌, ℕ, Some, List, map, slice_get}
use Rattle.mltl_base.specs.Formula.{Formula}
use Rattle.mltl_base.specs.Reports.{Output, formula, contract}
use Rattle.mltl_base.specs.Subformulas.{Asked, formulas_of}
use Rattle.mltl_simplify.specs.Simplify.{simp}

-- the output over the simplified forms of its formulas
abbrev pub simple_output : Output → Output
simple_output (formula p) = formula (simp p)
simple_output (contract p q) = contract (simp p) (simp q)

-- the simplified output with its engine and name
abbrev pub simple_asked : Asked → Asked
simple_asked a = record { engine = a.engine; name = a.name; output = simple_output a.output }

-- all outputs, simplified
abbrev pub simple_outputs : List Asked → List Asked
simple_outputs outs = map simple_asked outs

-- the formula is a formula of output k: at side 0 the only or the left formula, at side 1 the right formula of a contract
pub record IsFormulaOf (outs : List Asked) (k side : ℕ) (p : Formula) : Type 0 where
  pub out : Asked
  pub there : slice_get outs k ≡ Some out
  pub is : slice_get (formulas_of out.output) side ≡ Some p

-- Formula q of the result is in the place of formula p of the outputs: in the same output, on the same side.
pub record InPlaceOf (outs result : List Asked) (p q : Formula) : Type 0 where
  pub k : ℕ
  pub side : ℕ
  pub was : IsFormulaOf outs k side p
  pub is : IsFormulaOf result k side q
