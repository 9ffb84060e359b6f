-- The outputs of an unfolded specification, and sound unfolded specifications.
-- A reader of the contracts needs this file.

use Rattle.std.specs.Prelude.{ℕ, ◌<◌, ◌^◌, List, length, map, slice_get, All}
use Rattle.mltl_base.specs.Formula.{formula_over}
use Rattle.mltl_base.specs.Reports.{Output, formula, contract}
use Rattle.mltl_base.specs.Subformulas.{Asked, IsTensed}
use Rattle.c2po_ast.specs.declared.nodes.PlainOut.{PlainOut}
use Rattle.c2po_ast.specs.declared.nodes.PlainOut.TheVariants.{Formula, Contract}
use Rattle.c2po_ast.specs.declared.nodes.Expanded.{Expanded}
use Rattle.c2po_ast.specs.Nodes.{Tree, trees, node_formula, IsFormula, AreSound}

-- the engine, the name and the formulas of an output, from the trees of the nodes
abbrev pub asked_by : List Tree → PlainOut → Asked
asked_by trees (Formula engine n name) =
    record { engine = engine; name = name; output = formula (node_formula trees n) }
asked_by trees (Contract engine n m name) =
    record { engine = engine; name = name; output = contract (node_formula trees n) (node_formula trees m) }

-- the outputs in order, over signals by their numbers
abbrev pub asked : Expanded → List Asked
asked expanded = map (asked_by (trees expanded.nodes)) expanded.outs

-- the output with the number of each signal replaced by its column
abbrev pub output_over : List ℕ → Output → Output
output_over columns (formula p) = formula (formula_over columns p)
output_over columns (contract p q) = contract (formula_over columns p) (formula_over columns q)

-- the output over columns, with its engine and name
abbrev pub asked_over : List ℕ → Asked → Asked
asked_over columns a = record { engine = a.engine; name = a.name; output = output_over columns a.output }

-- the outputs in order, over columns
abbrev pub asked_in : List ℕ → Expanded → List Asked
asked_in columns expanded = map (asked_over columns) (asked expanded)

-- the places of the output are formulas
abbrev pub NamesFormulas : List Tree → PlainOut → Type 0
NamesFormulas trees (Formula engine n name) = IsFormula (slice_get trees n)
NamesFormulas trees (Contract engine n m name) = IsFormula (slice_get trees n) × IsFormula (slice_get trees m)

-- the specification over this many signals can be shared and compiled: operands come before their nodes, each operand and
-- each output has the kind that its place requires, and no output mixes tenses
pub record IsSound (expanded : Expanded) (signals : ℕ) : Type 0 where
  pub few_nodes : length expanded.nodes < 2 ^ 32
  pub few_outs : length expanded.outs < 2 ^ 32
  pub nodes : AreSound signals expanded.nodes
  pub outs : All (NamesFormulas (trees expanded.nodes)) expanded.outs
  pub tensed : All IsTensed (asked expanded)
