-- The expressions and formulas that the instructions of an observer program unfold to, and the rows that fit it. Every list
-- of instructions unfolds: an operand without an instruction represents 0, the Boolean of column 0, or true. A well-formed
-- program has no such operand, by `well_formed_programs_are_sound` and `well_formed_programs_run` of `obs_verify`. Contracts
-- use this file.

use Rattle.std.specs.Prelude.{ℕ, ◌≡◌, ◌⊎◌, pos, Option, Some, None, List, [], ◌∷◌, ◌++◌, length, map, slice_get}
use Rattle.std.specs.Prelude.{slice_index_or, All, FitsSigned, ⊤}
use Rattle.std.specs.Int.{w32}
use Rattle.mltl_base.specs.declared.interval.Engine.{Engine}
use Rattle.mltl_base.specs.declared.interval.Engine.TheVariants.{Ft, Pt}
use Rattle.mltl_base.specs.declared.operators.BzOp as bz
use Rattle.mltl_base.specs.declared.operators.FtOp as ft
use Rattle.mltl_base.specs.declared.operators.PtOp as pt
use Rattle.mltl_base.specs.declared.program.Out as out
use Rattle.mltl_base.specs.declared.program.Program.{Program}
use Rattle.mltl_base.specs.Atoms.{Row, Term, column, constant, negative, plus, minus, times, quotient, remainder, Atom}
use Rattle.mltl_base.specs.Atoms.{is_true, equal, less, at_most, in_column}
use Rattle.mltl_base.specs.Formula.{Core, ctrue, catom, cnot, cand, cuntil, csince, plain}
use Rattle.mltl_base.specs.Reports.{Output, formula, contract}

-- the integer or the Boolean that an instruction of the Booleanizer represents
pub data Expression : Type 0 where
  whole : Term → Expression
  truth : Atom → Expression

-- the integer that is there, else 0
abbrev pub expression_term : Option Expression → Term
expression_term (Some (whole e)) = e
expression_term (Some (truth a)) = constant (pos 0)
expression_term None = constant (pos 0)

-- the Boolean that is there, else the Boolean of column 0
abbrev pub atom_of : Option Expression → Atom
atom_of (Some (truth a)) = a
atom_of (Some (whole e)) = is_true 0
atom_of None = is_true 0

-- the integer of instruction n, over the expressions before
abbrev pub term_at : List Expression → ℕ → Term
term_at before n = expression_term (slice_get before n)

-- the expression of an instruction, over the expressions of the instructions before it
abbrev pub expression_of : List Expression → bz.BzOp → Expression
expression_of before (bz.TheVariants.Column c) = whole (column c)
expression_of before (bz.TheVariants.IsTrue c) = truth (is_true c)
expression_of before (bz.TheVariants.Const n) = whole (constant n)
expression_of before (bz.TheVariants.Neg a) = whole (negative (term_at before a))
expression_of before (bz.TheVariants.Add a b) = whole (plus (term_at before a) (term_at before b))
expression_of before (bz.TheVariants.Sub a b) = whole (minus (term_at before a) (term_at before b))
expression_of before (bz.TheVariants.Mul a b) = whole (times (term_at before a) (term_at before b))
expression_of before (bz.TheVariants.Div a b) = whole (quotient (term_at before a) (term_at before b))
expression_of before (bz.TheVariants.Rem a b) = whole (remainder (term_at before a) (term_at before b))
expression_of before (bz.TheVariants.Eq a b) = truth (equal (term_at before a) (term_at before b))
expression_of before (bz.TheVariants.Lt a b) = truth (less (term_at before a) (term_at before b))
expression_of before (bz.TheVariants.Le a b) = truth (at_most (term_at before a) (term_at before b))

-- the expressions, followed by the expressions of further instructions
unfoldable pub expressions_after : List Expression → List bz.BzOp → List Expression
expressions_after before [] = before
expressions_after before (op ∷ ops) = expressions_after (before ++ expression_of before op ∷ []) ops

-- the expressions of all instructions of the Booleanizer, in order
abbrev pub expressions : List bz.BzOp → List Expression
expressions ops = expressions_after [] ops

-- the atoms that engines can load, one for each instruction of the Booleanizer
abbrev pub atoms : List bz.BzOp → List Atom
atoms ops = map (λ e. atom_of (Some e)) (expressions ops)

-- the core formula of instruction n, over the formulas before, else true
abbrev pub core_at : List Core → ℕ → Core
core_at before n = slice_index_or before n ctrue

-- the formula of an ft instruction, over the loaded atoms and the formulas of the instructions before it
abbrev pub op_formula : List Atom → List Core → ft.FtOp → Core
op_formula loaded before ft.TheVariants.True = ctrue
op_formula loaded before (ft.TheVariants.Load a) = catom (slice_index_or loaded a (is_true 0))
op_formula loaded before (ft.TheVariants.Not a) = cnot (core_at before a)
op_formula loaded before (ft.TheVariants.And a b) = cand (core_at before a) (core_at before b)
op_formula loaded before (ft.TheVariants.Until a b i) = cuntil i (core_at before a) (core_at before b)

-- the formula of a pt instruction, over the loaded atoms and the formulas of the instructions before it
abbrev pub past_formula_of : List Atom → List Core → pt.PtOp → Core
past_formula_of loaded before pt.TheVariants.True = ctrue
past_formula_of loaded before (pt.TheVariants.Load a) = catom (slice_index_or loaded a (is_true 0))
past_formula_of loaded before (pt.TheVariants.Not a) = cnot (core_at before a)
past_formula_of loaded before (pt.TheVariants.And a b) = cand (core_at before a) (core_at before b)
past_formula_of loaded before (pt.TheVariants.Since a b i) = csince i (core_at before a) (core_at before b)

-- the formulas, followed by the formulas of further ft instructions
unfoldable pub formulas_after : List Atom → List Core → List ft.FtOp → List Core
formulas_after loaded before [] = before
formulas_after loaded before (op ∷ ops) = formulas_after loaded (before ++ op_formula loaded before op ∷ []) ops

-- the formulas, followed by the formulas of further pt instructions
unfoldable pub past_formulas_after : List Atom → List Core → List pt.PtOp → List Core
past_formulas_after loaded before [] = before
past_formulas_after loaded before (op ∷ ops) =
    past_formulas_after loaded (before ++ past_formula_of loaded before op ∷ []) ops

-- the formulas of all ft instructions, in order
abbrev pub formulas : List Atom → List ft.FtOp → List Core
formulas loaded ops = formulas_after loaded [] ops

-- the formulas of all pt instructions, in order
abbrev pub past_formulas : List Atom → List pt.PtOp → List Core
past_formulas loaded ops = past_formulas_after loaded [] ops

-- the formulas of an engine of a program
abbrev pub cores_of : Program → Engine → List Core
cores_of program Ft = formulas (atoms program.bz) program.ft
cores_of program Pt = past_formulas (atoms program.bz) program.pt

-- the formula that instruction i of an engine unfolds to
abbrev pub formula_at : Program → Engine → ℕ → Core
formula_at program engine i = core_at (cores_of program engine) i

-- an output with its formulas
abbrev pub output_of : Program → out.Out → Output
output_of program (out.TheVariants.Formula engine i name) = formula (plain (formula_at program engine i))
output_of program (out.TheVariants.Contract engine i j name) =
    contract (plain (formula_at program engine i)) (plain (formula_at program engine j))

-- the name of an output
abbrev pub out_name : out.Out → List ℕ
out_name (out.TheVariants.Formula engine i name) = name
out_name (out.TheVariants.Contract engine i j name) = name

-- the outputs of a program with their formulas
abbrev pub outputs : Program → List Output
outputs program = map (output_of program) program.outs

-- the names of the outputs of a program
abbrev pub output_names : Program → List (List ℕ)
output_names program = map out_name program.outs

-- the row has what the instruction requires: a Boolean is 0 or 1, an integer has 32 bits with a sign
abbrev pub FitsRow : Row → bz.BzOp → Type 0
FitsRow row (bz.TheVariants.Column c) = FitsSigned w32 (in_column row c)
FitsRow row (bz.TheVariants.IsTrue c) = (in_column row c ≡ pos 0) ⊎ (in_column row c ≡ pos 1)
FitsRow row op = ⊤

-- the row has a value of its kind in each column that the program reads
pub record IsFit (program : Program) (row : Row) : Type 0 where
  pub width : length row ≡ program.width
  pub kinds : All (FitsRow row) program.bz
