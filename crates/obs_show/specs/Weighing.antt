-- The weights of instructions, computed in one pass, each from the weights before it.

use Rattle.std.specs.Prelude.{ℕ, ◌+◌, min, List, map, slice_index}
use Rattle.mltl_base.specs.declared.interval.Engine.{Engine}
use Rattle.mltl_base.specs.declared.interval.Engine.TheVariants.{Ft, Pt}
use Rattle.mltl_base.specs.declared.limits.TheConstants.{MAX_WEIGHT}
use Rattle.mltl_base.specs.declared.operators.BzOp as bz
use Rattle.mltl_base.specs.declared.operators.FtOp as ft
use Rattle.mltl_base.specs.declared.operators.PtOp as pt
use Rattle.mltl_base.specs.declared.program.Out as out
use Rattle.mltl_base.specs.declared.program.Program.{Program}
use Rattle.mltl_base.specs.Formula.{plain}
use Rattle.mltl_base.specs.Programs.{Expression, whole, truth, cores_of, expressions}
use Rattle.obs_show.specs.Weight.{atom_weight, formula_weight, term_weight}

-- a weight, or one past the limit if it is above the limit
abbrev pub capped : ℕ → ℕ
capped n = min n (MAX_WEIGHT + 1)

-- the weight of an operator over two operands
abbrev pub operator_weight : ℕ → ℕ → ℕ
operator_weight left right = capped (1 + left + right)

-- the leaves and operators of the expression of an instruction of the Booleanizer
abbrev pub expression_weight : Expression → ℕ
expression_weight (whole e) = term_weight e
expression_weight (truth a) = atom_weight a

-- the weights of all instructions of the Booleanizer, in order
abbrev pub expression_weights : Program → List ℕ
expression_weights program = map (λ e. capped (expression_weight e)) (expressions program.bz)

-- the weights of all instructions of an engine, in order
abbrev pub formula_weights : Program → Engine → List ℕ
formula_weights program engine = map (λ p. capped (formula_weight (plain p))) (cores_of program engine)

-- the weight of an instruction of the Booleanizer, from the weights before it
abbrev pub bz_weight : List ℕ → bz.BzOp → ℕ
bz_weight before (bz.TheVariants.Column c) = 1
bz_weight before (bz.TheVariants.IsTrue c) = 1
bz_weight before (bz.TheVariants.Const n) = 1
bz_weight before (bz.TheVariants.Neg a) = operator_weight (slice_index before a) 0
bz_weight before (bz.TheVariants.Add a b) = operator_weight (slice_index before a) (slice_index before b)
bz_weight before (bz.TheVariants.Sub a b) = operator_weight (slice_index before a) (slice_index before b)
bz_weight before (bz.TheVariants.Mul a b) = operator_weight (slice_index before a) (slice_index before b)
bz_weight before (bz.TheVariants.Div a b) = operator_weight (slice_index before a) (slice_index before b)
bz_weight before (bz.TheVariants.Rem a b) = operator_weight (slice_index before a) (slice_index before b)
bz_weight before (bz.TheVariants.Eq a b) = operator_weight (slice_index before a) (slice_index before b)
bz_weight before (bz.TheVariants.Lt a b) = operator_weight (slice_index before a) (slice_index before b)
bz_weight before (bz.TheVariants.Le a b) = operator_weight (slice_index before a) (slice_index before b)

-- the weight of a future-time instruction, from the weights of the Booleans that it may load and of the instructions before
-- it
abbrev pub ft_weight : List ℕ → List ℕ → ft.FtOp → ℕ
ft_weight loaded before ft.TheVariants.True = 1
ft_weight loaded before (ft.TheVariants.Load a) = slice_index loaded a
ft_weight loaded before (ft.TheVariants.Not g) = operator_weight (slice_index before g) 0
ft_weight loaded before (ft.TheVariants.And l r) = operator_weight (slice_index before l) (slice_index before r)
ft_weight loaded before (ft.TheVariants.Until l r window) =
    operator_weight (slice_index before l) (slice_index before r)

-- the weight of a past-time instruction, from the weights of the Booleans that it may load and of the instructions before it
abbrev pub pt_weight : List ℕ → List ℕ → pt.PtOp → ℕ
pt_weight loaded before pt.TheVariants.True = 1
pt_weight loaded before (pt.TheVariants.Load a) = slice_index loaded a
pt_weight loaded before (pt.TheVariants.Not g) = operator_weight (slice_index before g) 0
pt_weight loaded before (pt.TheVariants.And l r) = operator_weight (slice_index before l) (slice_index before r)
pt_weight loaded before (pt.TheVariants.Since l r window) =
    operator_weight (slice_index before l) (slice_index before r)

-- the weight of an output, from the weights of the instructions of both engines
abbrev pub out_weight : List ℕ → List ℕ → out.Out → ℕ
out_weight future past (out.TheVariants.Formula Ft g name) = slice_index future g
out_weight future past (out.TheVariants.Formula Pt g name) = slice_index past g
out_weight future past (out.TheVariants.Contract Ft l r name) = capped (slice_index future l + slice_index future r)
out_weight future past (out.TheVariants.Contract Pt l r name) = capped (slice_index past l + slice_index past r)
