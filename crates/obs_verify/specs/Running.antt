-- Properties of a program that the engines rely on.

use Rattle.std.specs.Prelude.{◌≡◌, ℕ, ◌≤◌, ◌<◌, Option, Some, None, List, length, sum, slice_get, slice_index_or, All}
use Rattle.std.specs.Prelude.{⊤}
use Rattle.mltl_base.specs.declared.limits.TheConstants.{MAX_BOUND, MAX_SLOTS}
use Rattle.mltl_base.specs.declared.operators.FtOp.TheVariants as ft
use Rattle.mltl_base.specs.declared.operators.PtOp as pt
use Rattle.mltl_base.specs.declared.program.Program.{Program}
use Rattle.mltl_base.specs.Programs.{Expression, whole, truth, expressions}
use Rattle.mltl_base.specs.Queues.{AreInOrder, HasBounds, HasPastBounds, box_counts, queue_lengths}

-- the instruction of the Booleanizer is Boolean
abbrev pub IsTruthExpression : Option Expression → Type 0
IsTruthExpression (Some (truth a)) = ⊤
IsTruthExpression (Some (whole e)) = ⊥
IsTruthExpression None = ⊥

-- the program can run on the future-time engine
pub record RunsFuture (program : Program) : Type 0 where
  pub order : AreInOrder program.ft
  pub bounds : All (HasBounds MAX_BOUND) program.ft
  pub sizes : program.sizes.ft ≡ queue_lengths program.ft program.outs
  pub few : sum program.sizes.ft ≤ MAX_SLOTS
  pub loads : (i k : ℕ) → i < length program.ft → slice_index_or program.ft i ft.True ≡ ft.Load k
      → IsTruthExpression (slice_get (expressions program.bz) k)

-- the operands of pt instruction i come before it
abbrev pub IsAfterPastOperands : ℕ → pt.PtOp → Type 0
IsAfterPastOperands i pt.TheVariants.True = ⊤
IsAfterPastOperands i (pt.TheVariants.Load k) = ⊤
IsAfterPastOperands i (pt.TheVariants.Not g) = g < i
IsAfterPastOperands i (pt.TheVariants.And l r) = (l < i) × (r < i)
IsAfterPastOperands i (pt.TheVariants.Since l r window) = (l < i) × (r < i)

-- the operands of each pt instruction come before it
abbrev pub ArePastInOrder : List pt.PtOp → Type 0
ArePastInOrder ops = (i : ℕ) → i < length ops → IsAfterPastOperands i (slice_index_or ops i pt.TheVariants.True)

-- the program can run on the past-time engine
pub record RunsPast (program : Program) : Type 0 where
  pub order : ArePastInOrder program.pt
  pub bounds : All (HasPastBounds MAX_BOUND) program.pt
  pub sizes : program.sizes.pt ≡ box_counts program.pt
  pub few : sum program.sizes.pt ≤ MAX_SLOTS
  pub loads : (i k : ℕ) → i < length program.pt
      → slice_index_or program.pt i pt.TheVariants.True ≡ pt.TheVariants.Load k
      → IsTruthExpression (slice_get (expressions program.bz) k)
