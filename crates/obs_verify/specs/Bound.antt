-- A program whose stored signals are moved to other columns.

use Rattle.std.specs.Prelude.{ℕ, ◌≢◌, ◌==◌, ◌<◌, if◌then◌else◌, List, [], ◌∷◌, map, length, slice_index}
use Rattle.mltl_base.specs.declared.operators.BzOp as bz
use Rattle.mltl_base.specs.declared.program.Program.{Program}
use Rattle.mltl_base.specs.declared.program.StoredSignal.{StoredSignal}

-- the new column of the signal in a column; the column itself if it has no signal
unfoldable pub moved : List StoredSignal → List ℕ → ℕ → ℕ
moved [] columns c = c
moved (signal ∷ signals) [] c = c
moved (signal ∷ signals) (new ∷ columns) c = if signal.column == c then new else moved signals columns c

-- the instruction with the new column of the signal that it reads
abbrev pub bound_op : List StoredSignal → List ℕ → bz.BzOp → bz.BzOp
bound_op signals columns (bz.TheVariants.Column c) = bz.TheVariants.Column (moved signals columns c)
bound_op signals columns (bz.TheVariants.IsTrue c) = bz.TheVariants.IsTrue (moved signals columns c)
bound_op signals columns (bz.TheVariants.Const n) = bz.TheVariants.Const n
bound_op signals columns (bz.TheVariants.Neg a) = bz.TheVariants.Neg a
bound_op signals columns (bz.TheVariants.Add a b) = bz.TheVariants.Add a b
bound_op signals columns (bz.TheVariants.Sub a b) = bz.TheVariants.Sub a b
bound_op signals columns (bz.TheVariants.Mul a b) = bz.TheVariants.Mul a b
bound_op signals columns (bz.TheVariants.Div a b) = bz.TheVariants.Div a b
bound_op signals columns (bz.TheVariants.Rem a b) = bz.TheVariants.Rem a b
bound_op signals columns (bz.TheVariants.Eq a b) = bz.TheVariants.Eq a b
bound_op signals columns (bz.TheVariants.Lt a b) = bz.TheVariants.Lt a b
bound_op signals columns (bz.TheVariants.Le a b) = bz.TheVariants.Le a b

-- the signals in these columns
unfoldable pub bound_signals : List StoredSignal → List ℕ → List StoredSignal
bound_signals [] columns = []
bound_signals (signal ∷ signals) [] = signal ∷ signals
bound_signals (signal ∷ signals) (new ∷ columns) = record signal { column = new } ∷ bound_signals signals columns

-- the program over rows of this width, with signal k in column k of the list
abbrev pub bound : Program → ℕ → List ℕ → Program
bound program width columns =
    record program {
      width = width;
      bz = map (bound_op program.signals columns) program.bz;
      signals = bound_signals program.signals columns;
    }

-- no two columns are the same
abbrev pub AreDifferent : List ℕ → Type 0
AreDifferent columns = (i j : ℕ) → i < j → j < length columns → slice_index columns i ≢ slice_index columns j
