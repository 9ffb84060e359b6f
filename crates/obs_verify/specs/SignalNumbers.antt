-- The stored signals that the instructions of a program read: a program moves to other columns by this table, in one pass
-- over its instructions.

use Rattle.std.specs.Prelude.{ℕ, ◌==◌, suc, if◌then◌else◌, Option, None, Some, option_map, List, [], ◌∷◌, map}
use Rattle.mltl_base.specs.declared.operators.BzOp as bz
use Rattle.mltl_base.specs.declared.program.Program.{Program}
use Rattle.mltl_base.specs.declared.program.StoredSignal.{StoredSignal}

-- the number of the first signal in a column, if there is one
unfoldable pub signal_in : List StoredSignal → ℕ → Option ℕ
signal_in [] c = None
signal_in (signal ∷ signals) c = if signal.column == c then Some 0 else option_map suc (signal_in signals c)

-- the number of the signal that an instruction reads, if it reads one
abbrev pub signal_read : List StoredSignal → bz.BzOp → Option ℕ
signal_read signals (bz.TheVariants.Column c) = signal_in signals c
signal_read signals (bz.TheVariants.IsTrue c) = signal_in signals c
signal_read signals op = None

-- for each instruction the number of the signal that it reads, if any
abbrev pub signals_read : Program → List (Option ℕ)
signals_read program = map (signal_read program.signals) program.bz
