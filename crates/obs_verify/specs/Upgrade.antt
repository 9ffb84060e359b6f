-- A program of version 1 with a stored signal for each column that its instructions read.

use Rattle.std.specs.Prelude.{ℕ, ◌≡◌, ◌==◌, Bool, true, false, ◌++◌, if◌then◌else◌, Option, Some, None, List, [], ◌∷◌}
use Rattle.std.specs.Prelude.{length, codes, decimal, ⊤}
use Rattle.std.specs.List.{filter_map, range_with_len}
use Rattle.mltl_base.specs.declared.operators.BzOp as bz
use Rattle.mltl_base.specs.declared.program.Program.{Program}
use Rattle.mltl_base.specs.declared.program.StoredSignal.{StoredSignal}
use Rattle.obs_verify.specs.declared.fault.UpgradeFault.{UpgradeFault}
use Rattle.obs_verify.specs.declared.fault.UpgradeFault.TheVariants.{Both, Memory}
use Rattle.obs_verify.specs.WellFormed.{has_kind}

-- the name of a column: the letter c and the column's digits
abbrev pub column_name : ℕ → List ℕ
column_name c = codes "c" ++ decimal c

-- the signal of a column
abbrev pub signal_in : ℕ → Bool → StoredSignal
signal_in c truth = record { name = column_name c; truth = truth; column = c }

-- the signal that an instruction reads, if it reads one
abbrev pub signal_read : bz.BzOp → Option StoredSignal
signal_read (bz.TheVariants.Column c) = Some (signal_in c false)
signal_read (bz.TheVariants.IsTrue c) = Some (signal_in c true)
signal_read op = None

-- the signals that instructions read, in their order
abbrev pub reads : List bz.BzOp → List StoredSignal
reads ops = filter_map signal_read ops

-- the signal of a column, if one is read there
abbrev pub signal_of : List StoredSignal → ℕ → Option StoredSignal
signal_of signals c =
    if has_kind signals c true then Some (signal_in c true)
    else if has_kind signals c false then Some (signal_in c false)
    else None

-- the signals of the first columns, by rising column
abbrev pub signals_below : ℕ → List StoredSignal → List StoredSignal
signals_below width signals = filter_map (signal_of signals) (range_with_len 0 width)

-- the program of version 2
abbrev pub raised : Program → Program
raised program = record program { version = 2; signals = signals_below program.width (reads program.bz) }

-- the program in version 2; a program of version 2 stays
abbrev pub up : Program → Program
up program = if program.version == 2 then program else raised program

-- true if the instruction reads a column that an earlier one reads as the other kind
abbrev pub clashes : List bz.BzOp → bz.BzOp → Bool
clashes earlier (bz.TheVariants.Column c) = has_kind (reads earlier) c true
clashes earlier (bz.TheVariants.IsTrue c) = has_kind (reads earlier) c false
clashes earlier op = false

-- the number of the first instruction that clashes with an earlier one
unfoldable pub first_clash : List bz.BzOp → List bz.BzOp → Option ℕ
first_clash earlier [] = None
first_clash earlier (op ∷ ops) =
    if clashes earlier op then Some (length earlier) else first_clash (earlier ++ op ∷ []) ops

-- the first clash of a program of version 1, which then has no version 2; none if no column is read as both kinds
abbrev pub clash_of : Program → Option ℕ
clash_of program = if program.version == 2 then None else first_clash [] program.bz

-- the fault names the clash, unless out of memory
abbrev pub NamesClash : UpgradeFault → Option ℕ → Type 0
NamesClash (Both i) clash = clash ≡ Some i
NamesClash Memory clash = ⊤
