-- The names of the instructions of a program in its text: an operation has a defined name, another instruction is named
-- after what it reads.

use Rattle.std.specs.Prelude.{ℕ, ◌+◌, ◌==◌, Bool, true, false, not, if◌then◌else◌, Option, Some, None, List, [], ◌∷◌}
use Rattle.std.specs.Prelude.{◌++◌, length, take, filter, count_by, slice_get, slice_index, codes, decimal}
use Rattle.std.specs.List.{list_any, range_with_len}
use Rattle.std.specs.Str.{bytes_eq}
use Rattle.mltl_base.specs.declared.operators.BzOp as bz
use Rattle.mltl_base.specs.declared.operators.FtOp as ft
use Rattle.mltl_base.specs.declared.operators.PtOp as pt
use Rattle.mltl_base.specs.declared.program.Program.{Program}
use Rattle.mltl_base.specs.declared.program.StoredSignal.{StoredSignal}
use Rattle.obs_show.specs.Lines.{Reference, always, named, number}

-- the instruction is an operation, which gets a defined name: it neither reads a column nor is a constant
abbrev pub is_operation : bz.BzOp → Bool
is_operation (bz.TheVariants.Column c) = false
is_operation (bz.TheVariants.IsTrue c) = false
is_operation (bz.TheVariants.Const n) = false
is_operation op = true

-- the instruction of future time is an operation: it isn't true and loads nothing
abbrev pub is_future_operation : ft.FtOp → Bool
is_future_operation ft.TheVariants.True = false
is_future_operation (ft.TheVariants.Load a) = false
is_future_operation op = true

-- the instruction of past time is an operation: it isn't true and loads nothing
abbrev pub is_past_operation : pt.PtOp → Bool
is_past_operation pt.TheVariants.True = false
is_past_operation (pt.TheVariants.Load a) = false
is_past_operation op = true

-- the number of operations of the Booleanizer
abbrev pub bz_operations : List bz.BzOp → ℕ
bz_operations ops = count_by is_operation ops

-- the number of operations of future time
abbrev pub ft_operations : List ft.FtOp → ℕ
ft_operations ops = count_by is_future_operation ops

-- the number of operations of past time
abbrev pub pt_operations : List pt.PtOp → ℕ
pt_operations ops = count_by is_past_operation ops

-- the number of defined names that a program needs
abbrev pub operations : Program → ℕ
operations program = bz_operations program.bz + ft_operations program.ft + pt_operations program.pt

-- the defined name with a number: the letter d and the number's digits
abbrev pub numbered_name : ℕ → List ℕ
numbered_name n = codes "d" ++ decimal n

-- true if a signal has this name
abbrev pub is_signal_name : List StoredSignal → List ℕ → Bool
is_signal_name signals name = list_any (λ signal. bytes_eq name signal.name) signals

-- the numbers n, by rising n, for which dn isn't a signal's name; each signal may take one of them
abbrev pub free_numbers : List StoredSignal → ℕ → List ℕ
free_numbers signals needed =
    filter (λ n. not (is_signal_name signals (numbered_name n))) (range_with_len 0 (needed + length signals))

-- the defined name of operation k of a program, counted from 0 over all its parts
abbrev pub defined_name : Program → ℕ → List ℕ
defined_name program k = numbered_name (slice_index (free_numbers program.signals (operations program)) k)

-- the defined name of instruction i of the Booleanizer: the operations before it have the names before its own
abbrev pub bz_name : Program → ℕ → List ℕ
bz_name program i = defined_name program (bz_operations (take i program.bz))

-- the defined name of instruction i of future time: these names follow the Booleanizer's
abbrev pub ft_name : Program → ℕ → List ℕ
ft_name program i = defined_name program (bz_operations program.bz + ft_operations (take i program.ft))

-- the defined name of instruction i of past time: these names follow the names of future time
abbrev pub pt_name : Program → ℕ → List ℕ
pt_name program i =
    defined_name program (bz_operations program.bz + ft_operations program.ft + pt_operations (take i program.pt))

-- the name of the signal in a column
abbrev pub name_in : List StoredSignal → ℕ → List ℕ
name_in [] c = []
name_in (signal ∷ signals) c = if signal.column == c then signal.name else name_in signals c

-- the reference to an instruction of the Booleanizer: a column by its signal, a constant by its value
abbrev pub bz_called : Program → ℕ → Option bz.BzOp → Reference
bz_called program i None = always
bz_called program i (Some (bz.TheVariants.Column c)) = named (name_in program.signals c)
bz_called program i (Some (bz.TheVariants.IsTrue c)) = named (name_in program.signals c)
bz_called program i (Some (bz.TheVariants.Const n)) = number n
bz_called program i (Some op) = named (bz_name program i)

-- the reference to instruction i of the Booleanizer
abbrev pub bz_reference : Program → ℕ → Reference
bz_reference program i = bz_called program i (slice_get program.bz i)

-- the reference to an instruction of future time: a loaded Boolean as in the Booleanizer
abbrev pub ft_called : Program → ℕ → Option ft.FtOp → Reference
ft_called program i None = always
ft_called program i (Some ft.TheVariants.True) = always
ft_called program i (Some (ft.TheVariants.Load a)) = bz_reference program a
ft_called program i (Some op) = named (ft_name program i)

-- the reference to instruction i of future time
abbrev pub ft_reference : Program → ℕ → Reference
ft_reference program i = ft_called program i (slice_get program.ft i)

-- the reference to an instruction of past time: a loaded Boolean as in the Booleanizer
abbrev pub pt_called : Program → ℕ → Option pt.PtOp → Reference
pt_called program i None = always
pt_called program i (Some pt.TheVariants.True) = always
pt_called program i (Some (pt.TheVariants.Load a)) = bz_reference program a
pt_called program i (Some op) = named (pt_name program i)

-- the reference to instruction i of past time
abbrev pub pt_reference : Program → ℕ → Reference
pt_reference program i = pt_called program i (slice_get program.pt i)
