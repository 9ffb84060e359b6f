-- The limits of a program, and the refusal of outputs that exceed a limit.

use Rattle.std.specs.Prelude.{Bool, ◌||◌, if◌then◌else◌, nat_lt, Option, Some, None, List, length}
use Rattle.std.specs.List.{list_any}
use Rattle.mltl_base.specs.declared.interval.Engine.TheVariants.{Ft, Pt}
use Rattle.mltl_base.specs.declared.limits.TheConstants.{MAX_INSTRUCTIONS, MAX_DELAY, MAX_SLOTS}
use Rattle.mltl_base.specs.Queues.{worst_delays, slot_count}
use Rattle.mltl_base.specs.Subformulas.{Asked, bz_expressions, subformulas, ft_list, pt_list, out_list}
use Rattle.c2po_compile.specs.declared.fault.Refusal.TheVariants.{TooManyNodes, TooLate, TooManySlots}
use Rattle.c2po_compile.specs.declared.fault.CompileFault.{CompileFault}
use Rattle.c2po_compile.specs.declared.fault.CompileFault.TheVariants.{Refused}

-- one of the three lists of instructions is longer than the limit
abbrev pub has_many_nodes : List Asked → Bool
has_many_nodes outs = nat_lt MAX_INSTRUCTIONS (length (bz_expressions outs))
    || (nat_lt MAX_INSTRUCTIONS (length (subformulas Ft outs))
    || nat_lt MAX_INSTRUCTIONS (length (subformulas Pt outs)))

-- the worst-case delay of some future-time instruction is above the limit
abbrev pub is_late : List Asked → Bool
is_late outs = list_any (nat_lt MAX_DELAY) (worst_delays (ft_list outs))

-- the queues and boxes together need more slots than the limit
abbrev pub has_many_slots : List Asked → Bool
has_many_slots outs = nat_lt MAX_SLOTS (slot_count (ft_list outs) (pt_list outs) (out_list outs))

-- the refusal of outputs over columns for the first limit that they exceed: instructions, then delays, then slots
unfoldable pub limit_refusal : List Asked → Option CompileFault
limit_refusal outs =
    if has_many_nodes outs then Some (Refused 0 TooManyNodes)
    else if is_late outs then Some (Refused 0 TooLate)
    else if has_many_slots outs then Some (Refused 0 TooManySlots)
    else None
