-- The limits of a specification, and the first limit that it exceeds.

use Rattle.std.specs.Prelude.{ℕ, ◌<◌, ◌≤◌, List, All, Any, ⊤}
use Rattle.mltl_base.specs.declared.limits.TheConstants.{MAX_DELAY, MAX_SLOTS}
use Rattle.mltl_base.specs.declared.program.Graph.{Graph}
use Rattle.mltl_base.specs.Queues.{worst_delays, slot_count}
use Rattle.mltl_base.specs.Subformulas.{Asked, ft_list, pt_list, out_list}
use Rattle.core_graph.specs.declared.graph.GraphFault.{GraphFault}
use Rattle.core_graph.specs.declared.graph.GraphFault.TheVariants as core
use Rattle.core_graph.specs.Limits.{AreFew, AreMany}
use Rattle.c2po_compile.specs.declared.build_fault.BuildFault.{BuildFault}
use Rattle.c2po_compile.specs.declared.build_fault.BuildFault.TheVariants.{TooManyNodes, TooLate, TooManySlots, Memory}

-- the worst-case delays of the future-time instructions of outputs
abbrev pub output_delays : List Asked → List ℕ
output_delays outs = worst_delays (ft_list outs)

-- the number of slots and boxes that the outputs need
abbrev pub slots_needed : List Asked → ℕ
slots_needed outs = slot_count (ft_list outs) (pt_list outs) (out_list outs)

-- the worst-case delay of each instruction is within the limit
abbrev pub AreInTime : List Asked → Type 0
AreInTime outs = All (λ rows. rows ≤ MAX_DELAY) (output_delays outs)

-- the worst-case delay of some instruction is above the limit
abbrev pub IsLate : List Asked → Type 0
IsLate outs = Any (λ rows. MAX_DELAY < rows) (output_delays outs)

-- the outputs are within all limits
pub record IsWithinLimits (outs : List Asked) : Type 0 where
  pub few : AreFew outs
  pub in_time : AreInTime outs
  pub fits : slots_needed outs ≤ MAX_SLOTS

-- the fault of a build for the fault of a graph
abbrev pub graph_limit : GraphFault → BuildFault
graph_limit core.TooManyNodes = TooManyNodes
graph_limit core.Memory = Memory

-- the outputs exceed the limit that the fault names, and no limit before it: nodes, then delays, then slots
abbrev pub IsReason : List Asked → BuildFault → Type 0
IsReason outs TooManyNodes = AreMany outs
IsReason outs TooLate = AreFew outs × IsLate outs
IsReason outs TooManySlots = AreFew outs × AreInTime outs × (MAX_SLOTS < slots_needed outs)
IsReason outs Memory = ⊤

-- the graph exceeds the limit that the fault names: a delay is above its limit, or no delay is and the slots exceed theirs
abbrev pub IsSizeReason : Graph → BuildFault → Type 0
IsSizeReason graph TooManyNodes = ⊥
IsSizeReason graph TooLate = Any (λ rows. MAX_DELAY < rows) (worst_delays graph.ft)
IsSizeReason graph TooManySlots =
    All (λ rows. rows ≤ MAX_DELAY) (worst_delays graph.ft) × (MAX_SLOTS < slot_count graph.ft graph.pt graph.outs)
IsSizeReason graph Memory = ⊤
