-- The conditions under which a graph has sizes, its delays, and its sizes.

use Rattle.std.specs.Prelude.{◌≡◌, ◌<◌, ◌≤◌, ◌^◌, List, All, length}
use Rattle.mltl_base.specs.declared.limits.TheConstants.{MAX_BOUND, MAX_DELAY}
use Rattle.mltl_base.specs.declared.operators.FtOp.{FtOp}
use Rattle.mltl_base.specs.declared.program.Graph.{Graph}
use Rattle.mltl_base.specs.declared.program.Sizes.{Sizes}
use Rattle.mltl_base.specs.Queues.{AreInOrder, HasBounds, HasPastBounds, NamesInstructions, best_delays, worst_delays}
use Rattle.mltl_base.specs.Queues.{queue_lengths, box_counts}
use Rattle.delay_sizes.specs.declared.delay_lists.Delays.{Delays}

-- the delays are the delays of the instructions, and none is above the limit
pub record AreDelaysOf (ft : List FtOp) (delays : Delays) : Type 0 where
  pub best : delays.best ≡ best_delays ft
  pub worst : delays.worst ≡ worst_delays ft
  pub in_time : All (λ rows. rows ≤ MAX_DELAY) delays.worst

-- the graph has sizes: operands come before their instructions, intervals are within the limit, outputs read instructions of
-- the graph, and the numbers of instructions have 32 bits
pub record IsSizable (graph : Graph) : Type 0 where
  pub few_ft : length graph.ft < 2 ^ 32
  pub few_pt : length graph.pt < 2 ^ 32
  pub in_order : AreInOrder graph.ft
  pub bounded : All (HasBounds MAX_BOUND) graph.ft
  pub bounded_past : All (HasPastBounds MAX_BOUND) graph.pt
  pub named : All (NamesInstructions (length graph.ft) (length graph.pt)) graph.outs

-- the sizes are the sizes that the graph needs: the length of each queue and the boxes of each Since
pub record AreSizesOf (graph : Graph) (sizes : Sizes) : Type 0 where
  pub ft : sizes.ft ≡ queue_lengths graph.ft graph.outs
  pub pt : sizes.pt ≡ box_counts graph.pt
