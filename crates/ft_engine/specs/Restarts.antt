-- Queues that begin again.

use Rattle.std.specs.Prelude.{◌≡◌, ◌<◌, List, length}
use Rattle.mltl_base.specs.declared.operators.FtOp.{FtOp}
use Rattle.scq_ring.specs.declared.Slot.{Slot}
use Rattle.scq_ring.specs.Runs.{Belongs, frontier_of, low_of}
use Rattle.ft_engine.specs.declared.queue.Queue.{Queue}
use Rattle.ft_engine.specs.Queues.{first_read_of}

-- the queue of an instruction has no verdicts, whatever its slots hold
pub record IsEmptied (op : FtOp) (queue : Queue) : Type 0 where
  pub frontier : frontier_of queue.ring ≡ 0
  pub low : low_of queue.ring ≡ 0
  pub belongs : (slots : List Slot) → 0 < length slots → Belongs queue.ring slots
  pub reads_at : queue.reads_at ≡ first_read_of op
