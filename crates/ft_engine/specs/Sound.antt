-- The fact that each ring has its part of the slab has at most one proof.
use Rattle.std.specs.Prelude.{ℕ, ◌+◌, Bool, List, [], ◌∷◌}
use Rattle.std.proofs.Props.{props}
use Rattle.scq_ring.specs.declared.Ring.{Ring}
use Rattle.scq_ring.specs.declared.Slot.{Slot}
use Rattle.scq_ring.specs.Runs.{Alternate, Belongs, Spans}
use Rattle.ft_engine.specs.declared.queue.Queue.{Queue}
use Rattle.ft_engine.specs.Queues.{QueuesAreSound}

-- the fact that runs follow one another without a gap has at most one proof
pub Spans-prop : (low : ℕ) (runs : List Slot) (end : ℕ) → IsProp (Spans low runs end)
Spans-prop low [] end = hlevel props
Spans-prop low (r ∷ rs) end = hlevel (props, Spans-prop (r.upto + 1) rs end)

-- the fact that neighbouring runs differ has at most one proof
pub Alternate-prop : (runs : List Slot) (newest : Bool) → IsProp (Alternate runs newest)
Alternate-prop [] newest = hlevel props
Alternate-prop (r ∷ rs) newest = hlevel (props, Alternate-prop rs newest)

-- the fact that slots belong to a ring has at most one proof
pub Belongs-prop : (ring : Ring) (slots : List Slot) → IsProp (Belongs ring slots)
Belongs-prop ring slots = hlevel (props, Spans-prop, Alternate-prop)

-- the fact that each ring of the queues has its own slots has at most one proof
pub AreSound-prop : (queues : List Queue) (slab : List Slot) → IsProp (QueuesAreSound queues slab)
AreSound-prop queues slab = hlevel (props, Belongs-prop)
