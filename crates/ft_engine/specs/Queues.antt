-- The queues of instructions, and their parts of the slab.
use Rattle.std.specs.Prelude.{◌≡◌, ℕ, zero, suc, ◌+◌, ◌*◌, ◌≤◌, ◌<◌, List, length, max, min, slice_index_or, ⊤}
use Rattle.mltl_base.specs.declared.operators.FtOp.{FtOp}
use Rattle.mltl_base.specs.declared.operators.FtOp.TheVariants.{True, Load, Not, And, Until}
use Rattle.scq_ring.specs.declared.Slot.{Slot}
use Rattle.scq_ring.specs.Runs.{Belongs, frontier_of, no_ring}
use Rattle.mltl_base.specs.Seats.{AreSeated, no_seat, part}
use Rattle.ft_engine.specs.declared.queue.Queue.{Queue}

-- instruction i, True past the last one
abbrev pub op_at : List FtOp → ℕ → FtOp
op_at ops i = slice_index_or ops i True

-- the queue past the end of a list of queues
abbrev pub no_queue : Queue
no_queue = record { ring = no_ring; reads_at = 0; seat = no_seat }

-- queue i; past the last one, a queue without slots
abbrev pub queue_at : List Queue → ℕ → Queue
queue_at queues i = slice_index_or queues i no_queue

-- the parts of the slab follow one another and end within it
abbrev pub AreLaid : List Queue → List Slot → Type 0
AreLaid queues slab = AreSeated no_queue (λ queue. queue.seat) queues (length slab) (length queues)

-- each ring has its part of the slab
pub record QueuesAreSound (queues : List Queue) (slab : List Slot) : Type 0 where
  pub within : (j : ℕ) → j < length queues
      → (queue_at queues j).seat.start + (queue_at queues j).seat.size ≤ length slab
  pub belongs : (j : ℕ) → j < length queues
      → Belongs (queue_at queues j).ring (part slab (queue_at queues j).seat)

-- each queue keeps its part of the slab
pub record KeepsSeats (old new : List Queue) : Type 0 where
  pub same_length : length new ≡ length old
  pub seat : (j : ℕ) → (queue_at new j).seat ≡ (queue_at old j).seat

-- the slots of a queue
abbrev pub size_in : List Queue → ℕ → ℕ
size_in queues i = (queue_at queues i).seat.size

-- the greatest size of an operand's queue
abbrev pub operand_size : (ℕ → ℕ) → FtOp → ℕ
operand_size size True = 0
operand_size size (Load k) = 0
operand_size size (Not g) = size g
operand_size size (And l r) = max (size l) (size r)
operand_size size (Until l r window) = max (size l) (size r)

-- the most steps that an instruction takes in one row, if its own queue has this many slots
abbrev pub work_of : (ℕ → ℕ) → FtOp → ℕ → ℕ
work_of size op own = 4 * (operand_size size op + own + 2)

-- the most steps of the first n instructions in one row
abbrev pub work_before : List FtOp → (ℕ → ℕ) → ℕ → ℕ
work_before ops size zero = 0
work_before ops size (suc n) = work_before ops size n + work_of size (op_at ops n) (size n)

-- the time at which an instruction reads its operands first
abbrev pub first_read_of : FtOp → ℕ
first_read_of True = 0
first_read_of (Load k) = 0
first_read_of (Not g) = 0
first_read_of (And l r) = 0
first_read_of (Until l r window) = window.lo

-- the time at which an instruction reads its operands next: an until at its reading time, another one at its own frontier
abbrev pub reads_from : FtOp → Queue → ℕ
reads_from True queue = frontier_of queue.ring
reads_from (Load k) queue = frontier_of queue.ring
reads_from (Not g) queue = frontier_of queue.ring
reads_from (And l r) queue = frontier_of queue.ring
reads_from (Until l r window) queue = queue.reads_at

-- a reading time is at least the least frontier of the operands
abbrev pub ReadsAhead : FtOp → (ℕ → ℕ) → ℕ → Type 0
ReadsAhead True frontier reads_at = ⊤
ReadsAhead (Load k) frontier reads_at = ⊤
ReadsAhead (Not g) frontier reads_at = frontier g ≤ reads_at
ReadsAhead (And l r) frontier reads_at = min (frontier l) (frontier r) ≤ reads_at
ReadsAhead (Until l r window) frontier reads_at = min (frontier l) (frontier r) ≤ reads_at

-- the queue reads its operands at or past the least frontier of their queues
abbrev pub IsAhead : List Queue → FtOp → Queue → Type 0
IsAhead queues op queue = ReadsAhead op (λ i. frontier_of (queue_at queues i).ring) (reads_from op queue)
