-- The frontiers of the queues of instructions after n rows (Kempa and others 2020), and the verdicts that they keep.
use Rattle.std.specs.Prelude.{◌≡◌, ℕ, ◌+◌, ◌-◌, ◌≤◌, ◌<◌, ◌^◌, List, length, slice_index, min, max, ⊤}
use Rattle.mltl_base.specs.declared.limits.TheConstants.{MAX_MISSION}
use Rattle.mltl_base.specs.declared.operators.FtOp.{FtOp}
use Rattle.mltl_base.specs.declared.operators.FtOp.TheVariants.{True, Load, Not, And, Until}
use Rattle.mltl_base.specs.declared.program.Out.{Out}
use Rattle.mltl_base.specs.Queues.{best_delays, worst_delays, readers, widest as widest_of}
use Rattle.scq_ring.specs.declared.Slot.{Slot}
use Rattle.scq_ring.specs.Runs.{Belongs, frontier_of, low_of}
use Rattle.mltl_base.specs.Seats.{part}
use Rattle.ft_engine.specs.declared.queue.Queue.{Queue}
use Rattle.ft_engine.specs.Queues.{AreLaid, IsAhead, op_at, queue_at}

-- The delays of instructions: best and worst case, and the greatest worst case among an instruction and all operands of its
-- readers.
pub record Plan : Type 0 where
  pub best : ℕ → ℕ
  pub worst : ℕ → ℕ
  pub widest : ℕ → ℕ

-- the delays of a program's instructions, and the widest delay that their readers require
abbrev pub plan_of : List FtOp → List Out → Plan
plan_of ops outs = record {
  best = λ i. slice_index (best_delays ops) i;
  worst = λ i. slice_index (worst_delays ops) i;
  widest = λ i. widest_of (worst_delays ops) (readers ops outs) i;
}

-- the delays follow from the operands' delays, and an operand keeps its verdicts for the slowest operand of its reader
abbrev pub IsSeated : Plan → ℕ → FtOp → Type 0
IsSeated plan i True = (plan.best i ≡ 0) × (plan.worst i ≡ 0)
IsSeated plan i (Load k) = (plan.best i ≡ 0) × (plan.worst i ≡ 0)
IsSeated plan i (Not g) =
    (g < i) × (plan.best i ≡ plan.best g) × (plan.worst i ≡ plan.worst g) × (plan.worst i ≤ plan.widest g)
IsSeated plan i (And l r) =
    (l < i) × (r < i)
    × (plan.best i ≡ min (plan.best l) (plan.best r))
    × (plan.worst i ≡ max (plan.worst l) (plan.worst r))
    × (plan.worst i ≤ plan.widest l) × (plan.worst i ≤ plan.widest r)
IsSeated plan i (Until l r window) =
    (l < i) × (r < i) × (window.lo ≤ window.hi) × (window.hi ≤ 2 ^ 20)
    × (plan.best i ≡ min (plan.best l) (plan.best r) + window.lo)
    × (plan.worst i ≡ max (plan.worst l) (plan.worst r) + window.hi)
    × (plan.worst i ≤ plan.widest l + window.hi) × (plan.worst i ≤ plan.widest r + window.hi)

-- the delays of an instruction follow from the delays of its operands, the best is at most the worst, and its queue is wide
-- enough
pub record IsPlanned (plan : Plan) (i : ℕ) (op : FtOp) : Type 0 where
  pub seated : IsSeated plan i op
  pub ordered : plan.best i ≤ plan.worst i
  pub wide : plan.worst i ≤ plan.widest i

-- the plan fits the instructions, and queues of these sizes
pub record IsPlannedFor (plan : Plan) (ops : List FtOp) (size : ℕ → ℕ) : Type 0 where
  pub planned : (i : ℕ) → i < length ops → IsPlanned plan i (op_at ops i)
  pub sizes : (i : ℕ) → i < length ops → size i ≡ plan.widest i - plan.best i + 1

-- an until reads next at a time within the plan, after n rows
abbrev pub ReadsNextAt : Plan → ℕ → FtOp → Queue → ℕ → Type 0
ReadsNextAt plan i True queue n = ⊤
ReadsNextAt plan i (Load k) queue n = ⊤
ReadsNextAt plan i (Not g) queue n = ⊤
ReadsNextAt plan i (And l r) queue n = ⊤
ReadsNextAt plan i (Until l r window) queue n =
    (frontier_of queue.ring + window.lo ≤ queue.reads_at)
    × (n + window.hi ≤ queue.reads_at + plan.worst i)
    × (queue.reads_at ≤ window.lo + (n - plan.best i))

-- After n rows the frontier lies from n less the worst to n less the best delay, and the low time is 0 or at most n - 1 less
-- the widest delay.
pub record Paced (plan : Plan) (i : ℕ) (queue : Queue) (slots : List Slot) (n : ℕ) : Type 0 where
  pub belongs : Belongs queue.ring slots
  pub long : length slots ≡ plan.widest i - plan.best i + 1
  pub at_least : n ≤ frontier_of queue.ring + plan.worst i
  pub at_most : frontier_of queue.ring ≤ n - plan.best i
  pub low : low_of queue.ring ≤ n - 1 - plan.widest i

-- After n rows, the instruction after these is on plan with its queue and its reading time, and has read all that its
-- operands both have.
pub record IsOnPlan (plan : Plan) (op : FtOp) (before : List Queue) (queue : Queue) (slots : List Slot) (n : ℕ) :
    Type 0 where
  pub paced : Paced plan (length before) queue slots n
  pub placed : ReadsNextAt plan (length before) op queue n
  pub ahead : IsAhead before op queue

-- the first i instructions have taken n rows
pub record ArePaced (plan : Plan) (queues : List Queue) (slab : List Slot) (n i : ℕ) : Type 0 where
  pub within : (j : ℕ) → j < i → (queue_at queues j).seat.start + (queue_at queues j).seat.size ≤ length slab
  pub each : (j : ℕ) → j < i → Paced plan j (queue_at queues j) (part slab (queue_at queues j).seat) n

-- an instruction can take row n: it is on plan after n rows, and the instructions before it have taken row n
pub record IsReadyForRow (plan : Plan) (n : ℕ) (op : FtOp) (before : List Queue) (earlier : List Slot) (queue : Queue)
    (own : List Slot) : Type 0 where
  pub planned : IsPlanned plan (length before) op
  pub operands : ArePaced plan before earlier (n + 1) (length before)
  pub paced : Paced plan (length before) queue own n
  pub placed : ReadsNextAt plan (length before) op queue n
  pub few : n < MAX_MISSION

-- by some plan, an instruction can take a row, and the instructions before it have taken it
abbrev pub CanTakeRow : FtOp → List Queue → List Slot → Queue → List Slot → Type 0
CanTakeRow op before earlier queue own = (plan : Plan) × (n : ℕ) × IsReadyForRow plan n op before earlier queue own

-- all instructions have taken n rows
pub record IsPaced (plan : Plan) (ops : List FtOp) (queues : List Queue) (slab : List Slot) (n : ℕ) : Type 0 where
  pub same_length : length queues ≡ length ops
  pub planned : (i : ℕ) → i < length ops → IsPlanned plan i (op_at ops i)
  pub laid : AreLaid queues slab
  pub paced : (i : ℕ) → i < length queues → Paced plan i (queue_at queues i) (part slab (queue_at queues i).seat) n
  pub placed : (i : ℕ) → i < length queues → ReadsNextAt plan i (op_at ops i) (queue_at queues i) n
  pub ahead : (i : ℕ) → i < length queues → IsAhead queues (op_at ops i) (queue_at queues i)
