-- The verdicts of instructions that are known after some rows, and a queue that has them.
use Rattle.std.specs.Prelude.{◌≡◌, ℕ, ◌+◌, ◌≤◌, ◌<◌, Bool, true, List, [], length, ℤ, Some, None, slice_get}
use Rattle.std.specs.Prelude.{slice_index_or, if◌then◌else◌, nat_lt, ⊤}
use Rattle.mltl_base.specs.declared.limits.TheConstants.{MAX_MISSION}
use Rattle.mltl_base.specs.declared.operators.FtOp.{FtOp}
use Rattle.mltl_base.specs.declared.operators.FtOp.TheVariants.{True, Load, Not, And, Until}
use Rattle.mltl_base.specs.Atoms.{Row, Atom, holds, is_true}
use Rattle.mltl_base.specs.Formula.{plain}
use Rattle.mltl_base.specs.Programs.{core_at, formulas}
use Rattle.mltl_base.specs.Verdicts.{Known, IsLongestKnown, k_negation, k_conjunction, k_until, verdicts}
use Rattle.booleanizer.specs.Evaluation.{IsTruthIn}
use Rattle.scq_ring.specs.declared.Ring.{Ring}
use Rattle.scq_ring.specs.declared.Slot.{Slot}
use Rattle.scq_ring.specs.Runs.{frontier_of, low_of, verdict_at}
use Rattle.mltl_base.specs.Seats.{part}
use Rattle.ft_engine.specs.declared.queue.Queue.{Queue}
use Rattle.ft_engine.specs.Queues.{op_at, queue_at}
use Rattle.ft_engine.specs.Scans.{Scan}
use Rattle.ft_engine.specs.Plans.{Plan, IsPaced, IsReadyForRow}

-- the known verdicts of each instruction, from time 0 on
abbrev pub VerdictTable : Type 0
VerdictTable = ℕ → List Bool

-- the values of atoms by time and number
abbrev pub Loads : Type 0
Loads = ℕ → ℕ → Bool

-- the known verdicts of the formula that each instruction unfolds to
abbrev pub known_table : List Row → List Atom → List FtOp → VerdictTable
known_table rows loaded ops i = verdicts rows (plain (core_at (formulas loaded ops) i))

-- the values of the atoms that instructions load, by row
abbrev pub truth_at : List Row → List Atom → Loads
truth_at rows loaded t k = holds (slice_index_or loaded k (is_true 0)) (slice_index_or rows t [])

-- the strong Kleene value of an instruction by time after n rows, over the known values of its operands
abbrev pub kleene_value : FtOp → Loads → ℕ → VerdictTable → Known
kleene_value True truth n table t = if nat_lt t n then Some true else None
kleene_value (Load k) truth n table t = if nat_lt t n then Some (truth t k) else None
kleene_value (Not g) truth n table t = k_negation (slice_get (table g)) t
kleene_value (And l r) truth n table t = k_conjunction (slice_get (table l)) (slice_get (table r)) t
kleene_value (Until l r window) truth n table t = k_until window (slice_get (table l)) (slice_get (table r)) t

-- each instruction has the longest list of values that are known after n rows
pub record IsTable (ops : List FtOp) (truth : Loads) (n : ℕ) (table : VerdictTable) : Type 0 where
  pub each : (i : ℕ) → i < length ops → IsLongestKnown (kleene_value (op_at ops i) truth n table) n (table i)

-- each verdict of the old table is in the new one
pub record Extends (old new : VerdictTable) : Type 0 where
  pub each : (i t : ℕ) (v : Bool) → slice_get (old i) t ≡ Some v → slice_get (new i) t ≡ Some v

-- the queue's frontier is the number of verdicts, and it has them from its low time on
pub record HasVerdicts (ring : Ring) (slots : List Slot) (verdicts : List Bool) : Type 0 where
  pub count : frontier_of ring ≡ length verdicts
  pub kept : (t : ℕ) → low_of ring ≤ t → t < frontier_of ring → slice_get verdicts t ≡ Some (verdict_at ring slots t)

-- an until has scanned its operands up to its reading time
abbrev pub IsScanned : FtOp → VerdictTable → Queue → Type 0
IsScanned True table queue = ⊤
IsScanned (Load k) table queue = ⊤
IsScanned (Not g) table queue = ⊤
IsScanned (And l r) table queue = ⊤
IsScanned (Until l r window) table queue =
    Scan window (slice_get (table l)) (slice_get (table r)) (frontier_of queue.ring) queue.reads_at queue.reads_at

-- the queue of an instruction has its verdicts, and an until has scanned its operands as far as it reads
pub record IsUpToDate (op : FtOp) (table : VerdictTable) (before : List Queue) (queue : Queue)
    (own : List Slot) : Type 0 where
  pub verdicts : HasVerdicts queue.ring own (table (length before))
  pub scanned : IsScanned op table queue

-- an instruction can take row n: its operands have the verdicts after that row, and its queue has the verdicts before it
pub record KnowsVerdicts (plan : Plan) (truth : Loads) (n : ℕ) (op : FtOp) (before : List Queue) (earlier : List Slot)
    (queue : Queue) (own : List Slot) (old new : VerdictTable) : Type 0 where
  pub ready : IsReadyForRow plan n op before earlier queue own
  pub longest : IsLongestKnown (kleene_value op truth (n + 1) new) (n + 1) (new (length before))
  pub extends : Extends old new
  pub operands : (j : ℕ) → j < length before
      → HasVerdicts (queue_at before j).ring (part earlier (queue_at before j).seat) (new j)
  pub verdicts : HasVerdicts queue.ring own (old (length before))
  pub scanned : IsScanned op old queue

-- all queues have their verdicts
pub record HaveVerdicts (ops : List FtOp) (table : VerdictTable) (queues : List Queue) (slab : List Slot) : Type 0 where
  pub verdicts : (i : ℕ) → i < length queues
      → HasVerdicts (queue_at queues i).ring (part slab (queue_at queues i).seat) (table i)
  pub scanned : (i : ℕ) → i < length queues → IsScanned (op_at ops i) table (queue_at queues i)

-- queues can take a row: after n rows they have the verdicts of the old table, and the new table is the table after the row
pub record QueuesTake (plan : Plan) (truth : Loads) (n : ℕ) (ops : List FtOp) (queues : List Queue) (slab : List Slot)
    (old new : VerdictTable) : Type 0 where
  pub few : n < MAX_MISSION
  pub paced : IsPaced plan ops queues slab n
  pub table : IsTable ops truth (n + 1) new
  pub extends : Extends old new
  pub verdicts : HaveVerdicts ops old queues slab

-- the value that an instruction loads is its value among the numbers of the row
abbrev pub Agrees : FtOp → (ℕ → Bool) → List ℤ → Type 0
Agrees op truth numbers = (k : ℕ) (v : Bool) → op ≡ Load k → IsTruthIn numbers k v → truth k ≡ v

-- the values that all instructions load are their values among the numbers of the row
abbrev pub AgreeOnLoads : List FtOp → (ℕ → Bool) → List ℤ → Type 0
AgreeOnLoads ops truth numbers = (i : ℕ) → i < length ops → Agrees (op_at ops i) truth numbers
