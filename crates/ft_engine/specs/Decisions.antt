-- The known values of an operand, and the decisions of an operator.
use Rattle.std.specs.Prelude.{◌≡◌, ℕ, ◌+◌, ◌-◌, ◌<◌, ◌≤◌, max, min, List, length, Some, None, IsSome, ⊤}
use Rattle.mltl_base.specs.Verdicts.{Known}
use Rattle.scq_ring.specs.declared.Ring.{Ring}
use Rattle.scq_ring.specs.declared.Slot.{Slot}
use Rattle.scq_ring.specs.declared.Seen.{Seen}
use Rattle.scq_ring.specs.declared.Seen.TheVariants.{Run, Nothing}
use Rattle.scq_ring.specs.Runs.{Belongs, frontier_of, low_of, runs_from, verdict_at}
use Rattle.ft_engine.specs.declared.operand.Operand.{Operand}

-- the known values end at the ring's frontier, and from the low time on the ring has them
pub record Shown (ring : Ring) (slots : List Slot) (known : Known) : Type 0 where
  pub kept : (t : ℕ) → low_of ring ≤ t → t < frontier_of ring → known t ≡ Some (verdict_at ring slots t)
  pub ends : (t : ℕ) → frontier_of ring ≤ t → known t ≡ None

-- an operand can be read from a time on
pub record CanBeReadFrom (operand : Operand) (from : ℕ) : Type 0 where
  pub belongs : Belongs operand.ring.now operand.slots.now
  pub kept : low_of operand.ring.now ≤ from

-- both operands can be read from a time on
pub record CanBothBeReadFrom (left right : Operand) (from : ℕ) : Type 0 where
  pub of_left : CanBeReadFrom left from
  pub of_right : CanBeReadFrom right from

-- the first time at which one of two operands has no verdict yet
abbrev pub first_end : Operand → Operand → ℕ
first_end left right = min (frontier_of left.ring.now) (frontier_of right.ring.now)

-- the first time at which neither of two operands has a verdict yet
abbrev pub last_end : Operand → Operand → ℕ
last_end left right = max (frontier_of left.ring.now) (frontier_of right.ring.now)

-- the operand's queue shows the known values
abbrev pub ShownBy : Operand → Known → Type 0
ShownBy operand known = Shown operand.ring.now operand.slots.now known

-- the ring goes on over its slots: no kept verdict changes, and the low time rises no further than the slots require
pub record GoesOn (old : Ring) (old_slots : List Slot) (new : Ring) (new_slots : List Slot) : Type 0 where
  pub belongs : Belongs new new_slots
  pub onward : frontier_of old ≤ frontier_of new
  pub rises : low_of old ≤ low_of new
  pub bounded : low_of new ≤ max (low_of old) (frontier_of new - length old_slots)
  pub kept : (t : ℕ) → low_of new ≤ t → t < frontier_of old → verdict_at new new_slots t ≡ verdict_at old old_slots t

-- the ring goes as far as both operands do, and no further than one of them
pub record GoesAsFar (left right : Operand) (old new : Ring) : Type 0 where
  pub enough : first_end left right ≤ frontier_of new
  pub no_further : frontier_of new ≤ max (frontier_of old) (last_end left right)

-- from time `start` on the ring has the values, and there is none at its frontier: it has decided all that can be known
pub record Decides (value : Known) (ring : Ring) (slots : List Slot) (start : ℕ) : Type 0 where
  pub known : (t : ℕ) → start ≤ t → t < frontier_of ring → IsSome (value t)
  pub verdicts : (t : ℕ) → start ≤ t → low_of ring ≤ t → t < frontier_of ring → value t ≡ Some (verdict_at ring slots t)
  pub stuck : value (frontier_of ring) ≡ None

-- all times of the run have the value, from time `from` on; without a run the value isn't known at `from`
abbrev pub IsStretch : Known → ℕ → Seen → Type 0
IsStretch value from (Run end v) = (t : ℕ) → from ≤ t → t ≤ end → value t ≡ Some v
IsStretch value from Nothing = value from ≡ None

-- a run includes its first time and ends before `end`
abbrev pub RunEndsBefore : ℕ → ℕ → Seen → Type 0
RunEndsBefore from end (Run upto v) = (from ≤ upto) × (upto < end)
RunEndsBefore from end Nothing = ⊤

-- nothing is shown only if the first operand that ends has ended
abbrev pub IsStoppedAfter : ℕ → ℕ → Seen → Type 0
IsStoppedAfter end from (Run upto v) = ⊤
IsStoppedAfter end from Nothing = end ≤ from

-- the number of runs of an operand that end at or after a time
abbrev pub operand_runs : Operand → ℕ → ℕ
operand_runs operand from = runs_from operand.ring.now operand.slots.now from

-- if a run is shown, at least one run less of the two operands ends after it than at or after its first time
abbrev pub TakesOne : Operand → Operand → ℕ → Seen → Type 0
TakesOne left right from (Run upto v) =
    operand_runs left (upto + 1) + operand_runs right (upto + 1) + 1 ≤ operand_runs left from + operand_runs right from
TakesOne left right from Nothing = ⊤
