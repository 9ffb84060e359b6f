-- The values that a ring and its slots represent: a frontier, a low time, and a verdict for each time from the low time to
-- the frontier - 1.
use Rattle.std.specs.Prelude.{◌≡◌, ◌≢◌, ℕ, ◌+◌, ◌-◌, ◌<◌, ◌≤◌, ◌⊎◌, Bool, false, List, [], ◌∷◌, ◌++◌, length}
use Rattle.std.specs.Prelude.{max, slice_index_or, take, drop, if◌then◌else◌, nat_le, nat_lt, ⊤}
use Rattle.scq_ring.specs.declared.runs.Ring.{Ring}
use Rattle.scq_ring.specs.declared.runs.Slot.{Slot}
use Rattle.scq_ring.specs.declared.runs.Seen.{Seen}
use Rattle.scq_ring.specs.declared.runs.Seen.TheVariants.{Run, Nothing}

-- the n members from index k on, continued at the front past the end
abbrev pub window : {X : Type 0} → ℕ → ℕ → List X → List X
window k n xs = take n (drop k xs ++ take k xs)

-- the index of the member that comes k after index `oldest`, of n members in a ring
abbrev pub ring_index_of : ℕ → ℕ → ℕ → ℕ
ring_index_of oldest k n = if nat_lt k (n - oldest) then oldest + k else k - (n - oldest)

-- the verdict at t, from the first run that reaches up to t
abbrev pub holds_in : List Slot → ℕ → Bool
holds_in [] t = false
holds_in (run ∷ runs) t = if nat_le t run.upto then run.value else holds_in runs t

-- the slot past the end of a list of runs
abbrev pub no_slot : Slot
no_slot = record { upto = 0; value = false }

-- the runs cover the times from `low` to `end` - 1, one after another, and none is empty
abbrev pub Spans : ℕ → List Slot → ℕ → Type 0
Spans low [] end = low ≡ end
Spans low (run ∷ runs) end = (low ≤ run.upto) × Spans (run.upto + 1) runs end

-- the value of the first of these runs, or of the newest one if there are none before it
abbrev pub first_value : List Slot → Bool → Bool
first_value [] newest = newest
first_value (run ∷ runs) newest = run.value

-- each of these runs has another value than the run after it; the newest run comes after the last one
abbrev pub Alternate : List Slot → Bool → Type 0
Alternate [] newest = ⊤
Alternate (run ∷ runs) newest = (run.value ≢ first_value runs newest) × Alternate runs newest

-- the runs before the newest one that are kept, oldest first
abbrev pub runs_of : Ring → List Slot → List Slot
runs_of ring slots = window ring.oldest ring.used slots

-- the last time of run k of the kept runs
abbrev pub upto_at : List Slot → ℕ → ℕ
upto_at runs k = (slice_index_or runs k no_slot).upto

-- the first time that has no verdict yet
unfoldable pub frontier_of : Ring → ℕ
frontier_of ring = ring.frontier

-- the first time whose verdict is kept
unfoldable pub low_of : Ring → ℕ
low_of ring = ring.low

-- the verdict at a time from the low time to the frontier - 1: from the start of the newest run on, the newest verdict
unfoldable pub verdict_at : Ring → List Slot → ℕ → Bool
verdict_at ring slots t = if nat_le ring.since t then ring.value else holds_in (runs_of ring slots) t

-- the slots belong to the ring: they hold the runs before the newest one, which isn't empty after the first write
pub record Belongs (ring : Ring) (slots : List Slot) : Type 0 where
  pub oldest_in : ring.oldest < length slots
  pub used_in : ring.used ≤ length slots
  pub spans : Spans ring.low (runs_of ring slots) ring.since
  pub begun : ring.since ≤ ring.frontier
  pub some_time : 0 < ring.frontier → ring.since < ring.frontier
  -- so each run is the longest one of its verdict
  pub alternate : Alternate (runs_of ring slots) ring.value

-- the newest run stays as it is
pub record KeepsNewest (old new : Ring) : Type 0 where
  pub frontier : new.frontier ≡ old.frontier
  pub since : new.since ≡ old.since
  pub value : new.value ≡ old.value

-- the slots hold all runs up to the frontier, also the newest one; if they were full, the oldest run was dropped
pub record IsClosed (old : Ring) (old_slots : List Slot) (new : Ring) (new_slots : List Slot) : Type 0 where
  pub oldest_in : new.oldest < length new_slots
  pub used_in : new.used ≤ length new_slots
  pub spans : Spans new.low (runs_of new new_slots) new.frontier
  pub alternate : (next : Bool) → next ≢ old.value → Alternate (runs_of new new_slots) next
  pub frontier : new.frontier ≡ old.frontier
  pub rises : old.low ≤ new.low
  pub bounded : (new.low ≡ old.low) ⊎ (new.low + length old_slots ≤ old.frontier)
  pub kept : (t : ℕ) → new.low ≤ t → t < old.frontier → holds_in (runs_of new new_slots) t ≡ verdict_at old old_slots t

-- the ring has the value at each time from its old frontier up to this one; if the slots were full, the oldest run was
-- dropped
pub record IsTurned (old : Ring) (old_slots : List Slot) (upto : ℕ) (value : Bool) (new : Ring)
    (new_slots : List Slot) : Type 0 where
  pub belongs : Belongs new new_slots
  pub frontier : new.frontier ≡ upto + 1
  pub rises : old.low ≤ new.low
  pub bounded : (new.low ≡ old.low) ⊎ (new.low + length old_slots ≤ upto)
  pub kept : (t : ℕ) → new.low ≤ t → t < old.frontier → verdict_at new new_slots t ≡ verdict_at old old_slots t
  pub written : (t : ℕ) → old.frontier ≤ t → t ≤ upto → verdict_at new new_slots t ≡ value

-- the run in the slots that holds a time is one from `first` to `last`: earlier runs end before it, and the last one doesn't
pub record IsAround (ring : Ring) (slots : List Slot) (from first last : ℕ) : Type 0 where
  pub ordered : first ≤ last
  pub within : last < ring.used
  pub below : (k : ℕ) → k < first → upto_at (runs_of ring slots) k < from
  pub reached : from ≤ upto_at (runs_of ring slots) last

-- all times from `from` to `end` have the value, and the time after them, if it has a verdict, has another one
pub record IsLongestRun (frontier : ℕ) (verdict : ℕ → Bool) (from end : ℕ) (value : Bool) : Type 0 where
  pub upward : from ≤ end
  pub known : end < frontier
  pub alike : (t : ℕ) → from ≤ t → t ≤ end → verdict t ≡ value
  pub ends : end + 1 < frontier → verdict (end + 1) ≢ value

-- a read from time `from` on shows the longest run from there; nothing exactly at or past the frontier
abbrev pub Shows : Ring → List Slot → ℕ → Seen → Type 0
Shows ring slots from (Run end value) = IsLongestRun (frontier_of ring) (verdict_at ring slots) from end value
Shows ring slots from Nothing = frontier_of ring ≤ from

-- the number of these runs that end at or after a time
abbrev pub runs_to : ℕ → List Slot → ℕ
runs_to from [] = 0
runs_to from (run ∷ runs) = (if nat_le from run.upto then 1 else 0) + runs_to from runs

-- the number of runs of a ring, with the newest one, that end at or after a time
unfoldable pub runs_from : Ring → List Slot → ℕ → ℕ
runs_from ring slots from = runs_to from (runs_of ring slots) + (if nat_lt from ring.frontier then 1 else 0)

-- a run that is shown counts among the runs from the read's time on, but not among the runs after its end
abbrev pub TakesRun : Ring → List Slot → ℕ → Seen → Type 0
TakesRun ring slots from (Run end value) = runs_from ring slots (end + 1) + 1 ≤ runs_from ring slots from
TakesRun ring slots from Nothing = ⊤

-- after a write of the value up to this time no kept verdict changes, and times are dropped no further than the slots
-- require
pub record IsWritten (old : Ring) (old_slots : List Slot) (upto : ℕ) (value : Bool) (new : Ring)
    (new_slots : List Slot) : Type 0 where
  pub belongs : Belongs new new_slots
  pub frontier : frontier_of new ≡ upto + 1
  pub rises : low_of old ≤ low_of new
  pub bounded : low_of new ≤ max (low_of old) (upto + 1 - length old_slots)
  pub kept : (t : ℕ) → low_of new ≤ t → t < frontier_of old → verdict_at new new_slots t ≡ verdict_at old old_slots t
  pub written : (t : ℕ) → frontier_of old ≤ t → t ≤ upto → verdict_at new new_slots t ≡ value

-- the slot holds no verdict
unfoldable pub IsClear : Slot → Type 0
IsClear slot = (slot.upto ≡ 0) × (slot.value ≡ false)

-- a ring without verdicts: the ring past the end of a list of rings
unfoldable pub no_ring : Ring
no_ring = record { frontier = 0; low = 0; since = 0; oldest = 0; used = 0; value = false }
