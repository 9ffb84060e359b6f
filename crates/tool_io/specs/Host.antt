-- The effect of a host's calls on its counts of faults, its log and the bytes left to be read.
use Rattle.std.specs.Prelude.{◌≡◌, ◌≢◌, ℕ, ◌+◌, ◌-◌, ◌^◌, ◌<◌, ◌≤◌, ◌⊎◌, min, Option, Some, None, List, [], ◌∷◌, ◌++◌}
use Rattle.std.specs.Prelude.{length, take, drop, ⊤}
use Rattle.tool_io.specs.declared.host.Place.{Place}
use Rattle.tool_io.specs.declared.host.Place.TheVariants.{Out, Err}
use Rattle.tool_io.specs.declared.host.Attached as attached
use Rattle.tool_io.specs.declared.host.Got as got
use Rattle.tool_io.specs.declared.host.Put as put
use Rattle.tool_io.specs.Counts.{one_more}
use Rattle.tool_io.specs.Log.{Event, Attached, Missed, Took, Gave, Appends}

-- the place is written: Out and Err are
abbrev pub IsSink : Place → Type 0
IsSink Out = ⊤
IsSink Err = ⊤
IsSink p = ⊥

-- the place is read: all others are
abbrev pub IsSource : Place → Type 0
IsSource Out = ⊥
IsSource Err = ⊥
IsSource p = ⊤

-- the count rose, or is at a counter's last value
abbrev pub Rose : ℕ → ℕ → Type 0
Rose before now = min (before + 1) (2 ^ 64 - 1) ≤ now

-- the count rose by one, as a counter does: exactly one call failed
abbrev pub RoseByOne : ℕ → ℕ → Type 0
RoseByOne before now = now ≡ one_more before

-- the count of this place rose by one, and the others stayed
pub record RoseAt (before now : Place → ℕ) (place : Place) : Type 0 where
  pub rose : RoseByOne (before place) (now place)
  pub others : (other : Place) → other ≢ place → now other ≡ before other

-- no count changed
abbrev pub NoFault : (Place → ℕ) → (Place → ℕ) → Type 0
NoFault before now = (place : Place) → now place ≡ before place

-- a failed attach raised the count of its place by one, and no other attach changes a count
abbrev pub AttachCause : attached.Attached → (Place → ℕ) → (Place → ℕ) → Place → Type 0
AttachCause attached.TheVariants.Ready before now place = NoFault before now
AttachCause attached.TheVariants.Failed before now place = RoseAt before now place

-- a failed read raised the count of its place by one, and no other read changes a count
abbrev pub ReadCause : got.Got → (Place → ℕ) → (Place → ℕ) → Place → Type 0
ReadCause got.TheVariants.Failed before now place = RoseAt before now place
ReadCause (got.TheVariants.Bytes n) before now place = NoFault before now
ReadCause got.TheVariants.End before now place = NoFault before now

-- a failed write raised the count of its place by one, and no other write changes a count
abbrev pub WriteCause : put.Put → (Place → ℕ) → (Place → ℕ) → Place → Type 0
WriteCause put.TheVariants.Failed before now place = RoseAt before now place
WriteCause (put.TheVariants.Wrote n) before now place = NoFault before now

-- an attach logs its place and name, and a failed one need not
abbrev pub AttachLog : attached.Attached → Option (List Event) → Option (List Event) → Place → List ℕ → Type 0
AttachLog attached.TheVariants.Ready before now place name = Appends before now (Attached place name ∷ [])
AttachLog attached.TheVariants.Failed before now place name =
    Appends before now (Missed place name ∷ []) ⊎ Appends before now []

-- a read puts bytes at the start of the slice and logs them, or logs that it reached the end
abbrev pub ReadLog : got.Got → Option (List Event) → Option (List Event) → Place → List ℕ → Type 0
ReadLog (got.TheVariants.Bytes n) before now place into = Appends before now (Took place (take n into) ∷ [])
ReadLog got.TheVariants.End before now place into = Appends before now (Took place [] ∷ [])
ReadLog got.TheVariants.Failed before now place into = Appends before now []

-- a read gives one byte or more, and no more than the slice holds
abbrev pub ReadRange : got.Got → List ℕ → Type 0
ReadRange (got.TheVariants.Bytes n) into = (0 < n) × (n ≤ length into)
ReadRange got.TheVariants.End into = ⊤
ReadRange got.TheVariants.Failed into = ⊤

-- if the bytes left are known, a read returns a prefix of them, and reaches the end exactly if none is left
abbrev pub ReadLeft : got.Got → Option (List ℕ) → Option (List ℕ) → List ℕ → Type 0
ReadLeft (got.TheVariants.Bytes n) (Some left) now into =
    (left ≡ take n into ++ drop n left) × (now ≡ Some (drop n left))
ReadLeft got.TheVariants.End (Some left) now into = (left ≡ []) × (now ≡ Some [])
ReadLeft got.TheVariants.Failed (Some left) now into = now ≡ Some left
ReadLeft result None now into = ⊤

-- the bytes left stay the same at every place other than this one
abbrev pub LeftElsewhere : (Place → Option (List ℕ)) → (Place → Option (List ℕ)) → Place → Type 0
LeftElsewhere before now place = (other : Place) → other ≢ place → now other ≡ before other

-- the bytes left stay the same at every place
abbrev pub LeftAlone : (Place → Option (List ℕ)) → (Place → Option (List ℕ)) → Type 0
LeftAlone before now = (place : Place) → now place ≡ before place

-- a write logs the prefix that went out
abbrev pub WriteLog : put.Put → Option (List Event) → Option (List Event) → Place → List ℕ → Type 0
WriteLog (put.TheVariants.Wrote n) before now place piece = Appends before now (Gave place (take n piece) ∷ [])
WriteLog put.TheVariants.Failed before now place piece = Appends before now []

-- a write sends one byte or more, and no more than the piece holds
abbrev pub WriteRange : put.Put → List ℕ → Type 0
WriteRange (put.TheVariants.Wrote n) piece = (0 < n) × (n ≤ length piece)
WriteRange put.TheVariants.Failed piece = ⊤
