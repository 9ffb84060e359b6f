-- Members of a list that have parts of one slab, for members and slabs of any type.
use Rattle.std.specs.Prelude.{ℕ, ◌+◌, ◌≤◌, ◌<◌, List, slice_index_or, take, drop}
use Rattle.mltl_base.specs.declared.seat.Seat.{Seat}

-- the part of the slab at a seat
abbrev pub part : {S : Type 0} → List S → Seat → List S
part slab seat = take seat.size (drop seat.start slab)

-- an empty seat
abbrev pub no_seat : Seat
no_seat = record { start = 0; size = 0 }

-- the parts of the first i members follow one another, and end at `end`
pub record AreSeated {N : Type 0} (none : N) (seat : N → Seat) (nodes : List N) (end i : ℕ) : Type 0 where
  pub within : (j : ℕ) → j < i → (seat (slice_index_or nodes j none)).start
      + (seat (slice_index_or nodes j none)).size ≤ end
  pub apart : (j k : ℕ) → j < k → k < i
      → (seat (slice_index_or nodes j none)).start
      + (seat (slice_index_or nodes j none)).size ≤ (seat (slice_index_or nodes k none)).start
