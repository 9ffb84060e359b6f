-- The cut that the fields of a LineCut represent, and the effect of its steps on the cut.
use Rattle.std.specs.Prelude.{◌≡◌, ℕ, ◌+◌, ◌<◌, ◌≤◌, true, false, if◌then◌else◌, Option, Some, None, List, [], ◌∷◌}
use Rattle.std.specs.Prelude.{◌++◌, length, take, drop}
use Rattle.std.specs.List.{slice_range}
use Rattle.mltl_base.specs.declared.limits.TheConstants.{MAX_LINE_BYTES}
use Rattle.tool_io.specs.declared.host.Place.{Place}
use Rattle.tool_io.specs.declared.host.Got as got
use Rattle.tool_io.specs.declared.line_cut.LineCut.TheInside.{Inside}
use Rattle.tool_io.specs.Log.{Event, Took, Appends}
use Rattle.tool_io.specs.Cutting.{Cutting, IsRow, next_number}

-- the line of the last Row
abbrev pub row_bytes : Inside → List ℕ
row_bytes cut = slice_range cut.buffer cut.start cut.next

-- the bytes after that line
abbrev pub rest_bytes : Inside → List ℕ
rest_bytes cut = slice_range cut.buffer cut.next cut.end

-- the cut that the fields represent
abbrev pub cut_of : Inside → Cutting
cut_of cut = record {
  pending = (if cut.kept then row_bytes cut else []) ++ rest_bytes cut;
  row = if cut.row then Some (row_bytes cut) else None;
  kept = cut.kept;
  ended = cut.ended;
  number = cut.number;
}

-- the buffer has room for a line, its places are in order, and after a Row its line is a row
pub record HoldsRows (cut : Inside) : Type 0 where
  pub room : length cut.buffer ≡ MAX_LINE_BYTES
  pub from : cut.start ≤ cut.next
  pub to : cut.next ≤ cut.end
  pub within : cut.end ≤ MAX_LINE_BYTES
  pub row : cut.row ≡ true → IsRow (row_bytes cut) (rest_bytes cut) cut.ended
  pub kept : cut.kept ≡ true → cut.row ≡ true

-- a read adds a piece to the pending bytes, or meets the end, or changes nothing
abbrev pub FillsCut : got.Got → Cutting → Cutting → Option (List Event) → Option (List Event) → Place → Type 0
FillsCut (got.TheVariants.Bytes n) old new before now place =
    (piece : List ℕ) × (length piece ≡ n) × (0 < n) × (length old.pending + n ≤ MAX_LINE_BYTES)
    × Appends before now (Took place piece ∷ []) × (new ≡ record old { pending = old.pending ++ piece })
FillsCut got.TheVariants.End old new before now place =
    Appends before now (Took place [] ∷ []) × (new ≡ record old { ended = true })
FillsCut got.TheVariants.Failed old new before now place = Appends before now [] × (new ≡ old)

-- the first bytes become a row
pub record CutsFront (len : ℕ) (old new : Cutting) : Type 0 where
  pub row : new.row ≡ Some (take len old.pending)
  pub pending : new.pending ≡ drop len old.pending
  pub number : new.number ≡ next_number old
  pub kept : new.kept ≡ false
  pub ended : new.ended ≡ old.ended
