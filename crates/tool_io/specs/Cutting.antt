-- The lines that a stream of bytes is cut into, and the values that a LineCut represents.
use Rattle.std.specs.Prelude.{◌≡◌, ℕ, ◌+◌, ◌-◌, ◌^◌, ◌<◌, ◌≤◌, ◌⊎◌, ◌==◌, ◌&&◌, ◌||◌, not, nat_lt, nat_le, min, Bool}
use Rattle.std.specs.Prelude.{true, false, if◌then◌else◌, Option, Some, None, IsSome, unwrap_or, List, [], ◌∷◌, ◌++◌}
use Rattle.std.specs.Prelude.{length, take, slice_index, ⊤}
use Rattle.std.specs.List.{concat}
use Rattle.mltl_base.specs.declared.limits.TheConstants.{MAX_LINE_BYTES}
use Rattle.tool_io.specs.declared.host.Place.{Place}
use Rattle.tool_io.specs.declared.line_cut.Line as line
use Rattle.tool_io.specs.Log.{Event, Reads, meets_end}
use Rattle.tool_io.specs.Host.{NoFault, RoseAt}

-- The bytes that were read and not yet cut, a kept line included; the line with its newline that the last call returned, if
-- that was a Row; true if that line is to be returned once more; true if the end was reached; the number of the last line.
pub record Cutting : Type 0 where
  pub pending : List ℕ
  pub row : Option (List ℕ)
  pub kept : Bool
  pub ended : Bool
  pub number : ℕ

-- no byte is a newline; a newline is the byte 10, a carriage return the byte 13
abbrev pub HasNoNewline : List ℕ → Type 0
HasNoNewline [] = ⊤
HasNoNewline (byte ∷ bytes) = ((byte == 10) ≡ false) × HasNoNewline bytes

-- true if one of the bytes is a newline
abbrev pub has_newline : List ℕ → Bool
has_newline [] = false
has_newline (byte ∷ bytes) = (byte == 10) || has_newline bytes

-- a line with its newline
pub record EndsLine (raw : List ℕ) : Type 0 where
  pub body : List ℕ
  pub is : raw ≡ body ++ 10 ∷ []
  pub one : HasNoNewline body

-- true if these bytes end in this byte
abbrev pub ends_in : ℕ → List ℕ → Bool
ends_in byte bytes = nat_lt 0 (length bytes) && (slice_index bytes (length bytes - 1) == byte)

-- the bytes without their last one, if that is this byte
abbrev pub without_end : ℕ → List ℕ → List ℕ
without_end byte bytes = if ends_in byte bytes then take (length bytes - 1) bytes else bytes

-- the line without its newline, and without one carriage return before the newline
abbrev pub line_text : List ℕ → List ℕ
line_text raw = if ends_in 10 raw then without_end 13 (take (length raw - 1) raw) else raw

-- the lines with a byte before the first of them
abbrev pub onto : ℕ → List (List ℕ) → List (List ℕ)
onto byte [] = []
onto byte (raw ∷ raws) = (byte ∷ raw) ∷ raws

-- the whole lines of bytes, each with its newline
abbrev pub whole_lines : List ℕ → List (List ℕ)
whole_lines [] = []
whole_lines (byte ∷ bytes) = if byte == 10 then (byte ∷ []) ∷ whole_lines bytes else onto byte (whole_lines bytes)

-- the bytes after the last newline
abbrev pub rest_of : List ℕ → List ℕ
rest_of [] = []
rest_of (byte ∷ bytes) = if has_newline (byte ∷ bytes) then rest_of bytes else byte ∷ bytes

-- the bytes as a line, if they have ended or are too long for a line
abbrev pub last_line : Bool → List ℕ → List (List ℕ)
last_line ended [] = []
last_line ended (byte ∷ bytes) =
    if ended || nat_le MAX_LINE_BYTES (length (byte ∷ bytes)) then (byte ∷ bytes) ∷ [] else []

-- the lines of bytes
abbrev pub lines_of : Bool → List ℕ → List (List ℕ)
lines_of ended bytes = whole_lines bytes ++ last_line ended (rest_of bytes)

-- the first 65,536 bytes of the line hold no newline
abbrev pub is_long : List ℕ → Bool
is_long raw = nat_le MAX_LINE_BYTES (length raw) && not (has_newline (take MAX_LINE_BYTES raw))

-- the cut before the first byte
abbrev pub fresh : Cutting
fresh = record { pending = []; row = None; kept = false; ended = false; number = 0 }

-- the line that the last Row gave
abbrev pub row_of : Cutting → List ℕ
row_of cut = unwrap_or cut.row []

-- the cut with its last line kept
abbrev pub keeps : Cutting → Cutting
keeps cut = if cut.kept then cut else record cut { pending = row_of cut ++ cut.pending; kept = true }

-- the number of the next line, which stays at the last value of its type
abbrev pub next_number : Cutting → ℕ
next_number cut = if cut.kept then cut.number else min (cut.number + 1) (2 ^ 64 - 1)

-- a read is made only if the bytes before it hold no newline, and are fewer than the buffer holds
abbrev pub OnlyWhereNeeded : List ℕ → List (List ℕ) → Type 0
OnlyWhereNeeded pending [] = ⊤
OnlyWhereNeeded pending (piece ∷ pieces) =
    HasNoNewline pending × (length pending < MAX_LINE_BYTES) × OnlyWhereNeeded (pending ++ piece) pieces

-- The last line, without a newline: no byte follows it, and the end was met.
pub record IsLastRow (raw rest : List ℕ) (ended : Bool) : Type 0 where
  pub some : 0 < length raw
  pub short : length raw < MAX_LINE_BYTES
  pub no_newline : HasNoNewline raw
  pub no_rest : rest ≡ []
  pub at_end : ended ≡ true

-- the bytes are a line with its newline, or the last line without one
abbrev pub IsRow : List ℕ → List ℕ → Bool → Type 0
IsRow raw rest ended = EndsLine raw ⊎ IsLastRow raw rest ended

-- the first of all bytes that were there or were taken are cut as a row
pub record GivesRow (all : List ℕ) (old new : Cutting) (raw : List ℕ) : Type 0 where
  pub row : new.row ≡ Some raw
  pub fits : length raw ≤ MAX_LINE_BYTES
  pub split : all ≡ raw ++ new.pending
  pub number : new.number ≡ next_number old
  pub plain : new.kept ≡ false
  pub line : IsRow raw new.pending new.ended

-- nothing is cut of all bytes that were there or were taken
pub record GivesNone (all : List ℕ) (old new : Cutting) : Type 0 where
  pub row : new.row ≡ None
  pub same : new.pending ≡ all
  pub number : new.number ≡ old.number
  pub kept : new.kept ≡ false
  pub no_newline : HasNoNewline all

-- each result fits the cut: a row, the end, a line that is too long, or a read that failed
abbrev pub Answer : line.Line → List ℕ → Cutting → Cutting → Type 0
Answer line.TheVariants.Row all old new = (raw : List ℕ) × GivesRow all old new raw
Answer line.TheVariants.End all old new = GivesNone all old new × (all ≡ []) × (new.ended ≡ true)
Answer line.TheVariants.LongLine all old new = GivesNone all old new × (length all ≡ MAX_LINE_BYTES)
Answer line.TheVariants.ReadFault all old new =
    GivesNone all old new × (length all < MAX_LINE_BYTES) × (new.ended ≡ false)

-- a line is ready after a Row, and after no other result
abbrev pub HasLine : line.Line → Cutting → Type 0
HasLine line.TheVariants.Row cut = IsSome cut.row
HasLine line.TheVariants.End cut = cut.row ≡ None
HasLine line.TheVariants.LongLine cut = cut.row ≡ None
HasLine line.TheVariants.ReadFault cut = cut.row ≡ None

-- a line that was kept comes once more, and nothing is read for it
pub record GivesAgain (outcome : line.Line) (old new : Cutting) (pieces : List (List ℕ)) : Type 0 where
  pub answer : outcome ≡ line.TheVariants.Row
  pub row : new.row ≡ old.row
  pub reads : pieces ≡ []

-- a call for the next line returns this outcome, logs these events, and leaves the cut `new`
pub record CutsLine (place : Place) (old new : Cutting) (outcome : line.Line) (events : List Event) : Type 0 where
  pub pieces : List (List ℕ)
  pub reads : Reads place pieces events
  pub needed : OnlyWhereNeeded old.pending pieces
  pub no_more : old.ended ≡ true → pieces ≡ []
  pub ended : new.ended ≡ meets_end old.ended pieces
  pub answer : Answer outcome (old.pending ++ concat pieces) old new
  pub again : old.kept ≡ true → GivesAgain outcome old new pieces

-- a read that failed raised the count of its place, and nothing else changes a count
abbrev pub LineCause : line.Line → (Place → ℕ) → (Place → ℕ) → Place → Type 0
LineCause line.TheVariants.ReadFault before now place = RoseAt before now place
LineCause line.TheVariants.Row before now place = NoFault before now
LineCause line.TheVariants.End before now place = NoFault before now
LineCause line.TheVariants.LongLine before now place = NoFault before now
