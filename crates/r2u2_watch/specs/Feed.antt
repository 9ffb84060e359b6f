-- The meanings of the lines of a trace, which hold plain rows or stamped rows.

use Rattle.std.specs.Prelude.{ℕ, nat_lt, if◌then◌else◌, Option, Some, None, List, [], ◌∷◌, ◌++◌, drop, replicate}
use Rattle.mltl_base.specs.declared.program.Program.{Program}
use Rattle.mltl_base.specs.Atoms.{Row}
use Rattle.tool_io.specs.Cutting.{line_text, is_long}
use Rattle.sparse_feed.specs.declared.stamp.Stamp as stamp
use Rattle.sparse_feed.specs.Stamps.{stamp_meaning, times_between}
use Rattle.trace_feed.specs.Rows.{LineMeaning, row, blank, too_few, not_whole, out_of_range, line_meaning}
use Rattle.trace_feed.specs.declared.trace_why.TraceWhy.{TraceWhy}
use Rattle.trace_feed.specs.declared.trace_why.TraceWhy.TheVariants.{Width, NotWhole, OutOfRange}
use Rattle.trace_feed.specs.declared.trace_why.TraceWhy.TheVariants.{LongLine, Stamp, Order}

-- the way in which the lines to come hold rows: each line is a row, or each line is a time and the row that holds from then
-- on, after the last row and its time, if there was one
pub data Feed : Type 0 where
  Plain : Feed
  Stamped : Option (ℕ × Row) → Feed

-- the meaning of a line after the header: it is past the mission time, it is faulty, or it brings rows, none if it is blank,
-- and the lines after it hold rows in this way
pub data Meaning : Type 0 where
  IsPast : Meaning
  IsFaulty : TraceWhy → Meaning
  Brings : List Row → Feed → Meaning

-- the meaning of fields, by the meaning of a row and the meaning of blanks
abbrev pub fields_mean : (Row → Meaning) → Meaning → LineMeaning → Meaning
fields_mean of_row of_blank (row values) = of_row values
fields_mean of_row of_blank blank = of_blank
fields_mean of_row of_blank too_few = IsFaulty Width
fields_mean of_row of_blank (not_whole column) = IsFaulty (NotWhole column)
fields_mean of_row of_blank (out_of_range column) = IsFaulty (OutOfRange column)

-- the meaning of a line that is a row
abbrev pub plain_row : Row → Meaning
plain_row values = Brings (values ∷ []) Plain

-- the time of the last row
abbrev pub last_time : Option (ℕ × Row) → Option ℕ
last_time None = None
last_time (Some last) = Some last.0

-- the copies of the last row, one for each time strictly between its own and this one
abbrev pub held : Option (ℕ × Row) → ℕ → List Row
held None time = []
held (Some last) time = replicate (times_between (Some last.0) time) last.1

-- the meaning of a line that is a row of this time, after the copies of the last row
abbrev pub stamped_row : Option (ℕ × Row) → ℕ → Row → Meaning
stamped_row last time values = Brings (held last time ++ values ∷ []) (Stamped (Some (time, values)))

-- the meaning of a line with this stamp; blanks alone after a stamp are too few fields
abbrev pub stamped_line : Program → Option (ℕ × Row) → List ℕ → stamp.Stamp → Meaning
stamped_line program last text (stamp.TheVariants.At time place) =
    fields_mean (stamped_row last time) (IsFaulty Width) (line_meaning program (drop place text))
stamped_line program last text stamp.TheVariants.Blank = Brings [] (Stamped last)
stamped_line program last text stamp.TheVariants.Bad = IsFaulty Stamp
stamped_line program last text stamp.TheVariants.Order = IsFaulty Order
stamped_line program last text stamp.TheVariants.Late = IsPast

-- the meaning of a line that is neither past the mission time by its number nor too long
abbrev pub text_meaning : Program → ℕ → Feed → List ℕ → Meaning
text_meaning program mission Plain text = fields_mean plain_row (Brings [] Plain) (line_meaning program text)
text_meaning program mission (Stamped last) text =
    stamped_line program last text (stamp_meaning text (last_time last) mission)

-- The meaning of a line that this many lines after the header come before. If several ends apply, past the mission time by
-- its number comes first, then too long, and the faults of its stamp and its fields come last.
abbrev pub meaning_of_line : Program → ℕ → ℕ → Feed → List ℕ → Meaning
meaning_of_line program mission before feed raw =
    if nat_lt before mission
    then (if is_long raw then IsFaulty LongLine else text_meaning program mission feed (line_text raw))
    else IsPast
