-- The rows in the bytes of a trace, and the lines that are due for them.

use Rattle.std.specs.Prelude.{ℕ, ◌+◌, ◌==◌, ◌&&◌, not, Bool, None, List, [], ◌∷◌, ◌++◌, filter}
use Rattle.std.specs.List.{enumerate_from}
use Rattle.mltl_base.specs.declared.report.Style.{Style}
use Rattle.mltl_base.specs.declared.program.Program.{Program}
use Rattle.mltl_base.specs.Atoms.{Row}
use Rattle.mltl_base.specs.Programs.{outputs, output_names}
use Rattle.mltl_base.specs.Lines.{lines}
use Rattle.tool_io.specs.Cutting.{line_text, lines_of, is_long}
use Rattle.trace_columns.specs.Header.{begins_header}
use Rattle.trace_feed.specs.declared.trace_why.TraceWhy.{TraceWhy}
use Rattle.r2u2_watch.specs.Feed.{Feed, Plain, Stamped, Meaning, IsPast, IsFaulty, Brings, meaning_of_line}

-- a line is the first of the trace and begins with `#`
abbrev pub is_marked : ℕ → List ℕ → Bool
is_marked number line = (number == 1) && begins_header line

-- a line is the header: it is the first of the trace, begins with `#`, and isn't too long
abbrev pub is_header : ℕ → List ℕ → Bool
is_header number raw = is_marked number (line_text raw) && not (is_long raw)

-- the lines without the header, each with its number, if the first of all has the number `first`
abbrev pub after_header : ℕ → List (List ℕ) → List (ℕ × List ℕ)
after_header first raws = filter (λ line. not (is_header line.0 line.1)) (enumerate_from first raws)

-- the rows of a trace end cleanly, past the mission time, or at a faulty line of this number
pub data Stop : Type 0 where
  Clean : Stop
  Past : Stop
  Bad : ℕ → TraceWhy → Stop

-- the rows in the lines of a trace, and why they end
pub record TraceRows : Type 0 where
  pub rows : List Row
  pub stop : Stop

-- no rows, and this end
abbrev pub ends_by : Stop → TraceRows
ends_by stop = record { rows = []; stop = stop }

-- these rows, and then the rows of the rest
abbrev pub led_by : List Row → TraceRows → TraceRows
led_by rows rest = record { rows = rows ++ rest.rows; stop = rest.stop }

-- the rows of a line of this number and of the lines after it, which are read in the way that the line leaves
abbrev pub put_line_in_front : Meaning → ℕ → (Feed → TraceRows) → TraceRows
put_line_in_front (Brings rows next) number rest = led_by rows (rest next)
put_line_in_front (IsFaulty why) number rest = ends_by (Bad number why)
put_line_in_front IsPast number rest = ends_by Past

-- the rows of lines after the header up to the first line that ends them, if this many lines come before them
abbrev pub rows_of : Program → ℕ → ℕ → Feed → List (ℕ × List ℕ) → TraceRows
rows_of program mission before feed [] = ends_by Clean
rows_of program mission before feed (line ∷ rest) =
    put_line_in_front (meaning_of_line program mission before feed line.1) line.0
    (λ next. rows_of program mission (before + 1) next rest)

-- the rows of all lines of a trace, if the first line has the number `first`
abbrev pub fed_rows : Feed → Program → ℕ → ℕ → List (List ℕ) → TraceRows
fed_rows feed program mission first raws = rows_of program mission 0 feed (after_header first raws)

-- the rows of plain lines
abbrev pub trace_rows : Program → ℕ → ℕ → List (List ℕ) → TraceRows
trace_rows program mission first raws = fed_rows Plain program mission first raws

-- the rows of lines that begin with a time
abbrev pub stamped_rows : Program → ℕ → ℕ → List (List ℕ) → TraceRows
stamped_rows program mission first raws = fed_rows (Stamped None) program mission first raws

-- the lines that are due for the bytes of a trace, by the rows of its lines
abbrev pub due : Program → Style → (List (List ℕ) → TraceRows) → Bool → List ℕ → List ℕ
due program style rows_in ended bytes =
    lines style (output_names program) (outputs program) (rows_in (lines_of ended bytes)).rows
