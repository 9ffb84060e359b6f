-- The effects of one turn of the loop over a trace.

use Rattle.std.specs.Prelude.{◌≡◌, ℕ, ◌+◌, ◌<◌, ◌≤◌, ◌⊎◌, true, false, Option, Some, None, ⊤}
use Rattle.std.specs.Prelude.{List, [], ◌∷◌, ◌++◌, length, replicate}
use Rattle.std.specs.declared.ops.ControlFlow.{ControlFlow}
use Rattle.std.specs.declared.ops.ControlFlow.TheVariants.{Continue, Break}
use Rattle.mltl_base.specs.declared.limits.TheConstants.{MAX_MISSION}
use Rattle.mltl_base.specs.declared.program.Program.{Program}
use Rattle.mltl_base.specs.Atoms.{Row}
use Rattle.mltl_base.specs.Programs.{IsFit}
use Rattle.tool_io.specs.declared.host.Place.TheVariants.{Trace}
use Rattle.tool_io.specs.declared.line_cut.Line as line
use Rattle.tool_io.specs.Log.{Event}
use Rattle.tool_io.specs.Cutting.{Cutting, line_text, next_number, CutsLine}
use Rattle.tool_io.specs.Cutting as cutting
use Rattle.r2u2_monitor.specs.declared.state.State.{State}
use Rattle.r2u2_monitor.specs.Monitoring.{IsDrained, program_of, taken_by, last_of, read_of}
use Rattle.trace_feed.specs.Rows.{LineMeaning, row, blank, too_few, not_whole, out_of_range}
use Rattle.r2u2_watch.specs.declared.status.LineFault.{LineFault}
use Rattle.r2u2_watch.specs.declared.status.LineFault.TheVariants.{Width, NotWhole, OutOfRange}
use Rattle.trace_feed.specs.declared.trace_why.TraceWhy.TheVariants.{LongLine}
use Rattle.r2u2_watch.specs.declared.status.Watched as watched
use Rattle.r2u2_watch.specs.declared.reader.Reader as reader
use Rattle.r2u2_watch.specs.declared.reader.Found as found
use Rattle.r2u2_watch.specs.declared.trace_loop.Course.{Course}
use Rattle.r2u2_watch.specs.Endings.{why_of}
use Rattle.r2u2_watch.specs.Feed.{Feed, Plain, Stamped, Meaning, IsPast, IsFaulty, Brings, last_time, text_meaning}
use Rattle.r2u2_watch.specs.Trace.{is_marked}
use Rattle.r2u2_watch.specs.Watch.{HasTold}
use Rattle.r2u2_watch.specs.Telling.{TellsAll, TellsFront, WritesNone}

-- the last row and its time are the last of these rows, and there are as many rows as times up to it
abbrev pub IsLast : Option (ℕ × Row) → List Row → Type 0
IsLast None rows = rows ≡ []
IsLast (Some last) rows = (front : List Row) × (rows ≡ front ++ last.1 ∷ []) × (length rows ≡ last.0 + 1)

-- after these rows from this many lines, the reader reads lines in the way of this feed
abbrev pub ReaderIsAt : Feed → reader.Reader → ℕ → List Row → Type 0
ReaderIsAt Plain reader.TheVariants.Plain lines rows = length rows ≤ lines
ReaderIsAt (Stamped last) (reader.TheVariants.Stamped time) lines rows = (last_time last ≡ time) × IsLast last rows
ReaderIsAt feed now lines rows = ⊥

-- the number of times up to the last one
abbrev pub times_until : Option ℕ → ℕ
times_until None = 0
times_until (Some last) = last + 1

-- this many rows may have been taken from this many lines
abbrev pub IsCounted : reader.Reader → ℕ → ℕ → Type 0
IsCounted reader.TheVariants.Plain lines taken = taken ≤ lines
IsCounted (reader.TheVariants.Stamped last) lines taken = taken ≡ times_until last

-- the feed with which a reader begins
abbrev pub begins_at : reader.Reader → Feed
begins_at reader.TheVariants.Plain = Plain
begins_at (reader.TheVariants.Stamped last) = Stamped None

-- no line was taken
pub record IsAtStart (course : Course) : Type 0 where
  pub no_lines : course.lines ≡ 0
  pub no_rows : ReaderIsAt (begins_at course.reader) course.reader 0 []

-- Between lines all reports are returned, the rows that were taken are counted, and the mission time isn't too long.
pub record IsUnderWay (course : Course) (monitor : State) : Type 0 where
  pub drained : IsDrained monitor
  pub counted : IsCounted course.reader course.lines (taken_by monitor)
  pub mission : course.mission ≤ MAX_MISSION

-- the fact holds of the number of copies of the last row before the row that was found, if one was found
abbrev pub IfRow : found.Found → (ℕ → Type 0) → Type 0
IfRow (found.TheVariants.Row copies now) P = P copies
IfRow result P = ⊤

-- this many copies of the last row, and then the row that was read, can be taken
pub record CanTake (copies : ℕ) (monitor : State) : Type 0 where
  pub fit : IsFit (program_of monitor) (read_of monitor)
  pub begun : 0 < copies → 0 < taken_by monitor
  pub early : taken_by monitor + copies < MAX_MISSION

-- the fault of fields, if they have one; blanks are no fault in a plain line
abbrev pub line_fault : reader.Reader → LineMeaning → Option LineFault
line_fault now (row values) = None
line_fault reader.TheVariants.Plain blank = None
line_fault (reader.TheVariants.Stamped last) blank = Some Width
line_fault now too_few = Some Width
line_fault now (not_whole column) = Some (NotWhole column)
line_fault now (out_of_range column) = Some (OutOfRange column)

-- the fields were found to be this row after this many copies, no row, or faulty
abbrev pub FindsFields : found.Found → ℕ → reader.Reader → LineMeaning → Row → Type 0
FindsFields (found.TheVariants.Row times next) copies now what values =
    (times ≡ copies) × (next ≡ now) × (what ≡ row values)
FindsFields found.TheVariants.Blank copies now what values = (now ≡ reader.TheVariants.Plain) × (what ≡ blank)
FindsFields (found.TheVariants.Bad fault) copies now what values = line_fault now what ≡ Some fault
FindsFields found.TheVariants.Past copies now what values = ⊥

-- this many copies of the last row, and then the row that was read
abbrev pub rows_found : ℕ → State → State → List Row
rows_found copies before after = replicate copies (last_of before) ++ read_of after ∷ []

-- the line brings the rows that were found, and the reader reads the next line in the way that the line leaves
pub record FindsRow (copies : ℕ) (now : reader.Reader) (what : Meaning) (lines : ℕ) (rows : List Row)
    (before after : State) : Type 0 where
  pub next : Feed
  pub brings : what ≡ Brings (rows_found copies before after) next
  pub stands : ReaderIsAt next now (lines + 1) (rows ++ rows_found copies before after)

-- the line was found to have this meaning, after these rows from this many lines
abbrev pub Finds : found.Found → Feed → Meaning → ℕ → List Row → State → State → Type 0
Finds (found.TheVariants.Row copies now) feed what lines rows before after =
    FindsRow copies now what lines rows before after
Finds found.TheVariants.Blank feed what lines rows before after = what ≡ Brings [] feed
Finds (found.TheVariants.Bad fault) feed what lines rows before after = what ≡ IsFaulty (why_of fault)
Finds found.TheVariants.Past feed what lines rows before after = what ≡ IsPast

-- the text of the line that was cut
abbrev pub cut_text : Cutting → List ℕ
cut_text cut = line_text (cutting.row_of cut)

-- the meaning of the line that was cut
abbrev pub cut_meaning : Program → Course → Feed → Cutting → Meaning
cut_meaning program course feed cut = text_meaning program course.mission feed (cut_text cut)

-- the rows of the line were taken and printed, and the reader is after them
pub record TakesRows (more : List Row) (next : Feed) (program : Program) (before now : Course) (rows : List Row)
    (monitor : State) (events : List Event) : Type 0 where
  pub stands : ReaderIsAt next now.reader (before.lines + 1) (rows ++ more)
  pub tells : TellsAll program before.style rows more monitor events

-- the effect of a line of this number: its rows were taken, or a prefix of them; else the loop ends by its fault
abbrev pub TakesAs : ControlFlow watched.Watched ⊤ → Meaning → ℕ → Program → Course → Course → List Row → State
    → List Event → Type 0
TakesAs (Continue u) (Brings more next) number program before now rows monitor events =
    TakesRows more next program before now rows monitor events
TakesAs (Break watched.TheVariants.WriteFault) (Brings more next) number program before now rows monitor events =
    TellsFront program before.style rows more monitor events
TakesAs (Break (watched.TheVariants.BadTrace line why)) (IsFaulty cause) number program before now rows monitor events =
    (line ≡ number) × (why ≡ cause) × WritesNone program rows monitor events
TakesAs (Break watched.TheVariants.TooLong) IsPast number program before now rows monitor events =
    WritesNone program rows monitor events
TakesAs answer what number program before now rows monitor events = ⊥

-- the effect of the line that was cut
abbrev pub TakesCut : ControlFlow watched.Watched ⊤ → Program → Course → Course → Feed → List Row → Cutting → State
    → List Event → Type 0
TakesCut answer program before now feed rows cut monitor events =
    TakesAs answer (cut_meaning program before feed cut) cut.number program before now rows monitor events

-- only the reader changed
pub record MovesReader (before now : Course) : Type 0 where
  pub mission : now.mission ≡ before.mission
  pub style : now.style ≡ before.style
  pub lines : now.lines ≡ before.lines

-- the line that was cut counts: it isn't the header, and is within the mission time
pub record Counts (mission before : ℕ) (cut : Cutting) : Type 0 where
  pub within : before < mission
  pub no_header : is_marked cut.number (cut_text cut) ≡ false

-- the line that was cut is the header
pub record IsHeader (program : Program) (before now : Course) (rows : List Row) (cut : Cutting) (monitor : State)
    (events : List Event) : Type 0 where
  pub same : now ≡ before
  pub marked : is_marked cut.number (cut_text cut) ≡ true
  pub writes : WritesNone program rows monitor events

-- the line that was cut isn't the header, and was taken
pub record TookLine (program : Program) (before now : Course) (feed : Feed) (rows : List Row) (cut : Cutting)
    (monitor : State) (events : List Event) : Type 0 where
  pub mission : now.mission ≡ before.mission
  pub style : now.style ≡ before.style
  pub lines : now.lines ≡ before.lines + 1
  pub counts : Counts before.mission before.lines cut
  pub takes : TakesCut (Continue tt) program before now feed rows cut monitor events

-- the line that was cut is past the mission time by its number
pub record IsPastMission (program : Program) (course : Course) (rows : List Row) (cut : Cutting) (monitor : State)
    (events : List Event) : Type 0 where
  pub at_end : course.lines ≡ course.mission
  pub no_header : is_marked cut.number (cut_text cut) ≡ false
  pub writes : WritesNone program rows monitor events

-- the line that was cut ended the loop with this answer
pub record HasStopped (answer : watched.Watched) (program : Program) (before now : Course) (feed : Feed)
    (rows : List Row) (cut : Cutting) (monitor : State) (events : List Event) : Type 0 where
  pub counts : Counts before.mission before.lines cut
  pub takes : TakesCut (Break answer) program before now feed rows cut monitor events

-- the line that was cut is the header, was taken, or ended the loop
abbrev pub LineSteps : ControlFlow watched.Watched ⊤ → Program → Course → Course → Feed → List Row → Cutting → State
    → List Event → Type 0
LineSteps (Continue u) program before now feed rows cut monitor events =
    IsHeader program before now rows cut monitor events ⊎ TookLine program before now feed rows cut monitor events
LineSteps (Break watched.TheVariants.TooLong) program before now feed rows cut monitor events =
    IsPastMission program before rows cut monitor events
    ⊎ HasStopped watched.TheVariants.TooLong program before now feed rows cut monitor events
LineSteps (Break answer) program before now feed rows cut monitor events =
    HasStopped answer program before now feed rows cut monitor events

-- a line was cut, and P holds of the events after it
pub record CutsThen (start cut : Cutting) (P : List Event → Type 0) (events : List Event) : Type 0 where
  pub first : List Event
  pub second : List Event
  pub split : events ≡ first ++ second
  pub cuts : CutsLine Trace start cut line.TheVariants.Row first
  pub next : P second

-- no line was cut
pub record CutsNone (program : Program) (rows : List Row) (start cut : Cutting) (answer : line.Line) (monitor : State)
    (events : List Event) : Type 0 where
  pub cuts : CutsLine Trace start cut answer events
  pub told : HasTold program monitor rows

-- the loop ends by a line that is too long
abbrev pub EndsLong : ControlFlow watched.Watched ⊤ → ℕ → ℕ → Cutting → Type 0
EndsLong (Break watched.TheVariants.TooLong) mission before start = before ≡ mission
EndsLong (Break (watched.TheVariants.BadTrace number why)) mission before start =
    (before < mission) × (number ≡ next_number start) × (why ≡ LongLine)
EndsLong answer mission before start = ⊥

-- the effect of one more line, after these rows
abbrev pub Turns : ControlFlow watched.Watched ⊤ → Program → Course → Course → Feed → List Row → Cutting → Cutting
    → State → List Event → Type 0
Turns (Break watched.TheVariants.Done) program before now feed rows start cut monitor events =
    CutsNone program rows start cut line.TheVariants.End monitor events
Turns (Break watched.TheVariants.ReadFault) program before now feed rows start cut monitor events =
    CutsNone program rows start cut line.TheVariants.ReadFault monitor events
Turns answer program before now feed rows start cut monitor events =
    EndsLong answer before.mission before.lines start
    × CutsNone program rows start cut line.TheVariants.LongLine monitor events
    ⊎ CutsThen start cut (LineSteps answer program before now feed rows cut monitor) events
