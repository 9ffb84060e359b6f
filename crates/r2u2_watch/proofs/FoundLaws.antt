-- What lines were found to be, and what was taken of them.

use Rattle.std.proofs.Common.{◌≡◌, ℕ, ◌+◌, ◌<◌, ◌≤◌, IsTrue, Option, Some, None, List, [], ◌∷◌, ◌++◌, length, replicate, refl, sym, ◌∙◌, ap, subst, arith, append_assoc}
use Rattle.std.proofs.lemmas.List.{append-nil, length-append, length-replicate}
use Rattle.std.proofs.lemmas.Bool.Decides.{nat_tests}
use Rattle.std.specs.declared.ops.ControlFlow.TheVariants.{Continue, Break}
use Rattle.mltl_base.specs.declared.program.Program.{Program}
use Rattle.mltl_base.specs.Atoms.{Row}
use Rattle.tool_io.specs.Log.{Event}
use Rattle.r2u2_monitor.specs.declared.running.Running.{Running}
use Rattle.r2u2_monitor.specs.declared.state.State.{State}
use Rattle.r2u2_monitor.specs.Monitoring.{program_of, last_of, read_of, IsDrained, IsSame, Stands}
use Rattle.r2u2_monitor.proofs.Keeping.{same_stands, same_drained}
use Rattle.sparse_feed.specs.Stamps.{may_follow, stamp_meaning, times_between}
use Rattle.trace_feed.specs.Rows.{LineMeaning, line_meaning}
use Rattle.trace_feed.specs.Rows as fields
use Rattle.r2u2_watch.specs.declared.reader.Found as found
use Rattle.r2u2_watch.specs.declared.reader.Reader as reader
use Rattle.r2u2_watch.specs.declared.status.LineFault.{LineFault}
use Rattle.trace_feed.specs.declared.trace_why.TraceWhy.{TraceWhy}
use Rattle.trace_feed.specs.declared.trace_why.TraceWhy.TheVariants.{Width}
use Rattle.r2u2_watch.specs.declared.status.Watched as watched
use Rattle.r2u2_watch.specs.declared.trace_loop.Course.{Course}
use Rattle.r2u2_watch.specs.Endings.{why_of}
use Rattle.r2u2_watch.specs.Feed.{Feed, Plain, Stamped, Meaning, IsPast, IsFaulty, Brings, fields_mean, plain_row, stamped_line, stamped_row, text_meaning, last_time, held}
use Rattle.r2u2_watch.specs.Telling.{TellsAll, TellsFront, WritesNone}
use Rattle.r2u2_watch.specs.Turns.{FindsFields, FindsRow, Finds, IsCounted, IsLast, ReaderIsAt, TakesAs, line_fault, rows_found, times_until}
use Rattle.r2u2_watch.proofs.TellLaws.{TellsAll-none}

-- what rows a monitor has, by the last
times_taken : (last : Option (ℕ × Row)) (rows : List Row) → IsLast last rows → length rows ≡ times_until (last_time last)
times_taken None rows is = ap length is
times_taken (Some last) rows is = is.2

pub is_counted : (feed : Feed) (now : reader.Reader) (lines : ℕ) (rows : List Row) → ReaderIsAt feed now lines rows → IsCounted now lines (length rows)
is_counted Plain reader.TheVariants.Plain lines rows stands = stands
is_counted (Stamped last) (reader.TheVariants.Stamped time) lines rows stands = times_taken last rows stands.1 ∙ ap times_until stands.0
is_counted feed now lines rows stands = absurd stands

-- the copies of the last row that the monitor took
pub held_is : (before : Option (ℕ × Row)) (rows : List Row) (monitor : State) (last : Option ℕ) (times time : ℕ) → IsLast before rows → Stands monitor rows → last_time before ≡ last → times ≡ times_between last time → replicate times (last_of monitor) ≡ held before time
held_is None rows monitor last times time is stands same between = ap (λ n. replicate n (last_of monitor)) (between ∙ ap (λ l. times_between l time) (sym same))
held_is (Some before) rows monitor last times time is stands same between =
    ap (λ n. replicate n (last_of monitor)) (between ∙ ap (λ l. times_between l time) (sym same)) ∙ ap (replicate (times_between (Some before.0) time)) (stands.last is.0 before.1 is.1)

-- the last row is one after the copies of the one before
IsLast-held : (last : Option (ℕ × Row)) (rows : List Row) (time : ℕ) (values : Row) → IsTrue (may_follow (last_time last) time) → IsLast last rows → IsLast (Some (time, values)) (rows ++ (held last time ++ values ∷ []))
IsLast-held None rows time values follows is =
    let first : time ≡ 0 = grind (arith, nat_tests, follows) in
    (rows, refl, omega (arith, length-append rows (values ∷ []), ap length is, first))
IsLast-held (Some last) rows time values follows is =
    let after : last.0 < time = grind (arith, nat_tests, follows) in
    let copies = held (Some last) time in
    (rows ++ copies, sym (append_assoc rows copies (values ∷ [])), omega (arith, length-append rows (copies ++ values ∷ []), length-append copies (values ∷ []), length-replicate (times_between (Some last.0) time) last.1, is.2, after))

-- faulty fields of a plain line, and of a stamped one
fault_plain : (what : LineMeaning) (fault : LineFault) → line_fault reader.TheVariants.Plain what ≡ Some fault → fields_mean plain_row (Brings [] Plain) what ≡ IsFaulty (why_of fault)
fault_plain (fields.row values) fault is = cc
fault_plain fields.blank fault is = cc
fault_plain fields.too_few fault is = cc
fault_plain (fields.not_whole column) fault is = cc
fault_plain (fields.out_of_range column) fault is = cc

fault_stamped : (of_row : Row → Meaning) (time : Option ℕ) (what : LineMeaning) (fault : LineFault) → line_fault (reader.TheVariants.Stamped time) what ≡ Some fault → fields_mean of_row (IsFaulty Width) what ≡ IsFaulty (why_of fault)
fault_stamped of_row time (fields.row values) fault is = cc
fault_stamped of_row time fields.blank fault is = cc
fault_stamped of_row time fields.too_few fault is = cc
fault_stamped of_row time (fields.not_whole column) fault is = cc
fault_stamped of_row time (fields.out_of_range column) fault is = cc

-- what a plain line was found to be, and a stamped one
pub plain_found : (result : found.Found) (what : LineMeaning) (lines : ℕ) (rows : List Row) (before after : State) → FindsFields result 0 reader.TheVariants.Plain what (read_of after) → length rows ≤ lines
    → Finds result Plain (fields_mean plain_row (Brings [] Plain) what) lines rows before after
plain_found (found.TheVariants.Row copies now) what lines rows before after is few = record {
  next = Plain;
  brings = ap (fields_mean plain_row (Brings [] Plain)) is.2 ∙ ap (λ n. Brings (rows_found n before after) Plain) (sym is.0);
  stands =
      subst (λ r. ReaderIsAt Plain r (lines + 1) (rows ++ rows_found copies before after)) (sym is.1)
      (subst (λ n. length (rows ++ rows_found n before after) ≤ lines + 1) (sym is.0) (omega (arith, length-append rows (read_of after ∷ []), few)));
}
plain_found found.TheVariants.Blank what lines rows before after is few = ap (fields_mean plain_row (Brings [] Plain)) is.1
plain_found (found.TheVariants.Bad fault) what lines rows before after is few = fault_plain what fault is
plain_found found.TheVariants.Past what lines rows before after is few = absurd is

no_plain : (time : Option ℕ) → reader.TheVariants.Stamped time ≡ reader.TheVariants.Plain → ⊥
no_plain time is = cc

pub stamped_found : (result : found.Found) (what : LineMeaning) (lines : ℕ) (rows : List Row) (last : Option (ℕ × Row)) (time copies : ℕ) (before after : State) → FindsFields result copies (reader.TheVariants.Stamped (Some time)) what (read_of after)
    → replicate copies (last_of before) ≡ held last time → IsTrue (may_follow (last_time last) time) → IsLast last rows → Finds result (Stamped last) (fields_mean (stamped_row last time) (IsFaulty Width) what) lines rows before after
stamped_found (found.TheVariants.Row times now) what lines rows last time copies before after is same follows is_last =
    let read = read_of after in
    let held_so : held last time ≡ replicate times (last_of before) = sym same ∙ ap (λ n. replicate n (last_of before)) (sym is.0) in
    record {
      next = Stamped (Some (time, read));
      brings = ap (fields_mean (stamped_row last time) (IsFaulty Width)) is.2 ∙ ap (λ copies. Brings (copies ++ read ∷ []) (Stamped (Some (time, read)))) held_so;
      stands =
          subst (λ r. ReaderIsAt (Stamped (Some (time, read))) r (lines + 1) (rows ++ rows_found times before after)) (sym is.1)
          (refl, subst (λ copies. IsLast (Some (time, read)) (rows ++ (copies ++ read ∷ []))) held_so (IsLast-held last rows time read follows is_last));
    }
stamped_found found.TheVariants.Blank what lines rows last time copies before after is same follows is_last = absurd (no_plain (Some time) is.0)
stamped_found (found.TheVariants.Bad fault) what lines rows last time copies before after is same follows is_last = fault_stamped (stamped_row last time) (Some time) what fault is
stamped_found found.TheVariants.Past what lines rows last time copies before after is same follows is_last = absurd is

-- what a line was found to be, by how lines are read
pub plain_read : (feed : Feed) (result : found.Found) (program : Program) (mission lines : ℕ) (line : List ℕ) (rows : List Row) (before after : State) → ReaderIsAt feed reader.TheVariants.Plain lines rows
    → FindsFields result 0 reader.TheVariants.Plain (line_meaning program line) (read_of after) → Finds result feed (text_meaning program mission feed line) lines rows before after
plain_read Plain result program mission lines line rows before after stands is = plain_found result (line_meaning program line) lines rows before after is stands
plain_read (Stamped last) result program mission lines line rows before after stands is = absurd stands

pub stamped_read : (feed : Feed) (time : Option ℕ) (result : found.Found) (program : Program) (mission lines : ℕ) (line : List ℕ) (rows : List Row) (before after : State) → ReaderIsAt feed (reader.TheVariants.Stamped time) lines rows
    → ((last : Option (ℕ × Row)) → IsLast last rows → last_time last ≡ time → Finds result (Stamped last) (stamped_line program last line (stamp_meaning line time mission)) lines rows before after)
    → Finds result feed (text_meaning program mission feed line) lines rows before after
stamped_read (Stamped last) time result program mission lines line rows before after stands told =
    subst (λ t. Finds result (Stamped last) (stamped_line program last line (stamp_meaning line t mission)) lines rows before after) (sym stands.0) (told last stands.1 stands.0)
stamped_read Plain time result program mission lines line rows before after stands told = absurd stands

-- a line without rows leaves where the reader stands
stands_on : (feed : Feed) (now : reader.Reader) (lines : ℕ) (rows : List Row) → ReaderIsAt feed now lines rows → ReaderIsAt feed now (lines + 1) (rows ++ [])
stands_on Plain reader.TheVariants.Plain lines rows stands = omega (arith, length-append rows [], stands)
stands_on (Stamped last) (reader.TheVariants.Stamped time) lines rows stands = (stands.0, subst (IsLast last) (sym (append-nil rows)) stands.1)
stands_on feed now lines rows stands = absurd stands

-- nothing was written, and the monitor is as it was but for the row that it read
pub writes_none : (rows : List Row) (before after : State) → IsSame before after → Stands before rows → IsDrained before → WritesNone (program_of before) rows after []
writes_none rows before after same stands drained = record {
  none = refl;
  told = record { program_kept = ap (λ (r : Running). r.checked) same.running; stands = same_stands before after rows same stands; drained = same_drained before after same drained };
}

-- the rows of a line were taken and told, or a front of them
pub takes_row : (copies number : ℕ) (what : Meaning) (course now : Course) (rows : List Row) (before between after : State) (events : List Event) → FindsRow copies now.reader what course.lines rows before between → IsSame before between
    → TellsAll (program_of between) course.style rows (rows_found copies between between) after events → TakesAs (Continue tt) what number (program_of before) course now rows after events
takes_row copies number what course now rows before between after events finds same tells =
    let program = ap (λ (r : Running). r.checked) same.running in
    subst (λ w. TakesAs (Continue tt) w number (program_of before) course now rows after events) (sym finds.brings)
    (record {
      stands = finds.stands;
      tells = subst (λ p. TellsAll p course.style rows (rows_found copies before between) after events) program (subst (λ last. TellsAll (program_of between) course.style rows (replicate copies last ++ read_of between ∷ []) after events) same.last tells);
    })

pub takes_front : (copies number : ℕ) (what : Meaning) (reader_now : reader.Reader) (course now : Course) (rows : List Row) (before between after : State) (events : List Event) → FindsRow copies reader_now what course.lines rows before between → IsSame before between
    → TellsFront (program_of between) course.style rows (rows_found copies between between) after events → TakesAs (Break watched.TheVariants.WriteFault) what number (program_of before) course now rows after events
takes_front copies number what reader_now course now rows before between after events finds same tells =
    let program = ap (λ (r : Running). r.checked) same.running in
    subst (λ w. TakesAs (Break watched.TheVariants.WriteFault) w number (program_of before) course now rows after events) (sym finds.brings)
    (subst (λ p. TellsFront p course.style rows (rows_found copies before between) after events) program (subst (λ last. TellsFront (program_of between) course.style rows (replicate copies last ++ read_of between ∷ []) after events) same.last tells))

-- a line without rows
pub takes_blank : (feed : Feed) (number : ℕ) (what : Meaning) (program : Program) (course : Course) (rows : List Row) (after : State) → what ≡ Brings [] feed → ReaderIsAt feed course.reader course.lines rows → WritesNone program rows after []
    → TakesAs (Continue tt) what number program course course rows after []
takes_blank feed number what program course rows after is stands none =
    subst (λ w. TakesAs (Continue tt) w number program course course rows after []) (sym is)
    (record { stands = stands_on feed course.reader course.lines rows stands; tells = TellsAll-none program course.style rows after none.told })

-- a faulty line, and one past the mission time
pub takes_bad : (what : Meaning) (number line : ℕ) (why : TraceWhy) (program : Program) (course now : Course) (rows : List Row) (after : State) → what ≡ IsFaulty why → line ≡ number → WritesNone program rows after []
    → TakesAs (Break (watched.TheVariants.BadTrace line why)) what number program course now rows after []
takes_bad what number line why program course now rows after is numbered none =
    subst (λ w. TakesAs (Break (watched.TheVariants.BadTrace line why)) w number program course now rows after []) (sym is) (numbered, refl, none)

pub takes_past : (what : Meaning) (number : ℕ) (program : Program) (course now : Course) (rows : List Row) (after : State) → what ≡ IsPast → WritesNone program rows after [] → TakesAs (Break watched.TheVariants.TooLong) what number program course now rows after []
takes_past what number program course now rows after is none = subst (λ w. TakesAs (Break watched.TheVariants.TooLong) w number program course now rows after []) (sym is) none
