-- The turns of the loop over a trace.

use Rattle.std.specs.Prelude.{⊤}
use Rattle.std.proofs.Common.{◌≡◌, ℕ, ◌+◌, ◌-◌, ◌<◌, ◌≤◌, ◌^◌, Bool, Option, List, [], ◌∷◌, ◌++◌, refl, sym, ◌∙◌, ap, subst, arith, append_assoc, true, false, inl, inr}
use Rattle.std.proofs.lemmas.List.{append-nil}
use Rattle.std.specs.declared.ops.ControlFlow.{ControlFlow}
use Rattle.std.specs.declared.ops.ControlFlow.TheVariants.{Continue, Break}
use Rattle.mltl_base.specs.declared.report.Style.{Style}
use Rattle.mltl_base.specs.declared.program.Program.{Program}
use Rattle.mltl_base.specs.Atoms.{Row}
use Rattle.tool_io.specs.declared.host.Place.TheVariants.{Trace}
use Rattle.tool_io.specs.declared.line_cut.Line as line_answer
use Rattle.tool_io.specs.Log.{Event, OnLog}
use Rattle.tool_io.specs.Cutting.{Cutting, lines_of, next_number, CutsLine}
use Rattle.tool_io.proofs.LogLaws.{Appends-then}
use Rattle.r2u2_monitor.specs.declared.state.State.{State}
use Rattle.r2u2_watch.specs.declared.reader.Reader.{Reader}
use Rattle.trace_feed.specs.declared.trace_why.TraceWhy.TheVariants.{LongLine}
use Rattle.r2u2_watch.specs.declared.status.Watched as watched
use Rattle.r2u2_watch.specs.declared.trace_loop.Course.{Course}
use Rattle.r2u2_watch.specs.Feed.{Feed, Meaning, IsPast, IsFaulty, Brings, meaning_of_line, text_meaning}
use Rattle.r2u2_watch.specs.Trace.{TraceRows, Past, Bad, is_marked, is_header, after_header, put_line_in_front, rows_of, fed_rows}
use Rattle.r2u2_watch.specs.Telling.{WritesNone}
use Rattle.r2u2_watch.specs.Turns.{Counts, HasStopped, MovesReader, TookLine, LineSteps, ReaderIsAt, TakesAs, TakesCut, Turns, cut_meaning, cut_text}
use Rattle.r2u2_watch.specs.Watch.{HasTold, IsWatch, first_of}
use Rattle.r2u2_watch.proofs.LineLaws.{after_header-header, after_header-line, is_header-long, marked_first, meaning-text, meaning-long, meaning-past}
use Rattle.r2u2_watch.proofs.WatchLaws.{IsLedBy-same, HasWatched, HasWatched-none, HasWatched-line, HasWatched-quiet, line_short, line_is, line_marked, line_next}
use Rattle.r2u2_watch.proofs.WatchEnds.{done_is, read_fault_is, long_starts, long_ends, line_ends, write_ends}

-- an answer to a line that was cut
abbrev pub IsStep : ControlFlow watched.Watched ⊤ → Type 0
IsStep (Break watched.TheVariants.Done) = ⊥
IsStep (Break watched.TheVariants.ReadFault) = ⊥
IsStep answer = ⊤

-- a line was cut, and then its step
turns_by : (result : ControlFlow watched.Watched ⊤) (log_before log_between log_now : Option (List Event)) (program : Program) (before now : Course) (feed : Feed) (rows : List Row) (start cut : Cutting) (monitor : State) → IsStep result
    → OnLog log_before log_between (CutsLine Trace start cut line_answer.TheVariants.Row) → OnLog log_between log_now (LineSteps result program before now feed rows cut monitor) → OnLog log_before log_now (Turns result program before now feed rows start cut monitor)
turns_by (Break watched.TheVariants.Done) log_before log_between log_now program before now feed rows start cut monitor is cuts steps = absurd is
turns_by (Break watched.TheVariants.ReadFault) log_before log_between log_now program before now feed rows start cut monitor is cuts steps = absurd is
turns_by result log_before log_between log_now program before now feed rows start cut monitor is cuts steps = record {
  events = cuts.events ++ steps.events;
  appended = Appends-then log_before log_between log_now cuts.events steps.events cuts.appended steps.appended;
  holds = inr (record { first = cuts.events; second = steps.events; split = refl; cuts = cuts.holds; next = steps.holds });
}

-- no line ends the loop as if the trace had ended or couldn't be read
not_done : (what : Meaning) (number : ℕ) (program : Program) (before now : Course) (rows : List Row) (monitor : State) (events : List Event) → TakesAs (Break watched.TheVariants.Done) what number program before now rows monitor events → ⊥
not_done what number program before now rows monitor events takes = absurd takes

not_unread : (what : Meaning) (number : ℕ) (program : Program) (before now : Course) (rows : List Row) (monitor : State) (events : List Event) → TakesAs (Break watched.TheVariants.ReadFault) what number program before now rows monitor events → ⊥
not_unread what number program before now rows monitor events takes = absurd takes

is_step : (result : ControlFlow watched.Watched ⊤) (program : Program) (before now : Course) (feed : Feed) (rows : List Row) (cut : Cutting) (monitor : State) (events : List Event) → LineSteps result program before now feed rows cut monitor events → IsStep result
is_step (Continue u) program before now feed rows cut monitor events steps = tt
is_step (Break watched.TheVariants.Done) program before now feed rows cut monitor events steps = not_done (cut_meaning program before feed cut) cut.number program before now rows monitor events steps.takes
is_step (Break watched.TheVariants.ReadFault) program before now feed rows cut monitor events steps = not_unread (cut_meaning program before feed cut) cut.number program before now rows monitor events steps.takes
is_step (Break watched.TheVariants.TooLong) program before now feed rows cut monitor events steps = tt
is_step (Break (watched.TheVariants.BadTrace number why)) program before now feed rows cut monitor events steps = tt
is_step (Break watched.TheVariants.WriteFault) program before now feed rows cut monitor events steps = tt

pub Turns-step : (result : ControlFlow watched.Watched ⊤) (log_before log_between log_now : Option (List Event)) (program : Program) (before now : Course) (feed : Feed) (rows : List Row) (start cut : Cutting) (monitor : State)
    → OnLog log_before log_between (CutsLine Trace start cut line_answer.TheVariants.Row) → OnLog log_between log_now (LineSteps result program before now feed rows cut monitor) → OnLog log_before log_now (Turns result program before now feed rows start cut monitor)
Turns-step result log_before log_between log_now program before now feed rows start cut monitor cuts steps =
    turns_by result log_before log_between log_now program before now feed rows start cut monitor (is_step result program before now feed rows cut monitor steps.events steps.holds) cuts steps

-- what a line brought is told by how lines are read after it
takes_on : (result : ControlFlow watched.Watched ⊤) (what : Meaning) (number : ℕ) (program : Program) (before between now : Course) (rows : List Row) (monitor : State) (events : List Event) → now.reader ≡ between.reader
    → TakesAs result what number program before between rows monitor events → TakesAs result what number program before now rows monitor events
takes_on (Continue u) (Brings more next) number program before between now rows monitor events same takes = record { stands = subst (λ r. ReaderIsAt next r (before.lines + 1) (rows ++ more)) (sym same) takes.stands; tells = takes.tells }
takes_on (Break watched.TheVariants.WriteFault) (Brings more next) number program before between now rows monitor events same takes = takes
takes_on (Break (watched.TheVariants.BadTrace line why)) (IsFaulty cause) number program before between now rows monitor events same takes = takes
takes_on (Break watched.TheVariants.TooLong) IsPast number program before between now rows monitor events same takes = takes
takes_on result what number program before between now rows monitor events same takes = absurd takes

-- a line that was taken, once it is counted
pub took_line : (program : Program) (before between now : Course) (feed : Feed) (rows : List Row) (cut : Cutting) (monitor : State) (events : List Event) → Counts before.mission before.lines cut → MovesReader before between → now.mission ≡ between.mission
    → now.style ≡ between.style → now.lines ≡ between.lines + 1 → now.reader ≡ between.reader → TakesCut (Continue tt) program before between feed rows cut monitor events → LineSteps (Continue tt) program before now feed rows cut monitor events
took_line program before between now feed rows cut monitor events counts moves mission style lines reader takes =
    inr (record {
      mission = mission ∙ moves.mission;
      style = style ∙ moves.style;
      lines = lines ∙ ap (λ n. n + 1) moves.lines;
      counts = counts;
      takes = takes_on (Continue tt) (cut_meaning program before feed cut) cut.number program before between now rows monitor events reader takes;
    })

-- a line that ended the loop
pub stopped : (answer : watched.Watched) (program : Program) (before now : Course) (feed : Feed) (rows : List Row) (cut : Cutting) (monitor : State) (events : List Event) → HasStopped answer program before now feed rows cut monitor events
    → LineSteps (Break answer) program before now feed rows cut monitor events
stopped watched.TheVariants.Done program before now feed rows cut monitor events h = h
stopped watched.TheVariants.TooLong program before now feed rows cut monitor events h = inr h
stopped (watched.TheVariants.BadTrace number why) program before now feed rows cut monitor events h = h
stopped watched.TheVariants.ReadFault program before now feed rows cut monitor events h = h
stopped watched.TheVariants.WriteFault program before now feed rows cut monitor events h = h

-- after some lines
abbrev pub HasLinesAt : Program → (List (List ℕ) → TraceRows) → Cutting → Cutting → State → ℕ → Style → ℕ → Reader → Feed → List Event → Type 0
HasLinesAt program rows_in start cut monitor mission style lines reader feed events =
    HasWatched program style rows_in start cut monitor (rows_of program mission lines feed) lines (ReaderIsAt feed reader lines) events

abbrev pub HasLines : Program → (List (List ℕ) → TraceRows) → Cutting → Cutting → State → Course → Feed → List Event → Type 0
HasLines program rows_in start cut monitor course feed events = HasLinesAt program rows_in start cut monitor course.mission course.style course.lines course.reader feed events

-- before the first
pub HasLines-none : (program : Program) (course : Course) (feed : Feed) (start : Cutting) (monitor : State) → start.number ≤ 1 → HasTold program monitor [] → course.lines ≡ 0 → ReaderIsAt feed course.reader 0 []
    → HasLines program (fed_rows feed program course.mission (first_of start)) start start monitor course feed []
HasLines-none program course feed start monitor low told none stands =
    subst (λ n. HasLinesAt program (fed_rows feed program course.mission (first_of start)) start start monitor course.mission course.style n course.reader feed []) (sym none)
    (HasWatched-none program course.style start monitor (rows_of program course.mission 0 feed) (ReaderIsAt feed course.reader 0) low told refl stands)

-- the rows of lines, by the first
rows_of-line : (program : Program) (mission before number : ℕ) (feed : Feed) (raw : List ℕ) (raws : List (List ℕ)) (what : Meaning) → is_header number raw ≡ false → meaning_of_line program mission before feed raw ≡ what
    → rows_of program mission before feed (after_header number (raw ∷ raws)) ≡ put_line_in_front what number (λ next. rows_of program mission (before + 1) next (after_header (number + 1) raws))
rows_of-line program mission before number feed raw raws what plain is =
    ap (rows_of program mission before feed) (after_header-line number raw raws plain) ∙ ap (λ m. put_line_in_front m number (λ next. rows_of program mission (before + 1) next (after_header (number + 1) raws))) is

module _ (program : Program) (rows_in : List (List ℕ) → TraceRows) (start cut new : Cutting) (monitor after : State) (course : Course) (feed : Feed) (events : List Event) (has : HasLines program rows_in start cut monitor course feed events) where
  -- the rows that follow, also after one more line
  abbrev rest : List (ℕ × List ℕ) → TraceRows
  rest = rows_of program course.mission course.lines feed

  abbrev rest_after : Feed → List (ℕ × List ℕ) → TraceRows
  rest_after next = rows_of program course.mission (course.lines + 1) next

  abbrev Keeps : List Row → Type 0
  Keeps = ReaderIsAt feed course.reader course.lines

  -- the line that was cut
  abbrev here : Meaning
  here = cut_meaning program course feed new

  marked_is : (reads : List Event) (cuts : CutsLine Trace cut new line_answer.TheVariants.Row reads) (marked : Bool) → is_marked new.number (cut_text new) ≡ marked → is_header (next_number cut) cuts.answer.0 ≡ marked
  marked_is reads cuts marked is = line_marked program course.style rows_in start cut new monitor rest course.lines Keeps events reads has cuts marked is

  next_is : (reads : List Event) (cuts : CutsLine Trace cut new line_answer.TheVariants.Row reads) → course.lines ≤ course.mission → course.mission ≤ 2 ^ 40 → next_number new ≡ next_number cut + 1
  next_is reads cuts within far = line_next program course.style rows_in start cut new monitor rest course.lines Keeps events reads has cuts (omega (arith, within, far))

  starts : (reads : List Event) (cuts : CutsLine Trace cut new line_answer.TheVariants.Row reads) (what : Meaning) (raws : List (List ℕ)) → is_marked new.number (cut_text new) ≡ false → meaning_of_line program course.mission course.lines feed cuts.answer.0 ≡ what
      → rest (after_header (next_number cut) (cuts.answer.0 ∷ raws)) ≡ put_line_in_front what (next_number cut) (λ next. rest_after next (after_header (next_number cut + 1) raws))
  starts reads cuts what raws plain is = rows_of-line program course.mission course.lines (next_number cut) feed cuts.answer.0 raws what (marked_is reads cuts false plain) is

  here_is : (reads : List Event) (cuts : CutsLine Trace cut new line_answer.TheVariants.Row reads) → course.lines < course.mission → meaning_of_line program course.mission course.lines feed cuts.answer.0 ≡ here
  here_is reads cuts within =
      meaning-text program course.mission course.lines feed cuts.answer.0 within (line_short program course.style rows_in start cut new monitor rest course.lines Keeps events reads has cuts)
      ∙ ap (text_meaning program course.mission feed) (line_is program course.style rows_in start cut new monitor rest course.lines Keeps events reads has cuts)

  -- what a turn that goes on leaves: of the lines that are left, one of which may be the header, there are fewer
  pub record GoesOn (now : Course) (all : List Event) : Type 0 where
    pub next : Feed
    pub same_mission : now.mission ≡ course.mission
    pub same_style : now.style ≡ course.style
    pub within : now.lines ≤ now.mission
    pub has_lines : HasLines program rows_in start new after now next all
    pub fewer : (now.mission - now.lines) + (2 - next_number new) < (course.mission - course.lines) + (2 - next_number cut)

  GoesOn-same : (now then_ : Course) (all : List Event) → now ≡ then_ → GoesOn then_ all → GoesOn now all
  GoesOn-same now then_ all is goes = subst (λ c. GoesOn c all) (sym is) goes

  -- the header
  header_goes : (reads wrote : List Event) → course.lines ≤ course.mission → course.mission ≤ 2 ^ 40 → (cuts : CutsLine Trace cut new line_answer.TheVariants.Row reads) → is_marked new.number (cut_text new) ≡ true → WritesNone program has.rows after wrote → GoesOn course ((events ++ reads) ++ wrote)
  header_goes reads wrote within far cuts marked none =
      let next = next_is reads cuts within far in
      let is_first : next_number cut ≡ 1 = sym cuts.answer.1.number ∙ marked_first new.number (cut_text new) marked in
      record {
        next = feed;
        same_mission = refl;
        same_style = refl;
        within = within;
        has_lines = HasWatched-quiet program course.style rows_in start cut new monitor rest course.lines Keeps events reads has after rest course.lines Keeps wrote cuts
            (λ raws. ap rest (after_header-header (next_number cut) cuts.answer.0 raws (marked_is reads cuts true marked)) ∙ ap (λ n. rest (after_header n raws)) (sym next))
            refl none has.keeps (omega (arith, next, is_first));
        fewer = omega (arith, next, is_first);
      }

  -- another line
  pub record LineGoes (reader : Reader) (all : List Event) : Type 0 where
    pub next : Feed
    pub has_lines : HasLinesAt program rows_in start new after course.mission course.style (course.lines + 1) reader next all

  line_goes : (what : Meaning) (now : Course) (reads wrote : List Event) → course.lines < course.mission → course.mission ≤ 2 ^ 40 → (cuts : CutsLine Trace cut new line_answer.TheVariants.Row reads) → is_marked new.number (cut_text new) ≡ false
      → meaning_of_line program course.mission course.lines feed cuts.answer.0 ≡ what → TakesAs (Continue tt) what new.number program course now has.rows after wrote → LineGoes now.reader ((events ++ reads) ++ wrote)
  line_goes (Brings more next_feed) now reads wrote within far cuts plain is takes =
      let next = next_is reads cuts (omega (arith, within)) far in
      record {
        next = next_feed;
        has_lines = HasWatched-line program course.style rows_in start cut new monitor rest course.lines Keeps events reads has after (rest_after next_feed) (course.lines + 1) (ReaderIsAt next_feed now.reader (course.lines + 1)) more wrote cuts
            (λ raws. IsLedBy-same _ _ _ _ (starts reads cuts (Brings more next_feed) raws plain is ∙ ap (λ n. put_line_in_front (Brings more next_feed) (next_number cut) (λ f. rest_after f (after_header n raws))) (sym next)) (record { rows = refl; stop = refl }))
            refl takes.tells takes.stands (omega (arith, next, has.early));
      }
  line_goes (IsFaulty why) now reads wrote within far cuts plain is takes = absurd takes
  line_goes IsPast now reads wrote within far cuts plain is takes = absurd takes

  taken_goes : (now : Course) (reads wrote : List Event) → course.mission ≤ 2 ^ 40 → CutsLine Trace cut new line_answer.TheVariants.Row reads → TookLine program course now feed has.rows new after wrote → GoesOn now ((events ++ reads) ++ wrote)
  taken_goes now reads wrote far cuts taken =
      let counts = taken.counts in
      let next = next_is reads cuts (omega (arith, counts.within)) far in
      let all = (events ++ reads) ++ wrote in
      let goes = line_goes here now reads wrote counts.within far cuts counts.no_header (here_is reads cuts counts.within) taken.takes in
      record {
        next = goes.next;
        same_mission = taken.mission;
        same_style = taken.style;
        within = omega (arith, counts.within, taken.mission, taken.lines);
        has_lines =
            subst (λ n. HasLinesAt program rows_in start new after now.mission now.style n now.reader goes.next all) (sym taken.lines)
            (subst (λ m. HasLinesAt program rows_in start new after m now.style (course.lines + 1) now.reader goes.next all) (sym taken.mission)
            (subst (λ s. HasLinesAt program rows_in start new after course.mission s (course.lines + 1) now.reader goes.next all) (sym taken.style) goes.has_lines));
        fewer = omega (arith, counts.within, next, taken.mission, taken.lines);
      }

  step_goes : (u : ⊤) (now : Course) (reads wrote : List Event) → course.lines ≤ course.mission → course.mission ≤ 2 ^ 40 → CutsLine Trace cut new line_answer.TheVariants.Row reads → LineSteps (Continue u) program course now feed has.rows new after wrote → GoesOn now ((events ++ reads) ++ wrote)
  step_goes u now reads wrote within far cuts (inl header) = GoesOn-same now course _ header.same (header_goes reads wrote within far cuts header.marked header.writes)
  step_goes u now reads wrote within far cuts (inr taken) = taken_goes now reads wrote far cuts taken

  pub turn_goes : (u : ⊤) (now : Course) (second : List Event) → course.lines ≤ course.mission → course.mission ≤ 2 ^ 40 → Turns (Continue u) program course now feed has.rows cut new after second → GoesOn now (events ++ second)
  turn_goes u now second within far (inl long) = absurd long.0
  turn_goes u now second within far (inr line) =
      subst (GoesOn now) (append_assoc events line.first line.second ∙ ap (λ rest. events ++ rest) (sym line.split)) (step_goes u now line.first line.second within far line.cuts line.next)

  -- nothing was written after a line
  unwritten : (answer : watched.Watched) (reads wrote : List Event) → wrote ≡ [] → IsWatch program course.style rows_in start new after answer (events ++ reads) → IsWatch program course.style rows_in start new after answer ((events ++ reads) ++ wrote)
  unwritten answer reads wrote none is = subst (IsWatch program course.style rows_in start new after answer) (sym (ap (λ w. (events ++ reads) ++ w) none ∙ append-nil (events ++ reads))) is

  -- the rows end at a line that was cut
  cut_ends : (answer : watched.Watched) (what : Meaning) (now : Course) (reads wrote : List Event) (cuts : CutsLine Trace cut new line_answer.TheVariants.Row reads) → is_marked new.number (cut_text new) ≡ false → meaning_of_line program course.mission course.lines feed cuts.answer.0 ≡ what
      → TakesAs (Break answer) what new.number program course now has.rows after wrote → IsWatch program course.style rows_in start new after answer ((events ++ reads) ++ wrote)
  cut_ends watched.TheVariants.WriteFault (Brings more next) now reads wrote cuts plain is tells =
      let tail = rest_after next (after_header (next_number cut + 1) (lines_of new.ended new.pending)) in
      write_ends program course.style rows_in start cut new monitor after rest course.lines Keeps events reads has more tail.rows tail.stop wrote cuts
      (IsLedBy-same _ _ _ _ (starts reads cuts (Brings more next) (lines_of new.ended new.pending) plain is) (record { rows = refl; stop = refl })) tells
  cut_ends (watched.TheVariants.BadTrace number why) (IsFaulty cause) now reads wrote cuts plain is bad =
      unwritten (watched.TheVariants.BadTrace number why) reads wrote bad.2.none
      (line_ends program course.style rows_in start cut new monitor after rest course.lines Keeps events reads has (Bad (next_number cut) cause) (watched.TheVariants.BadTrace number why) cuts (λ others. starts reads cuts (IsFaulty cause) others plain is)
      (λ all. (all.stop_is ∙ ap (λ n. Bad n cause) (sym (bad.0 ∙ cuts.answer.1.number)) ∙ ap (Bad number) (sym bad.1), all.told)) bad.2.told)
  cut_ends watched.TheVariants.TooLong IsPast now reads wrote cuts plain is none =
      unwritten watched.TheVariants.TooLong reads wrote none.none
      (line_ends program course.style rows_in start cut new monitor after rest course.lines Keeps events reads has Past watched.TheVariants.TooLong cuts (λ others. starts reads cuts IsPast others plain is) (λ all. (all.stop_is, all.told)) none.told)
  cut_ends answer what now reads wrote cuts plain is none = absurd none

  -- a line that was cut, and what it brought
  stop_ends : (answer : watched.Watched) (now : Course) (reads wrote : List Event) (cuts : CutsLine Trace cut new line_answer.TheVariants.Row reads) → HasStopped answer program course now feed has.rows new after wrote → IsWatch program course.style rows_in start new after answer ((events ++ reads) ++ wrote)
  stop_ends answer now reads wrote cuts stopped = cut_ends answer here now reads wrote cuts stopped.counts.no_header (here_is reads cuts stopped.counts.within) stopped.takes

  -- how a line that was cut ends the run
  cut_turn : (answer : watched.Watched) (now : Course) (reads wrote : List Event) (cuts : CutsLine Trace cut new line_answer.TheVariants.Row reads) → LineSteps (Break answer) program course now feed has.rows new after wrote → IsWatch program course.style rows_in start new after answer ((events ++ reads) ++ wrote)
  cut_turn watched.TheVariants.TooLong now reads wrote cuts (inl over) =
      cut_ends watched.TheVariants.TooLong IsPast now reads wrote cuts over.no_header (meaning-past program course.mission course.lines feed cuts.answer.0 over.at_end) over.writes
  cut_turn watched.TheVariants.TooLong now reads wrote cuts (inr step) = stop_ends watched.TheVariants.TooLong now reads wrote cuts step
  cut_turn watched.TheVariants.Done now reads wrote cuts step = stop_ends watched.TheVariants.Done now reads wrote cuts step
  cut_turn watched.TheVariants.ReadFault now reads wrote cuts step = stop_ends watched.TheVariants.ReadFault now reads wrote cuts step
  cut_turn watched.TheVariants.WriteFault now reads wrote cuts step = stop_ends watched.TheVariants.WriteFault now reads wrote cuts step
  cut_turn (watched.TheVariants.BadTrace number why) now reads wrote cuts step = stop_ends (watched.TheVariants.BadTrace number why) now reads wrote cuts step

  -- how a turn that ends the loop ends the run
  pub turn_ends : (answer : watched.Watched) (now : Course) (second : List Event) → Turns (Break answer) program course now feed has.rows cut new after second → IsWatch program course.style rows_in start new after answer (events ++ second)
  turn_ends watched.TheVariants.Done now second none = done_is program course.style rows_in start cut new monitor after rest course.lines Keeps events second has none
  turn_ends watched.TheVariants.ReadFault now second none = read_fault_is program course.style rows_in start cut new monitor after rest course.lines Keeps events second has none
  turn_ends watched.TheVariants.TooLong now second (inl long) =
      let starts_long = long_starts program course.style rows_in start cut new monitor after rest course.lines Keeps events second has long.1.cuts in
      long_ends program course.style rows_in start cut new monitor after rest course.lines Keeps events second has Past watched.TheVariants.TooLong long.1
      (rows_of-line program course.mission course.lines (next_number cut) feed starts_long.raw starts_long.others IsPast (is_header-long (next_number cut) starts_long.raw starts_long.long) (meaning-past program course.mission course.lines feed starts_long.raw long.0))
      (λ all. (all.stop_is, all.told))
  turn_ends (watched.TheVariants.BadTrace number why) now second (inl long) =
      let starts_long = long_starts program course.style rows_in start cut new monitor after rest course.lines Keeps events second has long.1.cuts in
      long_ends program course.style rows_in start cut new monitor after rest course.lines Keeps events second has (Bad (next_number cut) LongLine) (watched.TheVariants.BadTrace number why) long.1
      (rows_of-line program course.mission course.lines (next_number cut) feed starts_long.raw starts_long.others (IsFaulty LongLine) (is_header-long (next_number cut) starts_long.raw starts_long.long) (meaning-long program course.mission course.lines feed starts_long.raw long.0.0 starts_long.long))
      (λ all. (all.stop_is ∙ ap (λ n. Bad n LongLine) (sym long.0.1) ∙ ap (Bad number) (sym long.0.2), all.told))
  turn_ends watched.TheVariants.WriteFault now second (inl long) = absurd long.0
  turn_ends answer now second (inr line) =
      subst (IsWatch program course.style rows_in start new after answer) (append_assoc events line.first line.second ∙ ap (λ rest. events ++ rest) (sym line.split)) (cut_turn answer now line.first line.second line.cuts line.next)
