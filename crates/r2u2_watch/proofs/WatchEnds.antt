-- How the loop over a trace ends, by any reading of its lines.

use Rattle.std.proofs.Common.{◌≡◌, ℕ, false, List, [], ◌∷◌, ◌++◌, refl, sym, ◌∙◌, ap, subst, append_assoc}
use Rattle.std.specs.List.{concat}
use Rattle.std.proofs.lemmas.List.{append-nil}
use Rattle.mltl_base.specs.declared.report.Style.{Style}
use Rattle.mltl_base.specs.declared.program.Program.{Program}
use Rattle.mltl_base.specs.Atoms.{Row}
use Rattle.mltl_base.specs.Programs.{outputs, output_names}
use Rattle.mltl_base.specs.Reports.{reports_after}
use Rattle.mltl_base.specs.Lines.{lines_of_reports, lines}
use Rattle.tool_io.specs.declared.host.Place.TheVariants.{Trace, Out}
use Rattle.tool_io.specs.declared.line_cut.Line as line_answer
use Rattle.tool_io.specs.Log.{Event, taken, given, ended_from}
use Rattle.tool_io.specs.Cutting.{Cutting, lines_of, next_number, CutsLine}
use Rattle.tool_io.proofs.ListLaws.{some-append}
use Rattle.tool_io.proofs.LogLaws.{taken-append, given-append, ended_from-append, Writes-given, Writes-taken, Writes-ended}
use Rattle.tool_io.proofs.CutLaws.{StartsLong, lines_of-none, lines_of-long}
use Rattle.tool_io.proofs.Prompting.{PromptBy-append, Prompt-from_by, Writes-prompt}
use Rattle.r2u2_monitor.specs.declared.state.State.{State}
use Rattle.r2u2_monitor.specs.Monitoring.{Stands}
use Rattle.r2u2_watch.specs.declared.status.Watched as watched
use Rattle.r2u2_watch.specs.Trace.{TraceRows, Stop, Clean, ends_by, after_header, due}
use Rattle.r2u2_watch.specs.Telling.{text_after, TakesFront, TellsFront}
use Rattle.r2u2_watch.specs.Turns.{CutsNone}
use Rattle.r2u2_watch.specs.Watch.{OnlyRun, HasTold, HasFront, lines_by, IsTold, Outcome, IsWatch}
use Rattle.r2u2_watch.proofs.LineLaws.{row_line, OnlyRun-append, OnlyRun-writes}
use Rattle.r2u2_watch.proofs.WatchLaws.{HasWatched, IsLedBy, IsLedBy-same, IsLedBy-then, line_bytes, line_ended, line_no_more, prompt_then, line_follows, line_given, line_only, lines_append}

-- the rows that a monitor has after a write that failed, where these were told before
has_front : (program : Program) (style : Style) (rows more tail all : List Row) (monitor : State) (sent out : List ℕ) → all ≡ (rows ++ more) ++ tail → out ≡ lines_by program style rows ++ sent → TakesFront program style rows more monitor sent → HasFront program style monitor all out
has_front program style rows more tail all monitor sent out split is a =
    let names = output_names program in
    let outs = outputs program in
    let told = lines_by program style rows in
    let taken = a.before ++ a.last ∷ [] in
    let grouped : rows ++ taken ≡ (rows ++ a.before) ++ a.last ∷ [] = sym (append_assoc rows a.before (a.last ∷ [])) in
    record {
      program_kept = a.program_kept;
      before = rows ++ a.before;
      last = a.last;
      is_front = record {
        rest = a.is_front.rest ++ tail;
        split = split ∙ ap (λ xs. (rows ++ xs) ++ tail) a.is_front.split ∙ append_assoc rows (taken ++ a.is_front.rest) tail ∙ ap (λ xs. rows ++ xs) (append_assoc taken a.is_front.rest tail)
            ∙ sym (append_assoc rows taken (a.is_front.rest ++ tail)) ∙ ap (λ xs. xs ++ (a.is_front.rest ++ tail)) grouped;
      };
      stands = subst (Stands monitor) grouped a.stands;
      told = record {
        rest = a.told.rest;
        split = is ∙ ap (λ bytes. told ++ bytes) a.told.split ∙ sym (append_assoc told (text_after program style rows a.before) a.told.rest) ∙ ap (λ bytes. bytes ++ a.told.rest) (sym (lines_append style names outs rows a.before));
      };
      untold = record {
        rest = a.untold.rest;
        split = ap (lines_by program style) (sym grouped) ∙ lines_append style names outs rows taken ∙ ap (λ bytes. told ++ bytes) a.untold.split ∙ sym (append_assoc told sent a.untold.rest) ∙ ap (λ bytes. bytes ++ a.untold.rest) (sym is);
        misses = a.untold.misses;
      };
    }

module _ (program : Program) (style : Style) (rows_in : List (List ℕ) → TraceRows) (start cut new : Cutting) (monitor after : State) (rest : List (ℕ × List ℕ) → TraceRows) (before : ℕ) (Keeps : List Row → Type 0) (events reads : List Event) (has : HasWatched program style rows_in start cut monitor rest before Keeps events) where
  -- the bytes of a run that reads these, and their rows
  abbrev all_bytes : List ℕ
  all_bytes = start.pending ++ taken Trace (events ++ reads)

  abbrev all_rows : TraceRows
  all_rows = rows_in (lines_of new.ended all_bytes)

  -- the lines of rows
  abbrev told_of : List Row → List ℕ
  told_of = lines style (output_names program) (outputs program)

  -- the lines of all bytes are those before and those that follow
  lines_are : (answer : line_answer.Line) (cuts : CutsLine Trace cut new answer reads) → lines_of new.ended all_bytes ≡ has.raws ++ lines_of new.ended (cut.pending ++ concat cuts.pieces)
  lines_are answer cuts = ap (lines_of new.ended) (line_bytes program style rows_in start cut new monitor rest before Keeps events reads has answer cuts) ∙ has.cuts new.ended (cut.pending ++ concat cuts.pieces) (line_follows program style rows_in start cut new monitor rest before Keeps events reads has answer cuts)

  -- so are the rows
  rows_are : (answer : line_answer.Line) (cuts : CutsLine Trace cut new answer reads) (follow : List (List ℕ)) → lines_of new.ended (cut.pending ++ concat cuts.pieces) ≡ follow → IsLedBy all_rows has.rows (rest (after_header (next_number cut) follow))
  rows_are answer cuts follow is = IsLedBy-same _ _ _ _ (ap rows_in (lines_are answer cuts ∙ ap (λ ls. has.raws ++ ls) is)) (has.leads follow)

  -- all is told where no further row comes, and the rows end so
  pub record AllTold (stop : Stop) : Type 0 where
    pub stop_is : all_rows.stop ≡ stop
    pub told : IsTold program style rows_in new.ended all_bytes (given Out (events ++ reads)) after

  all_told : (answer : line_answer.Line) (cuts : CutsLine Trace cut new answer reads) (follow : List (List ℕ)) (stop : Stop) → lines_of new.ended (cut.pending ++ concat cuts.pieces) ≡ follow → rest (after_header (next_number cut) follow) ≡ ends_by stop → HasTold program after has.rows → AllTold stop
  all_told answer cuts follow stop is end told =
      let leads = rows_are answer cuts follow is in
      let rows : all_rows.rows ≡ has.rows = leads.rows ∙ ap (λ (t : TraceRows). has.rows ++ t.rows) end ∙ append-nil has.rows in
      record {
        stop_is = leads.stop ∙ ap (λ (t : TraceRows). t.stop) end;
        told = record {
          told = line_given program style rows_in start cut new monitor rest before Keeps events reads has answer cuts ∙ ap told_of (sym rows);
          kept = subst (HasTold program after) (sym rows) told;
        };
      }

  -- the log of a run that ends so
  watch_is : (answer : line_answer.Line) (cuts : CutsLine Trace cut new answer reads) (end : watched.Watched) → Outcome end program style rows_in new.ended all_bytes (given Out (events ++ reads)) after → IsWatch program style rows_in start new after end (events ++ reads)
  watch_is answer cuts end outcome = record {
    prompt = Prompt-from_by (due program style rows_in false) start.pending (events ++ reads) (prompt_then program style rows_in start cut new monitor rest before Keeps events reads has answer cuts);
    outcome = outcome;
    ended = line_ended program style rows_in start cut new monitor rest before Keeps events reads has answer cuts;
    no_more = line_no_more program style rows_in start cut new monitor rest before Keeps events reads has answer cuts;
    only = line_only program style rows_in start cut new monitor rest before Keeps events reads has answer cuts;
  }

  -- the trace has ended
  pub done_is : CutsNone program has.rows cut new line_answer.TheVariants.End after reads → IsWatch program style rows_in start new after watched.TheVariants.Done (events ++ reads)
  done_is none =
      let cuts = none.cuts in
      let is : lines_of new.ended (cut.pending ++ concat cuts.pieces) ≡ [] = ap (lines_of new.ended) cuts.answer.1 in
      let all = all_told line_answer.TheVariants.End cuts [] Clean is has.clean none.told in
      watch_is line_answer.TheVariants.End cuts watched.TheVariants.Done (cuts.answer.2, all.stop_is, all.told)

  -- a read failed
  pub read_fault_is : CutsNone program has.rows cut new line_answer.TheVariants.ReadFault after reads → IsWatch program style rows_in start new after watched.TheVariants.ReadFault (events ++ reads)
  read_fault_is none =
      let cuts = none.cuts in
      let unmet : new.ended ≡ false = cuts.answer.2 in
      let is : lines_of new.ended (cut.pending ++ concat cuts.pieces) ≡ [] = ap (λ v. lines_of v (cut.pending ++ concat cuts.pieces)) unmet ∙ lines_of-none (cut.pending ++ concat cuts.pieces) cuts.answer.0.no_newline cuts.answer.1 in
      let all = all_told line_answer.TheVariants.ReadFault cuts [] Clean is has.clean none.told in
      watch_is line_answer.TheVariants.ReadFault cuts watched.TheVariants.ReadFault
      (unmet, subst (λ v. (rows_in (lines_of v all_bytes)).stop ≡ Clean) unmet all.stop_is, subst (λ v. IsTold program style rows_in v all_bytes (given Out (events ++ reads)) after) unmet all.told)

  -- a line of 65,536 bytes without a newline is the first that follows, and so is a row
  pub long_starts : (cuts : CutsLine Trace cut new line_answer.TheVariants.LongLine reads) → StartsLong (lines_of new.ended (cut.pending ++ concat cuts.pieces))
  long_starts cuts = subst (λ bytes. StartsLong (lines_of new.ended bytes)) (append-nil (cut.pending ++ concat cuts.pieces)) (lines_of-long new.ended (cut.pending ++ concat cuts.pieces) [] cuts.answer.0.no_newline cuts.answer.1)

  row_starts : (cuts : CutsLine Trace cut new line_answer.TheVariants.Row reads) → lines_of new.ended (cut.pending ++ concat cuts.pieces) ≡ cuts.answer.0 ∷ lines_of new.ended new.pending
  row_starts cuts = ap (lines_of new.ended) cuts.answer.1.split ∙ row_line cuts.answer.0 new new.ended new.pending cuts.answer.1.line (λ met. (met, refl))

  -- the rows end at a line that is too long, or at another
  pub long_ends : (stop : Stop) (end : watched.Watched) (none : CutsNone program has.rows cut new line_answer.TheVariants.LongLine after reads) → rest (after_header (next_number cut) ((long_starts none.cuts).raw ∷ (long_starts none.cuts).others)) ≡ ends_by stop
      → (AllTold stop → Outcome end program style rows_in new.ended all_bytes (given Out (events ++ reads)) after)
      → IsWatch program style rows_in start new after end (events ++ reads)
  long_ends stop end none is outcome =
      let long = long_starts none.cuts in
      watch_is line_answer.TheVariants.LongLine none.cuts end (outcome (all_told line_answer.TheVariants.LongLine none.cuts (long.raw ∷ long.others) stop long.split is none.told))

  pub line_ends : (stop : Stop) (end : watched.Watched) (cuts : CutsLine Trace cut new line_answer.TheVariants.Row reads) → ((others : List (List ℕ)) → rest (after_header (next_number cut) (cuts.answer.0 ∷ others)) ≡ ends_by stop)
      → (AllTold stop → Outcome end program style rows_in new.ended all_bytes (given Out (events ++ reads)) after) → HasTold program after has.rows
      → IsWatch program style rows_in start new after end (events ++ reads)
  line_ends stop end cuts is outcome told =
      let others = lines_of new.ended new.pending in
      watch_is line_answer.TheVariants.Row cuts end (outcome (all_told line_answer.TheVariants.Row cuts (cuts.answer.0 ∷ others) stop (row_starts cuts) (is others) told))

  -- a write of the lines of a line's rows failed
  pub write_ends : (more tail : List Row) (stop : Stop) (wrote : List Event) (cuts : CutsLine Trace cut new line_answer.TheVariants.Row reads) → IsLedBy (rest (after_header (next_number cut) (cuts.answer.0 ∷ lines_of new.ended new.pending))) more (record { rows = tail; stop = stop }) → TellsFront program style has.rows more after wrote → IsWatch program style rows_in start new after watched.TheVariants.WriteFault ((events ++ reads) ++ wrote)
  write_ends more tail stop wrote cuts leads tells =
      let names = output_names program in
      let outs = outputs program in
      let raw = cuts.answer.0 in
      let sends = tells.sends in
      let front = has.rows ++ more in
      let behind = lines_of_reports names (reports_after style outs front tail) in
      let bytes : start.pending ++ taken Trace ((events ++ reads) ++ wrote) ≡ all_bytes = ap (λ b. start.pending ++ b) (taken-append Trace (events ++ reads) wrote ∙ ap (λ b. taken Trace (events ++ reads) ++ b) (Writes-taken Out Trace sends.sent wrote sends.writes) ∙ append-nil (taken Trace (events ++ reads))) in
      let rows : (rows_in (lines_of new.ended (start.pending ++ taken Trace ((events ++ reads) ++ wrote)))).rows ≡ front ++ tail = ap (λ b. (rows_in (lines_of new.ended b)).rows) bytes ∙ (IsLedBy-then _ _ _ has.rows more (rows_are line_answer.TheVariants.Row cuts (raw ∷ lines_of new.ended new.pending) (row_starts cuts)) leads).rows in
      let out : given Out ((events ++ reads) ++ wrote) ≡ told_of has.rows ++ sends.sent = given-append Out (events ++ reads) wrote ∙ ap (λ b. b ++ given Out wrote) (line_given program style rows_in start cut new monitor rest before Keeps events reads has line_answer.TheVariants.Row cuts) ∙ ap (λ b. told_of has.rows ++ b) (Writes-given Out sends.sent wrote sends.writes) in
      let whole : due program style rows_in new.ended (start.pending ++ taken Trace ((events ++ reads) ++ wrote)) ≡ given Out ((events ++ reads) ++ wrote) ++ (sends.unsent ++ behind) =
      ap told_of rows ∙ lines_append style names outs front tail ∙ ap (λ b. b ++ behind) (lines_append style names outs has.rows more ∙ ap (λ b. told_of has.rows ++ b) sends.split ∙ sym (append_assoc (told_of has.rows) sends.sent sends.unsent) ∙ ap (λ b. b ++ sends.unsent) (sym out)) ∙ append_assoc (given Out ((events ++ reads) ++ wrote)) sends.unsent behind in
      record {
        prompt = Prompt-from_by (due program style rows_in false) start.pending ((events ++ reads) ++ wrote) (PromptBy-append (due program style rows_in false) start.pending [] (events ++ reads) wrote (prompt_then program style rows_in start cut new monitor rest before Keeps events reads has line_answer.TheVariants.Row cuts) (Writes-prompt (due program style rows_in false) (start.pending ++ taken Trace (events ++ reads)) (given Out (events ++ reads)) Out sends.sent wrote sends.writes));
        outcome = (record { rest = sends.unsent ++ behind; split = whole; misses = some-append sends.unsent behind sends.misses }, has_front program style has.rows more tail _ after sends.sent _ rows out tells.kept);
        ended = line_ended program style rows_in start cut new monitor rest before Keeps events reads has line_answer.TheVariants.Row cuts ∙ sym (ended_from-append start.ended Trace (events ++ reads) wrote ∙ Writes-ended (ended_from start.ended Trace (events ++ reads)) Out Trace sends.sent wrote sends.writes);
        no_more = λ met.
            let was = line_no_more program style rows_in start cut new monitor rest before Keeps events reads has line_answer.TheVariants.Row cuts met in
            (was.0, taken-append Trace (events ++ reads) wrote ∙ ap (λ b. b ++ taken Trace wrote) was.1 ∙ Writes-taken Out Trace sends.sent wrote sends.writes);
        only = OnlyRun-append (events ++ reads) wrote (line_only program style rows_in start cut new monitor rest before Keeps events reads has line_answer.TheVariants.Row cuts) (subst OnlyRun (sym sends.writes.are) (OnlyRun-writes sends.writes.pieces));
      }
