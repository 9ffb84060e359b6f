-- The loop over a trace, line by line, by any reading of its lines: what stands after some lines, and how one more goes
-- on.

use Rattle.std.proofs.Common.{◌≡◌, ℕ, ◌+◌, ◌-◌, ◌<◌, ◌≤◌, min, ◌^◌, Bool, true, false, if◌then◌else◌, unwrap_or, List, [], ◌∷◌, ◌++◌, length, map, refl, sym, ◌∙◌, ap, subst, arith, append_assoc}
use Rattle.std.specs.List.{concat}
use Rattle.std.proofs.lemmas.List.{append-nil, map-append}
use Rattle.std.proofs.lemmas.List.Folds.{concat-append}
use Rattle.mltl_base.specs.declared.report.Style.{Style}
use Rattle.mltl_base.specs.declared.program.Program.{Program}
use Rattle.mltl_base.specs.Atoms.{Row}
use Rattle.mltl_base.specs.Programs.{outputs, output_names}
use Rattle.mltl_base.specs.Reports.{Output, reports, reports_after}
use Rattle.mltl_base.specs.Lines.{line, lines_of_reports, lines}
use Rattle.mltl_base.proofs.Telling.{reports_append}
use Rattle.tool_io.specs.declared.host.Place.TheVariants.{Trace, Out}
use Rattle.tool_io.specs.declared.line_cut.Line as line_answer
use Rattle.tool_io.specs.Log.{Event, Took, taken, given, ended_from, meets_end, Writes}
use Rattle.tool_io.specs.Cutting.{Cutting, HasNoNewline, lines_of, line_text, is_long, next_number, CutsLine}
use Rattle.tool_io.proofs.LogLaws.{taken-append, given-append, ended_from-append, Reads-taken, Reads-given, Reads-ended, Writes-none, Writes-given, Writes-taken, Writes-ended}
use Rattle.tool_io.proofs.CutLaws.{lines_of-none, is_long-row}
use Rattle.tool_io.proofs.Prompting.{PromptBy, PromptBy-append, Writes-prompt}
use Rattle.r2u2_monitor.specs.declared.state.State.{State}
use Rattle.r2u2_watch.specs.Trace.{TraceRows, Clean, ends_by, is_marked, is_header, after_header, due}
use Rattle.r2u2_watch.specs.Telling.{TellsAll, WritesNone}
use Rattle.r2u2_watch.specs.Turns.{cut_text}
use Rattle.r2u2_watch.specs.Watch.{OnlyRun, ReadsNoMore, HasTold, first_of}
use Rattle.r2u2_watch.proofs.LineLaws.{is_header-short, first_early, OnlyRun-reads, OnlyRun-writes, OnlyRun-append, Follows, reads_prompt, no_reads, true_false, row_follows, row_line}

-- lines of rows and of more rows
pub lines_append : (style : Style) (names : List (List ℕ)) (outs : List Output) (rows more : List Row) → lines style names outs (rows ++ more) ≡ lines style names outs rows ++ lines_of_reports names (reports_after style outs rows more)
lines_append style names outs rows more =
    ap (lines_of_reports names) (reports_append style outs rows more)
    ∙ ap concat (map-append (line names) (reports style outs rows) (reports_after style outs rows more))
    ∙ concat-append (map (line names) (reports style outs rows)) (map (line names) (reports_after style outs rows more))

-- the first rows are these and then those of the rest, which ends as all do
pub record IsLedBy (all : TraceRows) (first : List Row) (rest : TraceRows) : Type 0 where
  pub rows : all.rows ≡ first ++ rest.rows
  pub stop : all.stop ≡ rest.stop

pub IsLedBy-then : (all mid rest : TraceRows) (first second : List Row) → IsLedBy all first mid → IsLedBy mid second rest → IsLedBy all (first ++ second) rest
IsLedBy-then all mid rest first second a b = record {
  rows = a.rows ∙ ap (λ rows. first ++ rows) b.rows ∙ sym (append_assoc first second rest.rows);
  stop = a.stop ∙ b.stop;
}

pub IsLedBy-same : (all same rest : TraceRows) (first : List Row) → all ≡ same → IsLedBy same first rest → IsLedBy all first rest
IsLedBy-same all same rest first is a = subst (λ t. IsLedBy t first rest) (sym is) a

-- After some lines, of which so many stand after the header, each with its lines told. `rows_in` are the rows of all
-- lines, `rest` of those after the header that follow.
pub record HasWatched (program : Program) (style : Style) (rows_in : List (List ℕ) → TraceRows) (start cut : Cutting) (monitor : State) (rest : List (ℕ × List ℕ) → TraceRows) (before : ℕ) (Keeps : List Row → Type 0) (events : List Event) : Type 0 where
  pub raws : List (List ℕ)
  pub rows : List Row
  pub bytes : List ℕ
  pub split : start.pending ++ taken Trace events ≡ bytes ++ cut.pending
  pub cuts : (ended : Bool) (more : List ℕ) → Follows cut ended more → lines_of ended (bytes ++ more) ≡ raws ++ lines_of ended more
  pub leads : (more : List (List ℕ)) → IsLedBy (rows_in (raws ++ more)) rows (rest (after_header (next_number cut) more))
  pub clean : rest [] ≡ ends_by Clean
  pub told : given Out events ≡ lines style (output_names program) (outputs program) rows
  pub kept : HasTold program monitor rows
  pub keeps : Keeps rows
  pub prompt : PromptBy (due program style rows_in false) start.pending [] events
  pub ended : cut.ended ≡ ended_from start.ended Trace events
  pub no_more : ReadsNoMore start cut events
  pub only : OnlyRun events
  pub early : next_number cut ≤ before + 2

-- before the first line
pub HasWatched-none : (program : Program) (style : Style) (start : Cutting) (monitor : State) (rest : List (ℕ × List ℕ) → TraceRows) (Keeps : List Row → Type 0) → start.number ≤ 1 → HasTold program monitor [] → rest [] ≡ ends_by Clean → Keeps [] → HasWatched program style (λ raws. rest (after_header (first_of start) raws)) start start monitor rest 0 Keeps []
unfolding reports_after
HasWatched-none program style start monitor rest Keeps low kept clean keeps = record {
  raws = [];
  rows = [];
  bytes = [];
  split = append-nil start.pending;
  cuts = λ ended more follows. refl;
  leads = λ more. record { rows = refl; stop = refl };
  clean = clean;
  told = refl;
  kept = kept;
  keeps = keeps;
  prompt = tt;
  ended = refl;
  no_more = λ met. (met, refl);
  only = tt;
  early = first_early start low;
}

-- nothing is due for no rows
no_lines : (style : Style) (names : List (List ℕ)) (outs : List Output) (rows : List Row) → lines_of_reports names (reports_after style outs rows []) ≡ []
unfolding reports_after
no_lines style names outs rows = refl

module _ (program : Program) (style : Style) (rows_in : List (List ℕ) → TraceRows) (start cut new : Cutting) (monitor : State) (rest : List (ℕ × List ℕ) → TraceRows) (before : ℕ) (Keeps : List Row → Type 0) (events reads : List Event) (has : HasWatched program style rows_in start cut monitor rest before Keeps events) where
  -- what is due for the bytes of a trace that may go on
  abbrev due_of : List ℕ → List ℕ
  due_of = due program style rows_in false

  -- the lines of rows
  abbrev told_of : List Row → List ℕ
  told_of = lines style (output_names program) (outputs program)

  -- the reads for one more line are prompt
  line_prompt : (answer : line_answer.Line) → CutsLine Trace cut new answer reads → PromptBy due_of (start.pending ++ taken Trace events) (given Out events) reads
  line_prompt answer cuts =
      let no_rows : (rest (after_header (next_number cut) [])).rows ≡ [] = ap (λ (t : TraceRows). t.rows) has.clean in
      let is : (more : List ℕ) → (cut.ended ≡ false) → HasNoNewline more → length more < 65536 → given Out events ≡ due_of (has.bytes ++ more) = λ more unmet plain short.
      has.told ∙ sym (ap (λ raws. told_of (rows_in raws).rows) (has.cuts false more (λ met. absurd (true_false (sym met ∙ unmet))) ∙ ap (λ ls. has.raws ++ ls) (lines_of-none more plain short)) ∙ ap told_of ((has.leads []).rows ∙ ap (λ rows. has.rows ++ rows) no_rows ∙ append-nil has.rows)) in
      let prompt : PromptBy due_of (has.bytes ++ cut.pending) (given Out events) (map (Took Trace) cuts.pieces) =
      elim cut.ended as (λ v. cut.ended ≡ v → PromptBy due_of (has.bytes ++ cut.pending) (given Out events) (map (Took Trace) cuts.pieces)) [
        | true ↦ λ met. no_reads due_of (has.bytes ++ cut.pending) (given Out events) cuts.pieces (cuts.no_more met)
        | false ↦ λ unmet. reads_prompt due_of has.bytes (given Out events) cut.pending cuts.pieces cuts.needed (λ more plain short. is more unmet plain short)
      ] refl in
      subst (λ all. PromptBy due_of (start.pending ++ taken Trace events) (given Out events) all) (sym cuts.reads)
      (subst (λ read. PromptBy due_of read (given Out events) (map (Took Trace) cuts.pieces)) (sym has.split) prompt)

  pub prompt_then : (answer : line_answer.Line) → CutsLine Trace cut new answer reads → PromptBy due_of start.pending [] (events ++ reads)
  prompt_then answer cuts = PromptBy-append due_of start.pending [] events reads has.prompt (line_prompt answer cuts)

  -- the bytes that were there and were taken for one more line
  pub line_bytes : (answer : line_answer.Line) (cuts : CutsLine Trace cut new answer reads) → start.pending ++ taken Trace (events ++ reads) ≡ has.bytes ++ (cut.pending ++ concat cuts.pieces)
  line_bytes answer cuts =
      ap (λ bytes. start.pending ++ bytes) (taken-append Trace events reads ∙ ap (λ bytes. taken Trace events ++ bytes) (Reads-taken Trace cuts.pieces reads cuts.reads))
      ∙ sym (append_assoc start.pending (taken Trace events) (concat cuts.pieces))
      ∙ ap (λ bytes. bytes ++ concat cuts.pieces) has.split
      ∙ append_assoc has.bytes cut.pending (concat cuts.pieces)

  -- whether the end was met then
  pub line_ended : (answer : line_answer.Line) → CutsLine Trace cut new answer reads → new.ended ≡ ended_from start.ended Trace (events ++ reads)
  line_ended answer cuts =
      cuts.ended ∙ ap (λ v. meets_end v cuts.pieces) has.ended ∙ sym (Reads-ended (ended_from start.ended Trace events) Trace cuts.pieces reads cuts.reads) ∙ sym (ended_from-append start.ended Trace events reads)

  -- once the end was met nothing more was read
  pub line_no_more : (answer : line_answer.Line) → CutsLine Trace cut new answer reads → ReadsNoMore start new (events ++ reads)
  line_no_more answer cuts met =
      let was = has.no_more met in
      let none = cuts.no_more was.0 in (
        cuts.ended ∙ ap (λ pieces. meets_end cut.ended pieces) none ∙ was.0,
        taken-append Trace events reads ∙ ap (λ bytes. bytes ++ taken Trace reads) was.1 ∙ Reads-taken Trace cuts.pieces reads cuts.reads ∙ ap concat none,
      )

  -- all that was taken follows the cut
  pub line_follows : (answer : line_answer.Line) (cuts : CutsLine Trace cut new answer reads) → Follows cut new.ended (cut.pending ++ concat cuts.pieces)
  line_follows answer cuts met =
      let none = cuts.no_more met in
      (cuts.ended ∙ ap (λ pieces. meets_end cut.ended pieces) none ∙ met, ap (λ pieces. cut.pending ++ concat pieces) none ∙ append-nil cut.pending)

  -- what is out then
  pub line_given : (answer : line_answer.Line) → CutsLine Trace cut new answer reads → given Out (events ++ reads) ≡ told_of has.rows
  line_given answer cuts = given-append Out events reads ∙ ap (λ bytes. given Out events ++ bytes) (Reads-given Trace Out cuts.pieces reads cuts.reads) ∙ append-nil (given Out events) ∙ has.told

  -- it has told no other events
  pub line_only : (answer : line_answer.Line) → CutsLine Trace cut new answer reads → OnlyRun (events ++ reads)
  line_only answer cuts = OnlyRun-append events reads has.only (subst OnlyRun (sym cuts.reads) (OnlyRun-reads cuts.pieces))

  -- the line that was cut isn't too long, and its text is that of the cut
  pub line_short : (cuts : CutsLine Trace cut new line_answer.TheVariants.Row reads) → is_long cuts.answer.0 ≡ false
  line_short cuts = let gives = cuts.answer.1 in is_long-row cuts.answer.0 new.pending new.ended gives.fits gives.line

  pub line_is : (cuts : CutsLine Trace cut new line_answer.TheVariants.Row reads) → line_text cuts.answer.0 ≡ cut_text new
  line_is cuts = ap (λ r. line_text (unwrap_or r [])) (sym cuts.answer.1.row)

  -- it is the header or isn't
  pub line_marked : (cuts : CutsLine Trace cut new line_answer.TheVariants.Row reads) (marked : Bool) → is_marked new.number (cut_text new) ≡ marked → is_header (next_number cut) cuts.answer.0 ≡ marked
  line_marked cuts marked is =
      is_header-short (next_number cut) cuts.answer.0 marked (line_short cuts) (ap (λ n. is_marked n (line_text cuts.answer.0)) (sym cuts.answer.1.number) ∙ ap (is_marked new.number) (line_is cuts) ∙ is)

  -- the number after it is one higher
  pub line_next : (cuts : CutsLine Trace cut new line_answer.TheVariants.Row reads) → before ≤ 2 ^ 40 → next_number new ≡ next_number cut + 1
  line_next cuts far =
      let gives = cuts.answer.1 in
      let small : new.number + 1 ≤ 2 ^ 64 - 1 = omega (arith, gives.number, has.early, far) in
      let least : min (new.number + 1) (2 ^ 64 - 1) ≡ new.number + 1 = omega (arith, small) in
      ap (λ v. if v then new.number else min (new.number + 1) (2 ^ 64 - 1)) gives.plain ∙ least ∙ ap (λ n. n + 1) gives.number

  -- one more line, which brought these rows and told them
  pub HasWatched-line : (after : State) (now_rest : List (ℕ × List ℕ) → TraceRows) (now : ℕ) (NowKeeps : List Row → Type 0) (more_rows : List Row) (wrote : List Event) (cuts : CutsLine Trace cut new line_answer.TheVariants.Row reads)
      → ((raws : List (List ℕ)) → IsLedBy (rest (after_header (next_number cut) (cuts.answer.0 ∷ raws))) more_rows (now_rest (after_header (next_number new) raws)))
      → now_rest [] ≡ ends_by Clean → TellsAll program style has.rows more_rows after wrote → NowKeeps (has.rows ++ more_rows) → next_number new ≤ now + 2
      → HasWatched program style rows_in start new after now_rest now NowKeeps ((events ++ reads) ++ wrote)
  HasWatched-line after now_rest now NowKeeps more_rows wrote cuts leads clean tells keeps early =
      let raw = cuts.answer.0 in
      let gives = cuts.answer.1 in
      let writes = tells.sends in
      let text = lines_of_reports (output_names program) (reports_after style (outputs program) has.rows more_rows) in
      record {
        raws = has.raws ++ raw ∷ [];
        rows = has.rows ++ more_rows;
        bytes = has.bytes ++ raw;
        split = ap (λ bytes. start.pending ++ bytes) (taken-append Trace (events ++ reads) wrote ∙ ap (λ bytes. taken Trace (events ++ reads) ++ bytes) (Writes-taken Out Trace text wrote writes) ∙ append-nil (taken Trace (events ++ reads))) ∙ line_bytes line_answer.TheVariants.Row cuts ∙ ap (λ bytes. has.bytes ++ bytes) gives.split ∙ sym (append_assoc has.bytes raw new.pending);
        cuts = λ ended more follows. ap (lines_of ended) (append_assoc has.bytes raw more) ∙ has.cuts ended (raw ++ more) (row_follows cut new raw reads cuts gives.split ended more follows) ∙ ap (λ ls. has.raws ++ ls) (row_line raw new ended more gives.line follows) ∙ sym (append_assoc has.raws (raw ∷ []) (lines_of ended more));
        leads = λ more. IsLedBy-same _ _ _ _ (ap rows_in (append_assoc has.raws (raw ∷ []) more)) (IsLedBy-then _ _ _ has.rows more_rows (has.leads (raw ∷ more)) (leads more));
        clean = clean;
        told = given-append Out (events ++ reads) wrote ∙ ap (λ bytes. bytes ++ given Out wrote) (line_given line_answer.TheVariants.Row cuts) ∙ ap (λ bytes. told_of has.rows ++ bytes) (Writes-given Out text wrote writes) ∙ sym (lines_append style (output_names program) (outputs program) has.rows more_rows);
        kept = tells.told;
        keeps = keeps;
        prompt = PromptBy-append due_of start.pending [] (events ++ reads) wrote (prompt_then line_answer.TheVariants.Row cuts) (Writes-prompt due_of (start.pending ++ taken Trace (events ++ reads)) (given Out (events ++ reads)) Out text wrote writes);
        ended = line_ended line_answer.TheVariants.Row cuts ∙ sym (ended_from-append start.ended Trace (events ++ reads) wrote ∙ Writes-ended (ended_from start.ended Trace (events ++ reads)) Out Trace text wrote writes);
        no_more = λ met.
            let was = line_no_more line_answer.TheVariants.Row cuts met in
            (was.0, taken-append Trace (events ++ reads) wrote ∙ ap (λ bytes. bytes ++ taken Trace wrote) was.1 ∙ Writes-taken Out Trace text wrote writes);
        only = OnlyRun-append (events ++ reads) wrote (line_only line_answer.TheVariants.Row cuts) (subst OnlyRun (sym writes.are) (OnlyRun-writes writes.pieces));
        early = early;
      }

  -- one that brought nothing
  pub HasWatched-quiet : (after : State) (now_rest : List (ℕ × List ℕ) → TraceRows) (now : ℕ) (NowKeeps : List Row → Type 0) (wrote : List Event) (cuts : CutsLine Trace cut new line_answer.TheVariants.Row reads)
      → ((raws : List (List ℕ)) → rest (after_header (next_number cut) (cuts.answer.0 ∷ raws)) ≡ now_rest (after_header (next_number new) raws))
      → now_rest [] ≡ ends_by Clean → WritesNone program has.rows after wrote → NowKeeps has.rows → next_number new ≤ now + 2
      → HasWatched program style rows_in start new after now_rest now NowKeeps ((events ++ reads) ++ wrote)
  HasWatched-quiet after now_rest now NowKeeps wrote cuts same clean none keeps early =
      let as_before : has.rows ≡ has.rows ++ [] = sym (append-nil has.rows) in
      HasWatched-line after now_rest now NowKeeps [] wrote cuts (λ raws. record { rows = ap (λ (t : TraceRows). t.rows) (same raws); stop = ap (λ (t : TraceRows). t.stop) (same raws) }) clean
      (record {
        sends = subst (λ bytes. Writes Out bytes wrote) (sym (no_lines style (output_names program) (outputs program) has.rows)) (subst (Writes Out []) (sym none.none) (Writes-none Out));
        told = subst (HasTold program after) as_before none.told;
      }) (subst NowKeeps as_before keeps) early
