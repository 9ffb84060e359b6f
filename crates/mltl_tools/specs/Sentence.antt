-- One sentence about both programs: if a text was compiled, and its program was run over a trace, the reports are of the
-- text's own formulas.

use Rattle.std.specs.Prelude.{◌≡◌, ℕ, ◌<◌, ◌≤◌, true, false, Option, Some, Ok, List, [], ◌∷◌, ◌++◌, All, flat_map}
use Rattle.std.specs.Prelude.{length, map, slice_get, take}
use Rattle.std.specs.List.{range_with_len}
use Rattle.std.specs.Option.{option_or}
use Rattle.mltl_base.specs.declared.program.Program.{Program}
use Rattle.mltl_base.specs.declared.report.Report.{Report}
use Rattle.mltl_base.specs.declared.report.Style.{Style}
use Rattle.mltl_base.specs.declared.report.Word.{Word}
use Rattle.mltl_base.specs.declared.report.Style.TheVariants.{Each, Runs}
use Rattle.mltl_base.specs.Atoms.{Row}
use Rattle.mltl_base.specs.Lines.{lines_of_reports}
use Rattle.mltl_base.specs.Programs.{outputs}
use Rattle.mltl_base.specs.Reports.{Output, AreDistinctBeside, reports_of, told}
use Rattle.mltl_base.specs.Reports as known
use Rattle.tool_io.specs.declared.host.Place.{Place}
use Rattle.tool_io.specs.declared.host.Place.TheVariants as at
use Rattle.tool_io.specs.Log.{Event, Took, taken, given, ended_from}
use Rattle.tool_io.specs.Cutting.{lines_of}
use Rattle.tool_words.specs.declared.file_kind.FileKind.TheVariants as file
use Rattle.tool_words.specs.C2poWords.{CompileAsked, compile}
use Rattle.tool_words.specs.C2poWords as compiling
use Rattle.tool_words.specs.R2u2Words.{RunAsked, run}
use Rattle.tool_words.specs.R2u2Words as watching
use Rattle.tool_words.specs.declared.status.Status.TheVariants.{Done}
use Rattle.r2u2_monitor.specs.declared.state.State.{State}
use Rattle.r2u2_watch.specs.Trace.{Clean}
use Rattle.c2po_compile.specs.Compiled.{columns_by, outputs_in, signals_in}
use Rattle.c2po_compile.specs.Image.{plain_outputs}
use Rattle.c2po_compile.specs.ImageFiles.{stored_columns}
use Rattle.c2po_compile.specs.Simplified.{TellWords}
use Rattle.c2po_cli.specs.Asking.{ask}
use Rattle.c2po_cli.specs.Images.{asked_header}
use Rattle.c2po_cli.specs.Run.{IsMade}
use Rattle.r2u2_cli.specs.Outcome.{rows_over}
use Rattle.r2u2_cli.specs.ProgramBy.{header_in, program_over}
use Rattle.r2u2_cli.specs.Taken.{lines_in, trace_of}
use Rattle.r2u2_cli.specs.Run.{IsRun}

-- the lines that were read at a place
abbrev pub lines_at : Place → List Event → List (List ℕ)
lines_at p events = lines_of (ended_from false p events) (taken p events)

-- The log of a run of c2po that ended with success: its arguments requested the program of a specification, and not its
-- table. It read this text, wrote these bytes, and this is the first line of the header file, if the arguments name one.
pub record HasCompiled (words : List (List ℕ)) (text : List ℕ) (header : Option (List ℕ)) (bytes : List ℕ)
    (events : List Event) : Type 0 where
  pub asked : CompileAsked
  pub before : Place → ℕ
  pub now : Place → ℕ
  pub asks : compiling.ask words ≡ compile asked
  pub no_table : asked.table ≡ false
  pub made : IsMade (ask words) Done before now events
  pub read : taken at.Spec events ≡ text
  pub under : asked_header asked.header (lines_at at.Header events) ≡ header
  pub wrote : given at.Out events ≡ bytes

-- The log of a run of r2u2 that ended with success: its arguments requested this run over a program file and a trace, and
-- the file had these bytes.
pub record HasWatched (words : List (List ℕ)) (asked : RunAsked) (bytes : List ℕ) (events : List Event) : Type 0 where
  pub kept : Option State
  pub before : Place → ℕ
  pub now : Place → ℕ
  pub asks : watching.ask words ≡ run asked
  pub compiled : asked.kind ≡ file.Program
  pub ran : IsRun (watching.ask words) Done kept before now events
  pub read : taken at.Program events ≡ bytes

-- the reports of output k have the times 0, 1, 2 and so on
abbrev pub CountUp : ℕ → List Report → Type 0
CountUp k told_so =
    map (λ report. report.time) (reports_of k told_so) ≡ range_with_len 0 (length (reports_of k told_so))

-- the reports of some parts, in turn
abbrev pub in_turn : List (List Report) → List Report
in_turn parts = flat_map (λ part. part) parts

-- The reports come in parts, one for each row, which are the same parts for all outputs. The first n parts report just the
-- words that are known of each output after the first n rows, and within a part no two neighbours among the reports of an
-- output have one word.
pub record AreLongestByRow (outs : List Output) (told_so : List Report) (rows : List Row) : Type 0 where
  pub parts : List (List Report)
  pub one_each : length parts ≡ length rows
  pub joined : in_turn parts ≡ told_so
  pub decided : (n k : ℕ) (o : Output) → n ≤ length rows → slice_get outs k ≡ Some o
      → told k 0 (in_turn (take n parts)) ≡ known.words (take n rows) o
  pub longest : (k : ℕ) → k < length outs → All (λ part. AreDistinctBeside (reports_of k part)) parts

-- two reports of one word of the first output, at times 0 and 1
abbrev pub told_one_by_one : Word → List Report
told_one_by_one w = record { out = 0; time = 0; word = w } ∷ record { out = 0; time = 1; word = w } ∷ []

-- the reports of these outputs are in a style: one for each time, or one for each longest stretch of the words that a
-- row decides
abbrev pub AreInStyle : Style → List Output → List Report → List Row → Type 0
AreInStyle Each outs told_so rows = (k : ℕ) → k < length outs → CountUp k told_so
AreInStyle Runs outs told_so rows = AreLongestByRow outs told_so rows

-- The output reports the formulas of a text over the columns that a program stores for its signals, after these rows. It is
-- the lines of reports, under the names of the text's outputs and of no others. Of each output they report each time once
-- and in order, in the requested style, with a word that is the meaning of its time whatever rows follow; and no time comes
-- later than the output's worst-case delay. The program, which may be in simplified form, has as many outputs, and they
-- decide which words a row brings.
pub record ReportsFormulas (style : Style) (text : List ℕ) (program : Program) (rows : List Row) (out : List ℕ)
    : Type 0 where
  pub told_so : List Report
  pub lines_are : out ≡ lines_of_reports (map (λ o. o.name) (outputs_in text)) told_so
  pub only : All (λ report. report.out < length (outputs_in text)) told_so
  pub one_each : length (outputs program) ≡ length (outputs_in text)
  pub styled : AreInStyle style (outputs program) told_so rows
  pub words : (k : ℕ) (o : Output) → slice_get (plain_outputs (stored_columns program) (outputs_in text)) k ≡ Some o
      → TellWords told_so k o rows

-- A run over a program file reports a text: its rows are clean, its lines report the text's formulas over all rows, and
-- before each read of the trace they reported them over the rows that were read. The signals are in the columns of the
-- trace's header; without one in the columns of the compilation: of its header, or of the order of declaration.
pub record ReportsText (text : List ℕ) (header : Option (List ℕ)) (asked : RunAsked) (bytes : List ℕ)
    (events : List Event) : Type 0 where
  pub program : Program
  pub runs : program_over file.Program bytes (lines_in events) ≡ Ok program
  pub placed : columns_by (signals_in text) (option_or (header_in (lines_in events)) header)
      ≡ Ok (stored_columns program)
  pub clean : (rows_over asked program true (trace_of events)).stop ≡ Clean
  pub whole : ReportsFormulas asked.style text program
      (rows_over asked program true (trace_of events)).rows (given at.Out events)
  pub prompt : (before after : List Event) (piece : List ℕ) → events ≡ before ++ Took at.Trace piece ∷ after
      → ReportsFormulas asked.style text program
      (rows_over asked program false (trace_of before)).rows (given at.Out before)
