-- What was compiled and then watched tells its text.

use Rattle.std.proofs.Common.{◌≡◌, ◌∙◌, ℕ, ◌<◌, Bool, true, false, Option, Some, None, Result, Ok, Err, List, [], All, length, map, slice_get, refl, sym, ap, subst}
use Rattle.std.specs.Option.{option_or}
use Rattle.std.proofs.lemmas.List.{length-map}
use Rattle.mltl_base.specs.declared.program.Columns.{Columns}
use Rattle.mltl_base.specs.declared.program.Program.{Program}
use Rattle.mltl_base.specs.declared.report.Report.{Report}
use Rattle.mltl_base.specs.declared.signal.Signal.{Signal}
use Rattle.mltl_base.specs.Atoms.{Row}
use Rattle.mltl_base.specs.Lines.{lines, lines_of_reports}
use Rattle.mltl_base.specs.Programs.{output_names, outputs}
use Rattle.mltl_base.specs.Reports.{reports}
use Rattle.mltl_base.specs.Subformulas.{Asked}
use Rattle.tool_io.specs.declared.host.Place as place
use Rattle.tool_io.specs.Log.{Event, given, taken}
use Rattle.tool_words.specs.declared.file_kind.FileKind.{FileKind}
use Rattle.tool_words.specs.declared.file_kind.FileKind.TheVariants as file
use Rattle.tool_words.specs.C2poWords as compiling
use Rattle.tool_words.specs.R2u2Words.{RunAsked}
use Rattle.tool_words.specs.declared.status.Status.{Status}
use Rattle.tool_words.specs.declared.status.Status.TheVariants.{Done}
use Rattle.tool_words.specs.Files.{file_place}
use Rattle.r2u2_watch.specs.Trace.{Clean}
use Rattle.c2po_compile.specs.Compiled.{columns_by, outputs_in, signals_in}
use Rattle.c2po_compile.specs.Image.{over_columns, plain_outputs}
use Rattle.c2po_compile.specs.ImageFiles.{stored_columns}
use Rattle.c2po_ast.specs.Outputs.{asked_over}
use Rattle.c2po_cli.specs.Asking.{ask, compile_asked, make, served}
use Rattle.c2po_cli.specs.Images.{IsFileBy, IsFileUnder, asked_header}
use Rattle.c2po_cli.specs.Run.{IsMade}
use Rattle.r2u2_cli.specs.Formulas.{TellsProgram, columns_under}
use Rattle.r2u2_cli.specs.Outcome.{StopsBy, due_by, rows_over}
use Rattle.r2u2_cli.specs.ProgramBy.{header_in, program_by, program_over}
use Rattle.r2u2_cli.specs.Taken.{lines_in, trace_ended, trace_of}
use Rattle.r2u2_cli.specs.Run.{IsRun}
use Rattle.r2u2_cli.proofs.ImageFiles.{image_reported, program_told}
use Rattle.r2u2_cli.proofs.Telling.{over_found}
use Rattle.mltl_tools.specs.Sentence.{AreInStyle, HasCompiled, HasWatched, ReportsFormulas, ReportsText, lines_at}
use Rattle.mltl_tools.proofs.Outputs.{reports_below}
use Rattle.mltl_tools.proofs.Styles.{in_style}

-- ---- the compilation

asks_made : (words : List (List ℕ)) (asked : compiling.CompileAsked) → compiling.ask words ≡ compiling.compile asked → ask words ≡ make (compile_asked asked)
unfolding ask
asks_made words asked is = ap served is

-- its bytes are a file of the text's image
compiled_file : (words : List (List ℕ)) (text : List ℕ) (header : Option (List ℕ)) (bytes : List ℕ) (events : List Event) → (h : HasCompiled words text header bytes events) → IsFileUnder h.asked.simplify text header bytes
compiled_file words text header bytes events h =
    let made = subst (λ asked. IsMade asked Done h.before h.now events) (asks_made words h.asked h.asks) h.made in
    subst (λ b. IsFileUnder h.asked.simplify text header b) h.wrote
    (subst (λ l. IsFileUnder h.asked.simplify text l (given place.TheVariants.Out events)) h.under
    (subst (λ t. IsFileUnder h.asked.simplify t (asked_header h.asked.header (lines_at place.TheVariants.Header events)) (given place.TheVariants.Out events)) h.read
    (made.image refl h.no_table)))

-- ---- what a program of such a file tells

names_count : (columns : Columns) (outs : List Asked) → length (plain_outputs columns outs) ≡ length outs
names_count columns outs = length-map (over_columns columns outs) (λ (a : Asked). a.output) ∙ length-map outs (asked_over columns.of_signal)

placed_by : (own columns : Columns) (signals : List Signal) (header own_header : Option (List ℕ)) → columns_by signals own_header ≡ Ok own → columns_under own signals header ≡ Ok columns
    → columns_by signals (option_or header own_header) ≡ Ok columns
placed_by own columns signals None own_header found is = found ∙ is
placed_by own columns signals (Some line) own_header found is = is

module _ (asked : RunAsked) (text bytes : List ℕ) (own_header header : Option (List ℕ)) (program : Program) (runs : program_by file.Program bytes header ≡ Ok program) where
  -- the columns are found, and the lines after any rows tell the formulas
  record TellsAfter : Type 0 where
    placed : columns_by (signals_in text) (option_or header own_header) ≡ Ok (stored_columns program)
    told : (rows : List Row) (out : List ℕ) → out ≡ lines asked.style (output_names program) (outputs program) rows → ReportsFormulas asked.style text program rows out

  tells : (rows : List Row) → TellsProgram asked.style bytes header program rows
  tells rows = program_told asked.style bytes header program rows runs

  counted : output_names program ≡ map (λ (o : Asked). o.name) (outputs_in text) → length (outputs program) ≡ length (outputs_in text)
  counted same = length-map program.outs _ ∙ sym (length-map program.outs _) ∙ ap length same ∙ length-map (outputs_in text) (λ (o : Asked). o.name)

  plain_told : (own : Columns) → columns_by (signals_in text) own_header ≡ Ok own → IsFileBy false text own bytes → TellsAfter
  plain_told own found is = record {
    placed = placed_by own (stored_columns program) (signals_in text) header own_header found ((tells []).image text own is).placed;
    told = λ rows out due.
        let says = ((tells rows).image text own is).told in
        let reported = image_reported asked.style text own rows bytes header program runs is in
        let columns = stored_columns program in
        record {
          told_so = reports asked.style (plain_outputs columns (outputs_in text)) rows;
          lines_are = due ∙ says.lines_are;
          only = subst (λ n. All (λ (r : Report). r.out < n) (reports asked.style (plain_outputs columns (outputs_in text)) rows)) (names_count columns (outputs_in text)) (reports_below asked.style (plain_outputs columns (outputs_in text)) rows);
          one_each = counted reported.0;
          styled = subst (λ told_so. AreInStyle asked.style (outputs program) told_so rows) reported.1 (in_style asked.style (outputs program) rows);
          words = λ k o at. record {
            in_order = says.settled.in_order k o at;
            settled = λ t w has. says.settled.settled o t w (ap (λ ws. slice_get ws t) (sym (says.settled.each_once k o at)) ∙ has);
            in_time = λ t long. ap (λ ws. slice_get ws t) (says.settled.each_once k o at) ∙ says.settled.in_time o t long;
          };
        };
  }

  simple_told : (own : Columns) → columns_by (signals_in text) own_header ≡ Ok own → IsFileBy true text own bytes → TellsAfter
  simple_told own found is = record {
    placed = placed_by own (stored_columns program) (signals_in text) header own_header found ((tells []).simple_image text own is).placed;
    told = λ rows out due.
        let says = (tells rows).simple_image text own is in
        record {
          told_so = reports asked.style (outputs program) rows;
          lines_are = due ∙ ap (λ names. lines_of_reports names (reports asked.style (outputs program) rows)) says.names;
          only = subst (λ n. All (λ (r : Report). r.out < n) (reports asked.style (outputs program) rows)) (counted says.names) (reports_below asked.style (outputs program) rows);
          one_each = counted says.names;
          styled = in_style asked.style (outputs program) rows;
          words = says.told;
        };
  }

  either_told : (simplify : Bool) (own : Columns) → columns_by (signals_in text) own_header ≡ Ok own → IsFileBy simplify text own bytes → TellsAfter
  either_told false own found is = plain_told own found is
  either_told true own found is = simple_told own found is

-- ---- the run over it

record HasProgram (asked : RunAsked) (found : Result Program Status) (ended : Bool) (trace : List ℕ) : Type 0 where
  program : Program
  is : found ≡ Ok program
  clean : (rows_over asked program ended trace).stop ≡ Clean

stops_clean : (asked : RunAsked) (found : Result Program Status) (ended : Bool) (trace : List ℕ) → StopsBy Clean asked found ended trace → HasProgram asked found ended trace
stops_clean asked (Ok program) ended trace is = record { program = program; is = refl; clean = is }
stops_clean asked (Err answer) ended trace is = absurd is

found_so : (kind : FileKind) (events : List Event) (bytes : List ℕ) (raws : List (List ℕ)) → kind ≡ file.Program → taken place.TheVariants.Program events ≡ bytes
    → program_over kind (taken (file_place kind) events) raws ≡ program_over file.Program bytes raws
found_so kind events bytes raws is same = ap (λ k. program_over k (taken (file_place k) events) raws) is ∙ ap (λ b. program_over file.Program b raws) same

pub watched_told : (compiling watching : List (List ℕ)) (text bytes : List ℕ) (header : Option (List ℕ)) (asked : RunAsked) (made ran : List Event) → HasCompiled compiling text header bytes made → HasWatched watching asked bytes ran → ReportsText text header asked bytes ran
watched_told compiling watching text bytes header asked made ran compiled watched =
    let file_is = compiled_file compiling text header bytes made compiled in
    let is = subst (λ a. IsRun a Done watched.kept watched.before watched.now ran) watched.asks watched.ran in
    let done = is.outcome.lines in
    let has = stops_clean asked (program_over asked.kind (taken (file_place asked.kind) ran) (lines_in ran)) (trace_ended ran) (trace_of ran) done.1 in
    let runs = sym (found_so asked.kind ran bytes (lines_in ran) watched.compiled watched.read) ∙ has.is in
    let tells = either_told asked text bytes header (header_in (lines_in ran)) has.program (over_found file.Program bytes (lines_in ran) has.program runs) compiled.asked.simplify file_is.columns file_is.found file_is.is_image in
    record {
      program = has.program;
      runs = runs;
      placed = tells.placed;
      clean = subst (λ ended. (rows_over asked has.program ended (trace_of ran)).stop ≡ Clean) done.0 has.clean;
      whole = tells.told (rows_over asked has.program true (trace_of ran)).rows (given place.TheVariants.Out ran)
          (done.2.out_is ∙ ap (λ found. due_by asked found (trace_ended ran) (trace_of ran)) has.is ∙ ap (λ ended. due_by asked (Ok has.program) ended (trace_of ran)) done.0);
      prompt = λ before after piece split. tells.told (rows_over asked has.program false (trace_of before)).rows (given place.TheVariants.Out before)
          (is.prompt before after piece split ∙ ap (λ found. due_by asked found false (trace_of before)) has.is);
    }
