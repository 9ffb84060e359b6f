-- Runs of program files that are images of specifications.

use Rattle.std.proofs.Common.{◌≡◌, ◌∙◌, ℕ, Bool, true, false, if◌then◌else◌, Option, Some, None, Result, Ok, Err, List, length, map, slice_get, refl, sym, ap, subst}
use Rattle.std.proofs.lemmas.List.{length-map}
use Rattle.mltl_base.specs.declared.program.Columns.{Columns}
use Rattle.mltl_base.specs.declared.program.Program.{Program}
use Rattle.mltl_base.specs.declared.report.Style.{Style}
use Rattle.mltl_base.specs.declared.signal.Signal.{Signal}
use Rattle.mltl_base.specs.Atoms.{Row}
use Rattle.mltl_base.specs.Lines.{lines_of_reports}
use Rattle.mltl_base.specs.Programs.{outputs, output_names}
use Rattle.mltl_base.specs.Reports.{Output, reports}
use Rattle.mltl_base.specs.Subformulas.{Asked}
use Rattle.mltl_base.proofs.Telling.{told_words, reports_rise}
use Rattle.mltl_base.proofs.Words.{word_settled, word_known}
use Rattle.obs_binary.specs.Layout.{IsEncodable, spelling}
use Rattle.obs_verify.specs.Bound.{bound}
use Rattle.obs_verify.specs.WellFormed.{IsWellFormed}
use Rattle.obs_binary.specs.declared.file_fault.FileFault.{FileFault}
use Rattle.obs_binary.specs.Faults.{opened}
use Rattle.obs_binary.proofs.Spelled.{opened_spelled}
use Rattle.trace_columns.specs.declared.header_fault.HeaderFault.{HeaderFault}
use Rattle.trace_columns.specs.declared.header_fault.HeaderFault.TheVariants.{NoHeader}
use Rattle.trace_columns.specs.Header.{begins_header, bound_over, columns_of, header_meaning, names_of, of_width}
use Rattle.trace_columns.proofs.ColumnLaws.{width_found}
use Rattle.c2po_compile.specs.Image.{image, plain_outputs}
use Rattle.c2po_compile.specs.ImageFiles.{IsFirstImageFile, IsImageFile, compile_first_version, compile_over, compile_and_move, stored_columns}
use Rattle.c2po_compile.specs.Simplified.{IsSimpleImageFile, TellsSettled, compile_simplified_over, smaller_outputs}
use Rattle.c2po_compile.specs.Compiled.{outputs_in, signals_in}
use Rattle.c2po_compile.proofs.MovedImages.{bound_stored, image_called, image_reports, layout_of, moved_called, moved_reports, stored_names, stored_places}
use Rattle.c2po_compile.proofs.SimpleTelling.{moved_simple_called, moved_told, simple_image_called, simple_image_told}
use Rattle.tool_words.specs.declared.file_kind.FileKind.TheVariants as kinds
use Rattle.tool_words.specs.Statuses.{with_status}
use Rattle.r2u2_cli.specs.ProgramBy.{bound_under, header_status, opened_under, program_by}
use Rattle.r2u2_cli.specs.Settled.{AreSettled, TellsText}
use Rattle.r2u2_cli.specs.Formulas.{TellsImage, TellsProgram, TellsSimple, columns_under}
use Rattle.r2u2_cli.proofs.OpenLaws.{under_line}

-- the reports of any outputs are settled after any rows
pub are_settled : (style : Style) (outs : List Output) (rows : List Row) → AreSettled style outs rows
are_settled style outs rows = record {
  each_once = λ k o is. told_words style k outs rows o is;
  in_order = λ k o is. reports_rise style k outs rows o is;
  settled = λ o t w is. word_settled rows o t w is;
  in_time = λ o t early. word_known rows o t early;
}

-- a program tells a text whose names and reports it has
pub tells_text : (style : Style) (text : List ℕ) (columns : Columns) (program : Program) (rows : List Row) → output_names program ≡ map (λ (o : Asked). o.name) (outputs_in text)
    → reports style (outputs program) rows ≡ reports style (plain_outputs columns (outputs_in text)) rows → TellsText style text columns program rows
tells_text style text columns program rows called told = record {
  lines_are = ap (λ names. lines_of_reports names (reports style (outputs program) rows)) called ∙ ap (lines_of_reports (map (λ (o : Asked). o.name) (outputs_in text))) told;
  settled = are_settled style (plain_outputs columns (outputs_in text)) rows;
}

-- ---- what was opened

-- what runs was opened, and bound to the header
record IsOpenedBy (file : List ℕ) (header : Option (List ℕ)) (program : Program) : Type 0 where
  from : Program
  opens : opened file ≡ Ok from
  binds : bound_under header from ≡ Ok program

opened_found : (file : List ℕ) (header : Option (List ℕ)) (program : Program) (found : Result Program FileFault) → opened file ≡ found → opened_under header found ≡ Ok program → IsOpenedBy file header program
opened_found file header program (Ok from) opens binds = record { from = from; opens = opens; binds = binds }
opened_found file header program (Err fault) opens binds = absurd (cc)

opened_by : (file : List ℕ) (header : Option (List ℕ)) (program : Program) → program_by kinds.Program file header ≡ Ok program → IsOpenedBy file header program
unfolding program_by
opened_by file header program is = opened_found file header program (opened file) refl is

-- the program that bytes spell is well-formed where it runs, and bound to the header
spelled_bound : (p program : Program) (file : List ℕ) (header : Option (List ℕ)) → IsEncodable p → file ≡ spelling p → program_by kinds.Program file header ≡ Ok program → IsWellFormed p × (bound_under header p ≡ Ok program)
spelled_bound p program file header fits spells is =
    let by = opened_by file header program is in
    let found = opened_spelled p by.from file fits spells by.opens in
    (found.0, ap (bound_under header) found.1 ∙ by.binds)

-- ---- where the signals stand

-- an image stores its signals in their columns, under their names
module _ (signals : List Signal) (outs : List Asked) (own : Columns) (one_each : length own.of_signal ≡ length signals) where
  image_stores : stored_columns (image own signals outs) ≡ own
  unfolding image
  image_stores = ap (λ columns. record { width = own.width; of_signal = columns }) (stored_places signals own.of_signal one_each)

  image_named : map (λ s. s.name) (image own signals outs).signals ≡ map (λ s. s.name) signals
  unfolding image
  image_named = stored_names signals own.of_signal one_each

  moved_stores : (new : Columns) → length new.of_signal ≡ length signals → stored_columns (bound (image own signals outs) new.width new.of_signal) ≡ new
  unfolding image
  moved_stores new so_many =
      ap (λ columns. record { width = new.width; of_signal = columns })
      (ap (map (λ s. s.column)) (bound_stored signals own.of_signal new.of_signal one_each so_many) ∙ stored_places signals new.of_signal so_many)

image_second : (signals : List Signal) (outs : List Asked) (own : Columns) → (image own signals outs).version ≡ 2
unfolding image
image_second signals outs own = refl

-- a header gives each name a column
header_sized : (begins : Bool) (names signals : List (List ℕ)) (columns : Columns) → (if begins then of_width (length names) (columns_of names signals) else Err NoHeader) ≡ Ok columns → length columns.of_signal ≡ length signals
header_sized true names signals columns is = (width_found names signals (length names) columns is).size
header_sized false names signals columns is = absurd (cc)

columns_sized : (signals : List Signal) (line : List ℕ) (columns : Columns) → header_meaning (map (λ s. s.name) signals) line ≡ Ok columns → length columns.of_signal ≡ length signals
columns_sized signals line columns is =
    header_sized (begins_header line) (names_of line) (map (λ s. s.name) signals) columns is ∙ length-map signals (λ (s : Signal). s.name)

-- ---- what is told

-- a program over the columns of a header
record IsBound (p program : Program) (found : Result Columns HeaderFault) : Type 0 where
  new : Columns
  is : found ≡ Ok new
  moved : bound p new.width new.of_signal ≡ program

bound_so : (p program : Program) (found : Result Columns HeaderFault) → with_status header_status (bound_over p found) ≡ Ok program → IsBound p program found
bound_so p program (Ok new) is = record { new = new; is = refl; moved = (let same : bound p new.width new.of_signal ≡ program = cc in same) }
bound_so p program (Err fault) is = absurd (cc)

-- An image runs as it is, or with its signals moved to the columns of a header. What it tells of its columns each time, the
-- program that runs tells of those that it stores.
module _ (signals : List Signal) (outs : List Asked) (own : Columns) (one_each : length own.of_signal ≡ length signals) (Tells : Columns → Program → Type 0)
    (own_told : Tells own (image own signals outs)) (new_told : (new : Columns) → length new.of_signal ≡ length signals → Tells new (bound (image own signals outs) new.width new.of_signal)) where
  abbrev p : Program
  p = image own signals outs

  abbrev RunsOver : Option (List ℕ) → Program → Type 0
  RunsOver header program = (columns_under own signals header ≡ Ok (stored_columns program)) × Tells (stored_columns program) program

  placed_so : (header : Option (List ℕ)) (new : Columns) (program : Program) → columns_under own signals header ≡ Ok new → stored_columns program ≡ new → Tells new program → RunsOver header program
  placed_so header new program found stores told = (found ∙ ap Ok (sym stores), subst (λ columns. Tells columns program) (sym stores) told)

  moves : (line : List ℕ) (new : Columns) (program : Program) → header_meaning (map (λ s. s.name) signals) line ≡ Ok new → bound p new.width new.of_signal ≡ program → RunsOver (Some line) program
  moves line new program found same =
      let so_many = columns_sized signals line new found in
      subst (RunsOver (Some line)) same
      (placed_so (Some line) new (bound p new.width new.of_signal) found (moved_stores signals outs own one_each new so_many) (new_told new so_many))

  pub image_runs : (header : Option (List ℕ)) (program : Program) → bound_under header p ≡ Ok program → RunsOver header program
  image_runs None program binds =
      let same : p ≡ program = cc in
      subst (RunsOver None) same (placed_so None own p refl (image_stores signals outs own one_each) own_told)
  image_runs (Some line) program binds =
      let at = bound_so p program (header_meaning (map (λ s. s.name) p.signals) line) (sym (under_line line p (image_second signals outs own)) ∙ binds) in
      moves line at.new program (ap (λ names. header_meaning names line) (sym (image_named signals outs own one_each)) ∙ at.is) at.moved

module _ (style : Style) (text : List ℕ) (own : Columns) (rows : List Row) where
  -- the names and the reports of a text's outputs
  abbrev ReportsSo : Columns → Program → Type 0
  ReportsSo columns p = (output_names p ≡ map (λ (o : Asked). o.name) (outputs_in text)) × (reports style (outputs p) rows ≡ reports style (plain_outputs columns (outputs_in text)) rows)

  image_over : (file : List ℕ) (header : Option (List ℕ)) (program : Program) → program_by kinds.Program file header ≡ Ok program → IsImageFile text own file
      → (columns_under own (signals_in text) header ≡ Ok (stored_columns program)) × ReportsSo (stored_columns program) program
  image_over file header program runs is =
      let found = spelled_bound (compile_over text own) program file header is.fits is.bytes runs in
      image_runs (signals_in text) (outputs_in text) own is.serve.one_each ReportsSo
      (image_called text own, image_reports style text own rows is.faultless)
      (λ new so_many. (
        moved_called text own new,
        moved_reports style text own new rows
            (record { faultless = is.faultless; serve = is.serve; layout = layout_of (compile_over text own) is.fits.layout; well_formed = found.0; one_each = so_many }),
      ))
      header program found.1

  pub image_reported : (file : List ℕ) (header : Option (List ℕ)) (program : Program) → program_by kinds.Program file header ≡ Ok program → IsImageFile text own file → ReportsSo (stored_columns program) program
  image_reported file header program runs is = (image_over file header program runs is).1

  pub image_told : (file : List ℕ) (header : Option (List ℕ)) (program : Program) → program_by kinds.Program file header ≡ Ok program → IsImageFile text own file → TellsImage style text own header program rows
  image_told file header program runs is =
      let over = image_over file header program runs is in
      record { placed = over.0; told = tells_text style text (stored_columns program) program rows over.1.0 over.1.1 }

  -- the names of a text's outputs, and words that are settled for them
  abbrev TellsSo : Columns → Program → Type 0
  TellsSo columns p = (output_names p ≡ map (λ (o : Asked). o.name) (outputs_in text)) × ((k : ℕ) (o : Output) → slice_get (plain_outputs columns (outputs_in text)) k ≡ Some o → TellsSettled style p k o rows)

  pub simple_told : (file : List ℕ) (header : Option (List ℕ)) (program : Program) → program_by kinds.Program file header ≡ Ok program → IsSimpleImageFile text own file → TellsSimple style text own header program rows
  simple_told file header program runs is =
      let found = spelled_bound (compile_simplified_over text own) program file header is.fits is.bytes runs in
      let over = image_runs (signals_in text) (smaller_outputs own (outputs_in text)) own is.serve.one_each TellsSo
      (simple_image_called text own, λ k o at. simple_image_told style text own rows k o is.faultless at)
      (λ new so_many. (
        moved_simple_called text own new,
        λ k o at. moved_told style text own new rows k o
            (record { faultless = is.faultless; serve = is.serve; layout = layout_of (compile_simplified_over text own) is.fits.layout; well_formed = found.0; one_each = so_many }) at,
      ))
      header program found.1 in
      record { placed = over.0; names = over.1.0; told = over.1.1 }

  -- a program of version 1 stays as it is
  first_stays : (header : Option (List ℕ)) → bound_under header (compile_first_version text own) ≡ Ok (compile_first_version text own)
  first_stays None = refl
  first_stays (Some line) = refl

  pub first_told : (file : List ℕ) (header : Option (List ℕ)) (program : Program) → program_by kinds.Program file header ≡ Ok program → IsFirstImageFile text own file → TellsText style text own program rows
  first_told file header program runs is =
      let found = spelled_bound (compile_first_version text own) program file header is.fits is.bytes runs in
      let same : compile_first_version text own ≡ program = (let both = sym (first_stays header) ∙ found.1 in cc) in
      subst (λ p. TellsText style text own p rows) same
      (tells_text style text own (compile_first_version text own) rows (image_called text own) (image_reports style text own rows is.faultless))

-- a program file tells what it unfolds to, and the text whose image it is
pub program_told : (style : Style) (file : List ℕ) (header : Option (List ℕ)) (program : Program) (rows : List Row) → program_by kinds.Program file header ≡ Ok program → TellsProgram style file header program rows
program_told style file header program rows runs = record {
  unfolded = record { lines_are = refl; settled = are_settled style (outputs program) rows };
  image = λ text own is. image_told style text own rows file header program runs is;
  simple_image = λ text own is. simple_told style text own rows file header program runs is;
  first_image = λ text own is. first_told style text own rows file header program runs is;
}
