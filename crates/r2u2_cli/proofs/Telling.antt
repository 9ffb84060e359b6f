-- What the lines of a run tell of the formulas of its file.

use Rattle.std.proofs.Common.{◌≡◌, ℕ, Bool, true, false, Option, Result, Ok, Err, List, refl, ap}
use Rattle.mltl_base.specs.declared.program.Columns.{Columns}
use Rattle.mltl_base.specs.declared.program.Program.{Program}
use Rattle.mltl_base.specs.declared.report.Style.{Style}
use Rattle.mltl_base.specs.declared.signal.Signal.{Signal}
use Rattle.mltl_base.specs.Atoms.{Row}
use Rattle.mltl_base.specs.Subformulas.{Asked}
use Rattle.trace_columns.specs.declared.header_fault.HeaderFault.{HeaderFault}
use Rattle.tool_words.specs.declared.file_kind.FileKind.{FileKind}
use Rattle.tool_words.specs.declared.file_kind.FileKind.TheVariants as kinds
use Rattle.tool_words.specs.R2u2Words.{RunAsked}
use Rattle.c2po_compile.specs.declared.fault.CompileFault.{CompileFault}
use Rattle.c2po_compile.specs.Front.{first_refusal}
use Rattle.c2po_compile.specs.Compiled.{columns_by, signals_in, outputs_in, compile_under_header, compile_text}
use Rattle.c2po_compile.proofs.TellingLaws.{not_refused, text_reports, text_names}
use Rattle.tool_words.specs.declared.status.Status.{Status}
use Rattle.tool_words.specs.FirstLine.{begins_long}
use Rattle.tool_words.specs.Statuses.{with_status}
use Rattle.r2u2_cli.specs.ProgramBy.{trace_status, file_refusal, program_by, header_in, unless_long, program_over}
use Rattle.r2u2_cli.specs.Formulas.{TellsSource, TellsFile, IsSettledBy}
use Rattle.r2u2_cli.proofs.ImageFiles.{program_told, tells_text}

-- a program that was found was found without its statuses, and in spite of a long line
status_found : (found : Result Program CompileFault) (program : Program) → with_status trace_status found ≡ Ok program → found ≡ Ok program
status_found (Ok other) program is = let same : other ≡ program = cc in ap Ok same
status_found (Err fault) program is = absurd (cc)

long_found : (long : Bool) (found : Result Program Status) (program : Program) → unless_long long found ≡ Ok program → found ≡ Ok program
long_found false found program is = is
long_found true found program is = absurd (cc)

pub over_found : (kind : FileKind) (bytes : List ℕ) (raws : List (List ℕ)) (program : Program) → program_over kind bytes raws ≡ Ok program → program_by kind bytes (header_in raws) ≡ Ok program
unfolding program_over
over_found kind bytes raws program is =
    long_found (begins_long raws) (program_by kind bytes (header_in raws)) program
    (not_refused (file_refusal kind bytes) (unless_long (begins_long raws) (program_by kind bytes (header_in raws))) program is).1

-- a text has a program only where its signals have columns
columns_under : (signals : List Signal) (outs : List Asked) (found : Result Columns HeaderFault) (program : Program) → compile_under_header signals outs found ≡ Ok program → (columns : Columns) × (found ≡ Ok columns)
columns_under signals outs (Ok columns) program is = (columns, refl)
columns_under signals outs (Err fault) program is = absurd (cc)

columns_found : (bytes : List ℕ) (header : Option (List ℕ)) (program : Program) → compile_text bytes header ≡ Ok program → (columns : Columns) × (columns_by (signals_in bytes) header ≡ Ok columns)
unfolding compile_text
columns_found bytes header program is =
    columns_under (signals_in bytes) (outputs_in bytes) (columns_by (signals_in bytes) header) program
    (not_refused (first_refusal bytes) (compile_under_header (signals_in bytes) (outputs_in bytes) (columns_by (signals_in bytes) header)) program is).1

tells_source : (style : Style) (bytes : List ℕ) (header : Option (List ℕ)) (program : Program) (rows : List Row) → compile_text bytes header ≡ Ok program → TellsSource style bytes header program rows
tells_source style bytes header program rows is =
    let found = columns_found bytes header program is in
    (found.0, found.1, tells_text style bytes found.0 program rows (text_names bytes header found.0 program is found.1) (text_reports style bytes header found.0 program rows is found.1))

tells_file : (kind : FileKind) (style : Style) (bytes : List ℕ) (header : Option (List ℕ)) (program : Program) (rows : List Row) → program_by kind bytes header ≡ Ok program → TellsFile kind style bytes header program rows
unfolding program_by
tells_file kinds.Spec style bytes header program rows is = tells_source style bytes header program rows (status_found (compile_text bytes header) program is)
tells_file kinds.Program style bytes header program rows is = program_told style bytes header program rows is

pub settled_by : (asked : RunAsked) (bytes : List ℕ) (raws : List (List ℕ)) (ended : Bool) (trace : List ℕ) → IsSettledBy asked bytes (header_in raws) (program_over asked.kind bytes raws) ended trace
settled_by asked bytes raws ended trace program is rows more split = tells_file asked.kind asked.style bytes (header_in raws) program rows (over_found asked.kind bytes raws program is)
