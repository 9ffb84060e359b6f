-- What a file and a header give, from the answers of the calls that read them.

use Rattle.std.proofs.Common.{◌≡◌, ◌≢◌, ◌∙◌, ℕ, ◌==◌, if◌then◌else◌, Option, Some, None, Result, Ok, Err, List, IfOk, IfErr, refl, sym, ap, subst}
use Rattle.mltl_base.specs.declared.program.Columns.{Columns}
use Rattle.mltl_base.specs.declared.program.Program.{Program}
use Rattle.c2po_ast.specs.ItemShape.{ItemShape}
use Rattle.c2po_types.specs.Signals.{signals_of}
use Rattle.c2po_types.specs.Outputs.{outputs_of}
use Rattle.obs_binary.specs.declared.file_fault.FileFault.{FileFault}
use Rattle.obs_binary.specs.declared.file_fault.FileFault.TheVariants as file
use Rattle.obs_binary.specs.Faults.{ReturnsOpened, opened}
use Rattle.trace_columns.specs.Header.{bound_to}
use Rattle.c2po_compile.specs.declared.fault.CompileFault.{CompileFault}
use Rattle.c2po_compile.specs.declared.fault.CompileFault.TheVariants as compile
use Rattle.c2po_compile.specs.Refusals.{header_refusal, IsFirstRefusal}
use Rattle.c2po_compile.specs.Front.{items_in, refusal_in, first_refusal}
use Rattle.c2po_compile.specs.Limits.{limit_refusal}
use Rattle.c2po_compile.specs.Image.{over_columns, image}
use Rattle.c2po_compile.specs.Compiled.{columns_by}
use Rattle.c2po_compile.proofs.CompiledLaws.{header_answer, back_answers, back_refuses}
use Rattle.tool_words.specs.declared.file_kind.FileKind.{FileKind}
use Rattle.tool_words.specs.declared.file_kind.FileKind.TheVariants as kinds
use Rattle.r2u2_cli.specs.declared.program_file.Opened.{Opened}
use Rattle.r2u2_cli.specs.declared.program_file.Opened.TheVariants as made
use Rattle.tool_words.specs.declared.status.Status.{Status}
use Rattle.tool_words.specs.declared.status.Status.TheVariants.{Memory}
use Rattle.tool_words.specs.Files.{file_status}
use Rattle.tool_words.specs.Statuses.{compile_status, with_status}
use Rattle.r2u2_cli.specs.ProgramBy.{trace_status, refusal_of, file_refusal, header_status, bound_under, opened_under, program_by}
use Rattle.r2u2_cli.specs.Phases.{OpensFile}
use Rattle.std.specs.Prelude.{option_map}

-- a specification that is refused, or isn't
pub spec_refused : (text : List ℕ) (fault : CompileFault) → IsFirstRefusal (first_refusal text) fault → compile_status fault ≢ Memory → file_refusal kinds.Spec text ≡ Some (compile_status fault)
unfolding file_refusal
spec_refused text (compile.Refused line why) is some = ap (option_map compile_status) is
spec_refused text (compile.BadHeader why) is some = absurd is
spec_refused text compile.Memory is some = absurd (some refl)

pub spec_unrefused : (text : List ℕ) → first_refusal text ≡ None → file_refusal kinds.Spec text ≡ None
unfolding file_refusal
spec_unrefused text none = ap (option_map compile_status) none

-- a program file that is refused, or isn't
pub program_refused : (bytes : List ℕ) (fault : FileFault) → ReturnsOpened (Err fault) (opened bytes) → file_status fault ≢ Memory → file_refusal kinds.Program bytes ≡ Some (file_status fault)
unfolding file_refusal
program_refused bytes (file.Program fault) is some = ap refusal_of is
program_refused bytes file.Memory is some = absurd (some refl)

pub program_unrefused : (bytes : List ℕ) (program : Program) → opened bytes ≡ Ok program → file_refusal kinds.Program bytes ≡ None
unfolding file_refusal
program_unrefused bytes program is = ap refusal_of is

-- the header doesn't name the signals of a specification
pub header_refuses : (kind : FileKind) (text : List ℕ) (header : Option (List ℕ)) (items : List ItemShape) (fault : CompileFault) → kind ≡ kinds.Spec → first_refusal text ≡ None → items ≡ items_in text
    → (fault ≢ compile.Memory → refusal_in header_refusal (columns_by (signals_of items) header) ≡ Some fault) → trace_status fault ≢ Memory → program_by kind text header ≡ Err (trace_status fault)
unfolding program_by
header_refuses kind text header items fault is none same refused some =
    subst (λ s. program_by s text header ≡ Err (trace_status fault)) (sym is)
    (ap (with_status trace_status) (header_answer text header items fault none same (refused (λ memory. some (ap trace_status memory)))))

-- its program
pub spec_program : (kind : FileKind) (text : List ℕ) (header : Option (List ℕ)) (items : List ItemShape) (columns : Columns) (program : Program) → kind ≡ kinds.Spec → first_refusal text ≡ None → items ≡ items_in text
    → columns_by (signals_of items) header ≡ Ok columns → program ≡ image columns (signals_of items) (outputs_of items) → limit_refusal (over_columns columns (outputs_of items)) ≡ None → program_by kind text header ≡ Ok program
unfolding program_by
spec_program kind text header items columns program is none same found made within =
    subst (λ s. program_by s text header ≡ Ok program) (sym is)
    (ap (with_status trace_status) (back_answers text header items columns (Ok program) none same found made within))

-- the program that a compilation gave is that of each specification with these items
pub spec_programs : (found : Result Program CompileFault) (now : Result Program Status) (header : Option (List ℕ)) (items : List ItemShape) (columns : Columns) → now ≡ with_status trace_status found → columns_by (signals_of items) header ≡ Ok columns
    → IfOk found (λ program. program ≡ image columns (signals_of items) (outputs_of items)) → IfOk found (λ _. limit_refusal (over_columns columns (outputs_of items)) ≡ None)
    → IfOk now (λ program. (kind : FileKind) (text : List ℕ) → (kind ≡ kinds.Spec) × (first_refusal text ≡ None) × (items ≡ items_in text) → program_by kind text header ≡ Ok program)
spec_programs found now header items columns same named made within = subst (λ r. IfOk r Runs) (sym same) (by_case found made within)
  where
    Runs : Program → Type 0
    Runs program = (kind : FileKind) (text : List ℕ) → (kind ≡ kinds.Spec) × (first_refusal text ≡ None) × (items ≡ items_in text) → program_by kind text header ≡ Ok program

    by_case : (found : Result Program CompileFault) → IfOk found (λ program. program ≡ image columns (signals_of items) (outputs_of items)) → IfOk found (λ _. limit_refusal (over_columns columns (outputs_of items)) ≡ None) → IfOk (with_status trace_status found) Runs
    by_case (Ok program) made within = λ kind text opens. spec_program kind text header items columns program opens.0 opens.1 opens.2 named made within
    by_case (Err fault) made within = tt

-- the limits that refuse it
pub limit_refuses : (kind : FileKind) (text : List ℕ) (header : Option (List ℕ)) (items : List ItemShape) (columns : Columns) (fault : CompileFault) → kind ≡ kinds.Spec → first_refusal text ≡ None → items ≡ items_in text
    → columns_by (signals_of items) header ≡ Ok columns → IsFirstRefusal (limit_refusal (over_columns columns (outputs_of items))) fault → trace_status fault ≢ Memory → program_by kind text header ≡ Err (trace_status fault)
unfolding program_by
limit_refuses kind text header items columns fault is none same found refused some =
    subst (λ s. program_by s text header ≡ Err (trace_status fault)) (sym is)
    (ap (with_status trace_status) (back_refuses text header items columns (Err fault) none same found refused (λ memory. some (ap trace_status memory))))

-- a program file under a header
pub file_program : (kind : FileKind) (bytes : List ℕ) (header : Option (List ℕ)) (program : Program) (found : Result Program Status) → kind ≡ kinds.Program → opened bytes ≡ Ok program → bound_under header program ≡ found → program_by kind bytes header ≡ found
unfolding program_by
file_program kind bytes header program found is spells same =
    subst (λ s. program_by s bytes header ≡ found) (sym is) (ap (opened_under header) spells ∙ same)

-- a program of version 2 under a header
pub under_line : (line : List ℕ) (program : Program) → program.version ≡ 2 → bound_under (Some line) program ≡ with_status header_status (bound_to program line)
under_line line program two =
    ap (λ (n : ℕ). if n == 2 then with_status header_status (bound_to program line) else Ok program) two

-- what was opened isn't refused by itself
pub opens_unrefused : (made : Opened) (kind : FileKind) (bytes : List ℕ) → OpensFile made kind bytes → file_refusal kind bytes ≡ None
opens_unrefused (made.Spec spec) kind bytes is = subst (λ s. file_refusal s bytes ≡ None) (sym is.0) (spec_unrefused bytes is.1)
opens_unrefused (made.Program checked) kind bytes is = subst (λ s. file_refusal s bytes ≡ None) (sym is.0) (program_unrefused bytes checked is.1)

-- a program file that was opened, under a header
pub file_programs : (result : Result Program Status) (header : Option (List ℕ)) (program : Program) (opened_so : Opened) → opened_so ≡ made.Program program → IfOk result (λ bound. bound_under header program ≡ Ok bound)
    → IfOk result (λ bound. (kind : FileKind) (bytes : List ℕ) → OpensFile opened_so kind bytes → program_by kind bytes header ≡ Ok bound)
file_programs (Ok now) header program opened_so is found = λ kind bytes opens.
    let spells = subst (λ o. OpensFile o kind bytes) is opens in
    file_program kind bytes header program (Ok now) spells.0 spells.1 found
file_programs (Err answer) header program opened_so is found = tt

pub file_refusals : (result : Result Program Status) (header : Option (List ℕ)) (program : Program) (opened_so : Opened) → opened_so ≡ made.Program program → IfErr result (λ answer. answer ≢ Memory → bound_under header program ≡ Err answer)
    → IfErr result (λ answer. answer ≢ Memory → (kind : FileKind) (bytes : List ℕ) → OpensFile opened_so kind bytes → program_by kind bytes header ≡ Err answer)
file_refusals (Ok now) header program opened_so is refused = tt
file_refusals (Err answer) header program opened_so is refused = λ some kind bytes opens.
    let spells = subst (λ o. OpensFile o kind bytes) is opens in
    file_program kind bytes header program (Err answer) spells.0 spells.1 (refused some)
