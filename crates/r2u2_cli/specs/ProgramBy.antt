-- The program that runs over the lines of a trace, or its refusal: a specification compiled over the header of the trace, or
-- a program file whose stored signals are in the columns of that header.

use Rattle.std.specs.Prelude.{ℕ, ◌==◌, Bool, true, false, if◌then◌else◌, Option, Some, None, option_map, Result, Ok}
use Rattle.std.specs.Prelude.{Err, List, [], ◌∷◌}
use Rattle.mltl_base.specs.declared.program.Program.{Program}
use Rattle.tool_io.specs.Cutting.{line_text}
use Rattle.obs_binary.specs.declared.file_fault.FileFault.{FileFault}
use Rattle.obs_binary.specs.Faults.{opened}
use Rattle.trace_columns.specs.declared.header_fault.HeaderFault.{HeaderFault}
use Rattle.trace_columns.specs.Header.{begins_header, bound_to}
use Rattle.trace_feed.specs.declared.trace_why.TraceWhy.TheVariants as trace
use Rattle.c2po_compile.specs.declared.fault.CompileFault.{CompileFault}
use Rattle.c2po_compile.specs.declared.fault.CompileFault.TheVariants as compile_fault
use Rattle.c2po_compile.specs.declared.fault.HeaderWhy.TheVariants as why
use Rattle.c2po_compile.specs.Front.{first_refusal}
use Rattle.c2po_compile.specs.Compiled.{compile_text}
use Rattle.c2po_compile.specs.Refusals.{header_refusal, unless_refused}
use Rattle.tool_words.specs.declared.file_kind.FileKind.{FileKind}
use Rattle.tool_words.specs.declared.file_kind.FileKind.TheVariants as kinds
use Rattle.tool_words.specs.declared.status.Status.{Status}
use Rattle.tool_words.specs.declared.status.Status.TheVariants.{BadTrace}
use Rattle.tool_words.specs.Files.{file_status}
use Rattle.tool_words.specs.FirstLine.{begins_long}
use Rattle.tool_words.specs.Statuses.{compile_status, with_status}

-- The status of a run whose specification isn't compiled under the header of its trace. A name that the header lacks,
-- or has twice, is a fault of the first line.
abbrev pub trace_status : CompileFault → Status
trace_status (compile_fault.BadHeader (why.Missing name)) = BadTrace 1 (trace.Missing name)
trace_status (compile_fault.BadHeader (why.Twice name)) = BadTrace 1 (trace.Twice name)
trace_status fault = compile_status fault

-- the status of a run whose header doesn't name the program's signals
abbrev pub header_status : HeaderFault → Status
header_status fault = trace_status (header_refusal fault)

-- the status of a fault, if there is one
abbrev pub refusal_of : Result Program FileFault → Option Status
refusal_of (Ok program) = None
refusal_of (Err fault) = Some (file_status fault)

-- the status by which a file is refused by itself, if it is
unfoldable pub file_refusal : FileKind → List ℕ → Option Status
file_refusal kinds.Spec file = option_map compile_status (first_refusal file)
file_refusal kinds.Program file = refusal_of (opened file)

-- a program under the header of a trace, if it has one; version 1 stores no names, so its columns stay
abbrev pub bound_under : Option (List ℕ) → Program → Result Program Status
bound_under None program = Ok program
bound_under (Some line) program =
    if program.version == 2 then with_status header_status (bound_to program line) else Ok program

-- the program that was opened from a file, under the header of a trace
abbrev pub opened_under : Option (List ℕ) → Result Program FileFault → Result Program Status
opened_under header (Ok program) = bound_under header program
opened_under header (Err fault) = Err (file_status fault)

-- the program of a file under the header of a trace, or the first refusal
unfoldable pub program_by : FileKind → List ℕ → Option (List ℕ) → Result Program Status
program_by kinds.Spec file header = with_status trace_status (compile_text file header)
program_by kinds.Program file header = opened_under header (opened file)

-- the header of a trace: its first line, if it begins with `#`
abbrev pub header_in : List (List ℕ) → Option (List ℕ)
header_in [] = None
header_in (raw ∷ raws) = if begins_header (line_text raw) then Some (line_text raw) else None

-- the program, unless the first line is too long
abbrev pub unless_long : Bool → Result Program Status → Result Program Status
unless_long true found = Err (BadTrace 1 trace.LongLine)
unless_long false found = found

-- The program that runs over the lines of a trace, or the first refusal: the file by itself, then a first line that is too
-- long, then the header, then the limits of a program.
unfoldable pub program_over : FileKind → List ℕ → List (List ℕ) → Result Program Status
program_over kind file lines =
    unless_refused (file_refusal kind file) (unless_long (begins_long lines) (program_by kind file (header_in lines)))
