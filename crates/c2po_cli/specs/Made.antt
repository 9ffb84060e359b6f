-- The bytes that are made of a file, or the first refusal.

use Rattle.std.specs.Prelude.{ℕ, Bool, true, false, Option, Some, None, option_map, Result, Ok, Err, List, [], ◌∷◌}
use Rattle.mltl_base.specs.declared.interval.Part.TheVariants.{Bz}
use Rattle.mltl_base.specs.declared.program.Columns.{Columns}
use Rattle.mltl_base.specs.declared.program.Program.{Program}
use Rattle.mltl_base.specs.declared.signal.Signal.{Signal}
use Rattle.mltl_base.specs.Subformulas.{Asked}
use Rattle.tool_io.specs.declared.host.Place.TheVariants.{Header, Out}
use Rattle.tool_io.specs.Cutting.{line_text}
use Rattle.obs_binary.specs.Layout.{spelling}
use Rattle.obs_verify.specs.Upgrade.{up, clash_of}
use Rattle.obs_binary.specs.declared.file_fault.FileFault.{FileFault}
use Rattle.obs_binary.specs.declared.file_fault.ProgramFault.TheVariants.{Operand}
use Rattle.obs_binary.specs.Faults.{opened}
use Rattle.obs_show.specs.declared.fault.ShowFault.{ShowFault}
use Rattle.obs_show.specs.declared.fault.ShowFault.TheVariants as show_fault
use Rattle.obs_show.specs.Limits.{show_fault as limit_of_text}
use Rattle.obs_show.specs.Text.{text as text_of}
use Rattle.obs_show.specs.Table.{table}
use Rattle.c2po_compile.specs.declared.fault.CompileFault.{CompileFault}
use Rattle.c2po_compile.specs.declared.fault.Refusal.TheVariants.{Wide}
use Rattle.c2po_compile.specs.Front.{first_refusal}
use Rattle.c2po_compile.specs.Compiled.{compile_text}
use Rattle.c2po_compile.specs.Refusals.{unless_refused}
use Rattle.c2po_compile.specs.Image.{image}
use Rattle.c2po_compile.specs.Simplified.{simplify_over, compile_simplified}
use Rattle.tool_words.specs.declared.status.Status.{Status}
use Rattle.tool_words.specs.declared.status.Status.TheVariants.{Refused, BadProgram, TextTooLong, Memory}
use Rattle.tool_words.specs.Files.{file_status}
use Rattle.tool_words.specs.FirstLine.{begins_long}
use Rattle.tool_words.specs.Statuses.{compile_status}
use Rattle.c2po_cli.specs.declared.make.Form.{Form}
use Rattle.c2po_cli.specs.declared.make.Product.{Product}
use Rattle.c2po_cli.specs.declared.make.Product.TheVariants.{Compiled, Upgrade, Show}
use Rattle.c2po_cli.specs.Asking.{MakeAsked}

-- the output for a compiled program: its table, or its bytes
abbrev pub written_as : Bool → Program → List ℕ
written_as true program = table program
written_as false program = spelling program

-- the output for a specification, or the status of a run that doesn't compile it
abbrev pub compiled_bytes : Bool → Result Program CompileFault → Result (List ℕ) Status
compiled_bytes tabled (Ok program) = Ok (written_as tabled program)
compiled_bytes tabled (Err fault) = Err (compile_status fault)

-- the image over columns, plain or in simplified form
abbrev pub compile_as : Bool → Columns → List Signal → List Asked → Program
compile_as false columns signals outs = image columns signals outs
compile_as true columns signals outs = simplify_over columns signals outs

-- the program of a text and a header line, plain or in simplified form
abbrev pub asked_program : Bool → List ℕ → Option (List ℕ) → Result Program CompileFault
asked_program false text header = compile_text text header
asked_program true text header = compile_simplified text header

-- the output for a text and a header line
abbrev pub text_bytes : Form → List ℕ → Option (List ℕ) → Result (List ℕ) Status
text_bytes form text header = compiled_bytes form.table (asked_program form.simplify text header)

-- a function that makes bytes of a program, or refuses it
abbrev pub Making : Type 0
Making = Program → Result (List ℕ) Status

-- the output for a program in version 2, unless one column is read in both ways: then the instruction that shows it
abbrev pub raised_as : Making → Program → Option ℕ → Result (List ℕ) Status
raised_as gives program None = gives (up program)
raised_as gives program (Some i) = Err (BadProgram (Operand Bz i))

-- the output for the program of a file in version 2, unless the file is refused before it
abbrev pub opened_as : Making → Result Program FileFault → Result (List ℕ) Status
opened_as gives (Ok program) = raised_as gives program (clash_of program)
opened_as gives (Err fault) = Err (file_status fault)

-- the bytes of a program
abbrev pub made_bytes : Making
made_bytes program = Ok (spelling program)

-- the status of a run whose program has no text
abbrev pub show_status : ShowFault → Status
show_status show_fault.TooLong = TextTooLong Out
show_status show_fault.Wide = Refused 0 Wide
show_status show_fault.Memory = Memory

-- the text of a program, or the status of the limit that it is past
abbrev pub unless_past : Option ShowFault → List ℕ → Result (List ℕ) Status
unless_past None text = Ok text
unless_past (Some fault) text = Err (show_status fault)

-- the text of a program, unless the text is too long, or else its outputs weigh too much
abbrev pub text_within : Making
text_within program = unless_past (limit_of_text program) (text_of program)

-- the first line of a header file, or an empty line if the file has none
abbrev pub first_line : List (List ℕ) → List ℕ
first_line [] = []
first_line (raw ∷ raws) = line_text raw

-- the bytes that were made, unless the first line is too long
abbrev pub unless_long : Bool → Result (List ℕ) Status → Result (List ℕ) Status
unless_long true made = Err (TextTooLong Header)
unless_long false made = made

-- The output for a text. Without a header it is over the columns in order of declaration; with a header it is over the
-- columns that its first line names, and the text is refused first, then a line that is too long, then the header, then a
-- limit.
abbrev pub made_of_text : Form → Option (List ℕ) → List ℕ → List (List ℕ) → Result (List ℕ) Status
made_of_text form None text lines = text_bytes form text None
made_of_text form (Some name) text lines =
    unless_refused (option_map compile_status (first_refusal text))
    (unless_long (begins_long lines) (text_bytes form text (Some (first_line lines))))

-- the output for a file, with the lines of the header file that were read
abbrev pub made_as : Product → Option (List ℕ) → List ℕ → List (List ℕ) → Result (List ℕ) Status
made_as (Compiled form) header file lines = made_of_text form header file lines
made_as Upgrade header file lines = opened_as made_bytes (opened file)
made_as Show header file lines = opened_as text_within (opened file)

-- the bytes that are made of a file and the lines of its header file, or the status of the refusal
unfoldable pub made : MakeAsked → List ℕ → List (List ℕ) → Result (List ℕ) Status
made asked file lines = made_as asked.product asked.header file lines
