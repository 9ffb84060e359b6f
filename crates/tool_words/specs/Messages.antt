-- The messages of both programs, in bytes.

use Rattle.std.specs.Prelude.{ℕ, ◌+◌, List, [], ◌++◌, codes, decimal}
use Rattle.tool_io.specs.declared.host.Place as place
use Rattle.tool_words.specs.declared.message.Tool as tool
use Rattle.tool_words.specs.declared.status.Status as status
use Rattle.obs_binary.specs.declared.file_fault.FileFault.TheVariants.{Program}
use Rattle.obs_binary.specs.Texts.{file_fault_text}
use Rattle.c2po_compile.specs.declared.fault.CompileFault as compile
use Rattle.c2po_compile.specs.FaultTexts.{compile_fault_text}
use Rattle.c2po_compile.specs.HeaderTexts.{missing_text, twice_text}
use Rattle.trace_feed.specs.declared.trace_why.TraceWhy as trace

-- the name of a program
abbrev pub tool_name : tool.Tool → List ℕ
tool_name tool.TheVariants.C2po = codes "c2po"
tool_name tool.TheVariants.R2u2 = codes "r2u2"

-- the arguments that a program takes
abbrev pub usage : tool.Tool → List ℕ
usage tool.TheVariants.C2po =
    codes "usage: c2po [--header FILE] [-o FILE] [--table] [--simplify] SPEC"
    ++ codes " | c2po --upgrade [-o FILE] PROGRAM | c2po --show [-o FILE] PROGRAM\n"
usage tool.TheVariants.R2u2 =
    codes "usage: r2u2 [--source] [--runs] [--timed] [--mission-time N] FILE [TRACE] | r2u2 --demo SEED,ROWS\n"

-- the message of a fault of a line of a trace; a column counts from 1 here
abbrev pub trace_text : trace.TraceWhy → List ℕ
trace_text trace.TheVariants.Width = codes "too few fields"
trace_text (trace.TheVariants.NotWhole column) = codes "not a whole number in column " ++ decimal (column + 1)
trace_text (trace.TheVariants.OutOfRange column) = codes "out of range in column " ++ decimal (column + 1)
trace_text trace.TheVariants.LongLine = codes "line too long"
trace_text (trace.TheVariants.Missing name) = missing_text name
trace_text (trace.TheVariants.Twice name) = twice_text name
trace_text trace.TheVariants.Stamp = codes "bad time stamp"
trace_text trace.TheVariants.Order = codes "times not rising"

-- the name of a place
abbrev pub place_name : place.Place → List ℕ
place_name place.TheVariants.Spec = codes "specification"
place_name place.TheVariants.Header = codes "header"
place_name place.TheVariants.Program = codes "program"
place_name place.TheVariants.Trace = codes "trace"
place_name place.TheVariants.Out = codes "output"
place_name place.TheVariants.Err = codes "error output"

-- the text of a status after the program's name
abbrev pub status_text : status.Status → List ℕ
status_text status.TheVariants.Done = []
status_text status.TheVariants.Helped = []
status_text status.TheVariants.Usage = []
status_text (status.TheVariants.Refused n why) = compile_fault_text (compile.TheVariants.Refused n why)
status_text (status.TheVariants.BadProgram fault) = file_fault_text (Program fault)
status_text (status.TheVariants.BadHeader why) = compile_fault_text (compile.TheVariants.BadHeader why)
status_text (status.TheVariants.BadTrace n why) = codes "trace line " ++ decimal n ++ codes ": " ++ trace_text why
status_text status.TheVariants.TooLong = codes "trace longer than the mission time"
status_text (status.TheVariants.TextTooLong p) = place_name p ++ codes " too long"
status_text (status.TheVariants.OpenFault p) = codes "cannot open " ++ place_name p
status_text (status.TheVariants.ReadFault p) = codes "cannot read " ++ place_name p
status_text (status.TheVariants.WriteFault p) = codes "cannot write " ++ place_name p
status_text status.TheVariants.Memory = compile_fault_text compile.TheVariants.Memory

-- the line with the program's name and the text of a status
abbrev pub message_line : tool.Tool → status.Status → List ℕ
message_line t s = tool_name t ++ codes ": " ++ status_text s ++ codes "\n"

-- the message of a status: nothing for success, the usage line for help and for invalid arguments
abbrev pub message : tool.Tool → status.Status → List ℕ
message t status.TheVariants.Done = []
message t status.TheVariants.Helped = usage t
message t status.TheVariants.Usage = usage t
message t s = message_line t s

-- the text for the user on the error output: the message, or nothing after help
abbrev pub told_to_user : tool.Tool → status.Status → List ℕ
told_to_user t status.TheVariants.Helped = []
told_to_user t s = message t s
