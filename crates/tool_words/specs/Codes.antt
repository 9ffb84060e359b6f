-- The exit code of each status.

use Rattle.std.specs.Prelude.{ℕ}
use Rattle.tool_words.specs.declared.status.Status.{Status}
use Rattle.tool_words.specs.declared.status.Status.TheVariants.{Done, Helped, Usage, Refused, BadProgram, BadHeader}
use Rattle.tool_words.specs.declared.status.Status.TheVariants.{BadTrace, TooLong, TextTooLong, OpenFault, ReadFault}
use Rattle.tool_words.specs.declared.status.Status.TheVariants.{WriteFault, Memory}

-- the exit code: 0 for success, 1 for the arguments, 2 for a specification, 3 for a program file, 4 for a header or a trace,
-- 5 for a text or a trace past its limit, 6 for opening and reading, 7 for writing, 8 for memory
abbrev pub code_of : Status → ℕ
code_of Done = 0
code_of Helped = 0
code_of Usage = 1
code_of (Refused line why) = 2
code_of (BadProgram fault) = 3
code_of (BadHeader why) = 4
code_of (BadTrace line why) = 4
code_of TooLong = 5
code_of (TextTooLong place) = 5
code_of (OpenFault place) = 6
code_of (ReadFault place) = 6
code_of (WriteFault place) = 7
code_of Memory = 8
