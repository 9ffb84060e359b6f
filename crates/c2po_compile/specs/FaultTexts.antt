-- Faults of compilation in words.

use Rattle.std.specs.Prelude.{ℕ, ◌==◌, if◌then◌else◌, List, [], ◌++◌, codes, decimal}
use Rattle.trace_columns.specs.declared.header_fault.HeaderFault as header
use Rattle.trace_columns.specs.HeaderTexts.{header_fault_text}
use Rattle.c2po_compile.specs.declared.fault.CompileFault as fault
use Rattle.c2po_compile.specs.declared.fault.HeaderWhy as why
use Rattle.c2po_compile.specs.declared.fault.Refusal as refusal

-- the text of a refusal
abbrev pub refusal_text : refusal.Refusal → List ℕ
refusal_text refusal.TheVariants.Letter = codes "bad character"
refusal_text refusal.TheVariants.LongWord = codes "word too long"
refusal_text refusal.TheVariants.Number = codes "number too large"
refusal_text refusal.TheVariants.TooManyTokens = codes "item too long"
refusal_text refusal.TheVariants.Grammar = codes "syntax"
refusal_text refusal.TheVariants.Unknown = codes "unknown name"
refusal_text refusal.TheVariants.Twice = codes "name declared twice"
refusal_text refusal.TheVariants.Kind = codes "wrong kind"
refusal_text refusal.TheVariants.Count = codes "wrong number of arguments"
refusal_text refusal.TheVariants.Field = codes "unknown field"
refusal_text refusal.TheVariants.Bounds = codes "bad interval"
refusal_text refusal.TheVariants.Signals = codes "too many signals"
refusal_text refusal.TheVariants.Wide = codes "expansion too large"
refusal_text refusal.TheVariants.Divisor = codes "bad divisor"
refusal_text refusal.TheVariants.Range = codes "number range"
refusal_text refusal.TheVariants.Tense = codes "mixed tense"
refusal_text refusal.TheVariants.TooManyNodes = codes "too many nodes"
refusal_text refusal.TheVariants.TooLate = codes "delay too large"
refusal_text refusal.TheVariants.TooManySlots = codes "too many slots"

-- the text of a line of a specification; line 0 has no text
abbrev pub spec_line_text : ℕ → List ℕ
spec_line_text n = if n == 0 then [] else codes "line " ++ decimal n ++ codes ": "

-- the fault of the header reader for a fault of a header line
abbrev pub header_fault_of : why.HeaderWhy → header.HeaderFault
header_fault_of why.TheVariants.NoHeader = header.TheVariants.NoHeader
header_fault_of (why.TheVariants.Missing name) = header.TheVariants.Missing name
header_fault_of (why.TheVariants.Twice name) = header.TheVariants.Twice name

-- the text of a fault of compilation
abbrev pub compile_fault_text : fault.CompileFault → List ℕ
compile_fault_text (fault.TheVariants.Refused line why) = spec_line_text line ++ refusal_text why
compile_fault_text (fault.TheVariants.BadHeader why) = codes "header: " ++ header_fault_text (header_fault_of why)
compile_fault_text fault.TheVariants.Memory = codes "out of memory"
