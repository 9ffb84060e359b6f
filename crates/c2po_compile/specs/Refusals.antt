-- Refusals of a specification, and results that report them.

use Rattle.std.specs.Prelude.{◌≡◌, Option, None, Some, Result, Err, ⊤}
use Rattle.c2po_lexer.specs.declared.fault.LexFault.{LexFault}
use Rattle.c2po_lexer.specs.declared.fault.LexFault.TheVariants as lexed
use Rattle.c2po_parse.specs.declared.fault.ParseFault.{ParseFault}
use Rattle.c2po_parse.specs.declared.fault.ParseFault.TheVariants as parsed
use Rattle.c2po_types.specs.declared.fault.TypeFault.{TypeFault}
use Rattle.c2po_types.specs.declared.fault.TypeFault.TheVariants as checked
use Rattle.c2po_compile.specs.declared.build_fault.BuildFault.{BuildFault}
use Rattle.c2po_compile.specs.declared.build_fault.BuildFault.TheVariants as built
use Rattle.trace_columns.specs.declared.header_fault.HeaderFault.{HeaderFault}
use Rattle.trace_columns.specs.declared.header_fault.HeaderFault.TheVariants as header
use Rattle.c2po_compile.specs.declared.fault.HeaderWhy.TheVariants as why
use Rattle.c2po_compile.specs.declared.fault.Refusal.TheVariants.{Letter, LongWord, Number, TooManyTokens, Grammar}
use Rattle.c2po_compile.specs.declared.fault.Refusal.TheVariants.{Unknown, Twice, Kind, Count, Field, Bounds, Signals}
use Rattle.c2po_compile.specs.declared.fault.Refusal.TheVariants.{Wide, Divisor, Range, Tense, TooManyNodes, TooLate}
use Rattle.c2po_compile.specs.declared.fault.Refusal.TheVariants.{TooManySlots}
use Rattle.c2po_compile.specs.declared.fault.CompileFault.{CompileFault}
use Rattle.c2po_compile.specs.declared.fault.CompileFault.TheVariants.{Refused, BadHeader, Memory}

-- the refusal for each fault of tokens
abbrev pub token_refusal : LexFault → CompileFault
token_refusal (lexed.Letter line) = Refused line Letter
token_refusal (lexed.LongWord line) = Refused line LongWord
token_refusal (lexed.Number line) = Refused line Number
token_refusal lexed.Memory = Memory

-- the refusal for each fault of trees
abbrev pub tree_refusal : ParseFault → CompileFault
tree_refusal (parsed.TooManyTokens line) = Refused line TooManyTokens
tree_refusal (parsed.Grammar line) = Refused line Grammar
tree_refusal parsed.Memory = Memory

-- the refusal for each fault of names, kinds, weights, ranges and tenses
abbrev pub check_refusal : TypeFault → CompileFault
check_refusal (checked.Unknown line) = Refused line Unknown
check_refusal (checked.Twice line) = Refused line Twice
check_refusal (checked.Kind line) = Refused line Kind
check_refusal (checked.Count line) = Refused line Count
check_refusal (checked.Field line) = Refused line Field
check_refusal (checked.Bounds line) = Refused line Bounds
check_refusal (checked.Signals line) = Refused line Signals
check_refusal (checked.Wide line) = Refused line Wide
check_refusal (checked.Divisor line) = Refused line Divisor
check_refusal (checked.Range line) = Refused line Range
check_refusal (checked.Tense line) = Refused line Tense
check_refusal checked.Memory = Memory

-- the refusal for each limit; line 0 stands for the whole specification
abbrev pub build_refusal : BuildFault → CompileFault
build_refusal built.TooManyNodes = Refused 0 TooManyNodes
build_refusal built.TooLate = Refused 0 TooLate
build_refusal built.TooManySlots = Refused 0 TooManySlots
build_refusal built.Memory = Memory

-- the refusal for each fault of a header
abbrev pub header_refusal : HeaderFault → CompileFault
header_refusal header.NoHeader = BadHeader why.NoHeader
header_refusal (header.Missing name) = BadHeader (why.Missing name)
header_refusal (header.Twice name) = BadHeader (why.Twice name)
header_refusal header.Memory = Memory

-- the result, unless there is an earlier refusal
abbrev pub unless_refused : {T F : Type 0} → Option F → Result T F → Result T F
unless_refused None found = found
unless_refused (Some refusal) found = Err refusal

-- the fault is the first refusal, which never concerns a header, or is out of memory
abbrev pub IsFirstRefusal : Option CompileFault → CompileFault → Type 0
IsFirstRefusal first (Refused line why) = first ≡ Some (Refused line why)
IsFirstRefusal first (BadHeader why) = ⊥
IsFirstRefusal first Memory = ⊤
