-- The status of a run by the fault that ends it.

use Rattle.std.specs.Prelude.{Result, Ok, Err}
use Rattle.c2po_compile.specs.declared.fault.CompileFault.{CompileFault}
use Rattle.c2po_compile.specs.declared.fault.CompileFault.TheVariants as compile_fault
use Rattle.tool_words.specs.declared.status.Status.{Status}
use Rattle.tool_words.specs.declared.status.Status.TheVariants.{Refused, BadHeader, Memory}

-- the status of a run whose specification isn't compiled
abbrev pub compile_status : CompileFault → Status
compile_status (compile_fault.Refused line refusal) = Refused line refusal
compile_status (compile_fault.BadHeader why) = BadHeader why
compile_status compile_fault.Memory = Memory

-- the result, with the status of its fault
abbrev pub with_status : {T E : Type 0} → (E → Status) → Result T E → Result T Status
with_status status (Ok value) = Ok value
with_status status (Err fault) = Err (status fault)
