-- The first fault of a program file: the fault of its bytes, else the fault of the program that they spell.

use Rattle.std.specs.Prelude.{ℕ, ◌≡◌, List, Option, Some, None, Result, Ok, Err, ⊤}
use Rattle.mltl_base.specs.declared.program.Program.{Program}
use Rattle.obs_binary.specs.declared.fault.ReadFault.{ReadFault}
use Rattle.obs_binary.specs.declared.fault.ReadFault.TheVariants as read
use Rattle.obs_binary.specs.Reading.{program_at}
use Rattle.obs_verify.specs.declared.fault.VerifyFault.{VerifyFault}
use Rattle.obs_verify.specs.declared.fault.VerifyFault.TheVariants as verify
use Rattle.obs_verify.specs.WellFormed.{first_fault}
use Rattle.obs_binary.specs.declared.file_fault.ProgramFault.TheVariants as program
use Rattle.obs_binary.specs.declared.file_fault.FileFault.{FileFault}
use Rattle.obs_binary.specs.declared.file_fault.FileFault.TheVariants as file

-- a fault of reading as a fault of the file
abbrev pub of_reading : ReadFault → FileFault
of_reading read.Short = file.Program program.Short
of_reading read.Magic = file.Program program.Magic
of_reading read.Version = file.Program program.Version
of_reading (read.Reserved offset) = file.Program (program.Reserved offset)
of_reading (read.Opcode offset) = file.Program (program.Opcode offset)
of_reading read.Trailing = file.Program program.Trailing
of_reading (read.NameBytes k) = file.Program (program.NameBytes k)
of_reading (read.SignalBytes k) = file.Program (program.SignalBytes k)
of_reading read.Memory = file.Memory

-- a fault of verifying as a fault of the file
abbrev pub of_verifying : VerifyFault → FileFault
of_verifying verify.Width = file.Program program.Width
of_verifying (verify.Signal k) = file.Program (program.Signal k)
of_verifying (verify.Operand part i) = file.Program (program.Operand part i)
of_verifying (verify.Interval part i) = file.Program (program.Interval part i)
of_verifying (verify.Divisor i) = file.Program (program.Divisor i)
of_verifying (verify.Range i) = file.Program (program.Range i)
of_verifying (verify.TooLate i) = file.Program (program.TooLate i)
of_verifying (verify.Output k) = file.Program (program.Output k)
of_verifying (verify.Size part i) = file.Program (program.Size part i)
of_verifying verify.TooManySlots = file.Program program.TooManySlots
of_verifying verify.Memory = file.Memory

-- the program, unless it has a fault
abbrev pub unless_found : Program → Option VerifyFault → Result Program FileFault
unless_found program None = Ok program
unless_found program (Some fault) = Err (of_verifying fault)

-- a program that is read, or its first fault if it isn't well-formed
abbrev pub verified : Result Program ReadFault → Result Program FileFault
verified (Ok program) = unless_found program (first_fault program)
verified (Err fault) = Err (of_reading fault)

-- the well-formed program that these bytes spell, or their first fault
abbrev pub opened : List ℕ → Result Program FileFault
opened bytes = verified (program_at bytes)

-- a call returns the program or the fault, unless out of memory
abbrev pub ReturnsOpened : Result Program FileFault → Result Program FileFault → Type 0
ReturnsOpened (Ok program) found = found ≡ Ok program
ReturnsOpened (Err file.Memory) found = ⊤
ReturnsOpened (Err (file.Program fault)) found = found ≡ Err (file.Program fault)
