-- Faults of program files, as text.

use Rattle.std.specs.Prelude.{ℕ, List, ◌++◌, codes}
use Rattle.obs_verify.specs.declared.fault.VerifyFault.TheVariants as verify
use Rattle.obs_verify.specs.FaultTexts.{with_number, verify_fault_text}
use Rattle.obs_binary.specs.declared.file_fault.FileFault as file
use Rattle.obs_binary.specs.declared.file_fault.ProgramFault as fault

-- the text of a program file's fault; faults of the verifier have its text
abbrev pub fault_text : fault.ProgramFault → List ℕ
fault_text fault.TheVariants.Short = codes "short"
fault_text fault.TheVariants.Magic = codes "magic"
fault_text fault.TheVariants.Version = codes "version"
fault_text (fault.TheVariants.Reserved at) = with_number (codes "reserved") at
fault_text (fault.TheVariants.Opcode at) = with_number (codes "opcode") at
fault_text fault.TheVariants.Trailing = codes "trailing"
fault_text (fault.TheVariants.NameBytes k) = with_number (codes "namebytes") k
fault_text (fault.TheVariants.SignalBytes k) = with_number (codes "signalbytes") k
fault_text fault.TheVariants.Width = verify_fault_text verify.Width
fault_text (fault.TheVariants.Signal k) = verify_fault_text (verify.Signal k)
fault_text (fault.TheVariants.Operand p i) = verify_fault_text (verify.Operand p i)
fault_text (fault.TheVariants.Interval p i) = verify_fault_text (verify.Interval p i)
fault_text (fault.TheVariants.Divisor i) = verify_fault_text (verify.Divisor i)
fault_text (fault.TheVariants.Range i) = verify_fault_text (verify.Range i)
fault_text (fault.TheVariants.TooLate i) = verify_fault_text (verify.TooLate i)
fault_text (fault.TheVariants.Output k) = verify_fault_text (verify.Output k)
fault_text (fault.TheVariants.Size p i) = verify_fault_text (verify.Size p i)
fault_text fault.TheVariants.TooManySlots = verify_fault_text verify.TooManySlots

-- the text of the reason why bytes give no checked program
abbrev pub file_fault_text : file.FileFault → List ℕ
file_fault_text (file.TheVariants.Program why) = codes "program: " ++ fault_text why
file_fault_text file.TheVariants.Memory = codes "out of memory"
