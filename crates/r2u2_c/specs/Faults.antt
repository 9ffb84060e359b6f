-- The fault of an opening as C reads it: its kind, its place and its text.

use Rattle.std.specs.Prelude.{ℕ, List, ◌++◌, codes, drop, length, replicate}
use Rattle.mltl_base.specs.declared.interval.Part as part
use Rattle.obs_binary.specs.declared.file_fault.ProgramFault as fault
use Rattle.obs_binary.specs.Texts.{fault_text}
use Rattle.trace_columns.specs.declared.header_fault.HeaderFault.TheVariants as header
use Rattle.trace_columns.specs.HeaderTexts.{header_fault_text}
use Rattle.r2u2_c.specs.declared.fault.Fault.{Fault}
use Rattle.r2u2_c.specs.declared.opened.OpeningFault.{OpeningFault}
use Rattle.r2u2_c.specs.declared.opened.OpeningFault.TheVariants.{Program, NoSignals, LongHeader}
use Rattle.r2u2_c.specs.declared.opened.OpeningFault.TheVariants.{NoHeader, Missing, Twice, Memory}

-- the message of a fault
abbrev pub opening_text : OpeningFault → List ℕ
opening_text (Program f) = fault_text f
opening_text NoSignals = codes "no signals"
opening_text LongHeader = codes "line too long"
opening_text NoHeader = header_fault_text header.NoHeader
opening_text (Missing name) = header_fault_text (header.Missing name)
opening_text (Twice name) = header_fault_text (header.Twice name)
opening_text Memory = header_fault_text header.Memory

-- each kind of fault of a program has a distinct number
abbrev pub fault_kind : fault.ProgramFault → ℕ
fault_kind fault.TheVariants.Short = 1
fault_kind fault.TheVariants.Magic = 2
fault_kind fault.TheVariants.Version = 3
fault_kind (fault.TheVariants.Reserved at) = 4
fault_kind (fault.TheVariants.Opcode at) = 5
fault_kind fault.TheVariants.Trailing = 6
fault_kind (fault.TheVariants.NameBytes k) = 7
fault_kind (fault.TheVariants.SignalBytes k) = 8
fault_kind fault.TheVariants.Width = 9
fault_kind (fault.TheVariants.Signal k) = 10
fault_kind (fault.TheVariants.Operand p i) = 11
fault_kind (fault.TheVariants.Interval p i) = 12
fault_kind (fault.TheVariants.Divisor i) = 13
fault_kind (fault.TheVariants.Range i) = 14
fault_kind (fault.TheVariants.TooLate i) = 15
fault_kind (fault.TheVariants.Output k) = 16
fault_kind (fault.TheVariants.Size p i) = 17
fault_kind fault.TheVariants.TooManySlots = 18

-- each other fault of an opening has a distinct number
abbrev pub opening_kind : OpeningFault → ℕ
opening_kind (Program f) = fault_kind f
opening_kind NoSignals = 19
opening_kind LongHeader = 20
opening_kind NoHeader = 21
opening_kind (Missing name) = 22
opening_kind (Twice name) = 23
opening_kind Memory = 0

-- the number of a part
abbrev pub part_number : part.Part → ℕ
part_number part.TheVariants.Bz = 1
part_number part.TheVariants.Ft = 2
part_number part.TheVariants.Pt = 3

-- the part of the program with the fault, or 0 if the fault is in no part
abbrev pub fault_part : fault.ProgramFault → ℕ
fault_part (fault.TheVariants.Operand p i) = part_number p
fault_part (fault.TheVariants.Interval p i) = part_number p
fault_part (fault.TheVariants.Size p i) = part_number p
fault_part f = 0

-- the part with the fault of an opening, or 0 if the fault is in no part
abbrev pub part_of : OpeningFault → ℕ
part_of (Program f) = fault_part f
part_of why = 0

-- the byte, the instruction, the output or the signal with the fault, or 0 if the fault has no place
abbrev pub fault_place : fault.ProgramFault → ℕ
fault_place (fault.TheVariants.Reserved at) = at
fault_place (fault.TheVariants.Opcode at) = at
fault_place (fault.TheVariants.NameBytes k) = k
fault_place (fault.TheVariants.SignalBytes k) = k
fault_place (fault.TheVariants.Signal k) = k
fault_place (fault.TheVariants.Operand p i) = i
fault_place (fault.TheVariants.Interval p i) = i
fault_place (fault.TheVariants.Divisor i) = i
fault_place (fault.TheVariants.Range i) = i
fault_place (fault.TheVariants.TooLate i) = i
fault_place (fault.TheVariants.Output k) = k
fault_place (fault.TheVariants.Size p i) = i
fault_place f = 0

-- the place of the fault of an opening, or 0 if it has none
abbrev pub opening_place : OpeningFault → ℕ
opening_place (Program f) = fault_place f
opening_place why = 0

-- a text at the start of 96 bytes, with zeros after it
abbrev pub padded : List ℕ → List ℕ
padded text = text ++ drop (length text) (replicate 96 0)

-- the fault of an opening as C reads it
abbrev pub opening_fault : OpeningFault → Fault
opening_fault why = record {
  kind = opening_kind why;
  part = part_of why;
  place = opening_place why;
  text = padded (opening_text why);
}
