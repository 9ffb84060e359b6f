-- Faults of programs, in words.

use Rattle.std.specs.Prelude.{ℕ, List, ◌++◌, codes, decimal}
use Rattle.mltl_base.specs.declared.interval.Part as part
use Rattle.obs_verify.specs.declared.fault.VerifyFault as fault

-- the name of a part of a program
abbrev pub part_name : part.Part → List ℕ
part_name part.TheVariants.Bz = codes "bz"
part_name part.TheVariants.Ft = codes "ft"
part_name part.TheVariants.Pt = codes "pt"

-- a fault's name and its number
abbrev pub with_number : List ℕ → ℕ → List ℕ
with_number name n = name ++ codes " " ++ decimal n

-- a fault's name, its part and its number
abbrev pub parted : List ℕ → part.Part → ℕ → List ℕ
parted name p n = name ++ codes " " ++ part_name p ++ codes " " ++ decimal n

-- the text of a program's fault
abbrev pub verify_fault_text : fault.VerifyFault → List ℕ
verify_fault_text fault.TheVariants.Width = codes "width"
verify_fault_text (fault.TheVariants.Signal k) = with_number (codes "signal") k
verify_fault_text (fault.TheVariants.Operand p i) = parted (codes "operand") p i
verify_fault_text (fault.TheVariants.Interval p i) = parted (codes "interval") p i
verify_fault_text (fault.TheVariants.Divisor i) = with_number (codes "divisor") i
verify_fault_text (fault.TheVariants.Range i) = with_number (codes "range") i
verify_fault_text (fault.TheVariants.TooLate i) = with_number (codes "toolate") i
verify_fault_text (fault.TheVariants.Output k) = with_number (codes "output") k
verify_fault_text (fault.TheVariants.Size p i) = parted (codes "size") p i
verify_fault_text fault.TheVariants.TooManySlots = codes "toomanyslots"
verify_fault_text fault.TheVariants.Memory = codes "out of memory"
