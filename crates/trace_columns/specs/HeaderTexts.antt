-- Faults of headers, as text.

use Rattle.std.specs.Prelude.{ℕ, List, ◌++◌, codes}
use Rattle.trace_columns.specs.declared.header_fault.HeaderFault as fault

-- the text for a name that no column has
abbrev pub missing_text : List ℕ → List ℕ
missing_text name = codes "name " ++ name ++ codes " missing"

-- the text for a name that more than one column has
abbrev pub twice_text : List ℕ → List ℕ
twice_text name = codes "name " ++ name ++ codes " twice"

-- the text of a header's fault
abbrev pub header_fault_text : fault.HeaderFault → List ℕ
header_fault_text fault.TheVariants.NoHeader = codes "no header"
header_fault_text (fault.TheVariants.Missing name) = missing_text name
header_fault_text (fault.TheVariants.Twice name) = twice_text name
header_fault_text fault.TheVariants.Memory = codes "out of memory"
